-- The table is turned to the bid's layout and reach, which fit one another.
use Rattle.std.proofs.Common.{◌∙◌, sym, subst, arith}
use Rattle.optra_rests.specs.Asks.{AreAsked}
use Rattle.optra_rests.specs.Reaches.{IsReach}
use Rattle.optra_rests.specs.Settings.{IsSetting}
use Rattle.optra_rests.proofs.AskLemmas.{asked_none}
use Rattle.optra_rests.proofs.table.search.Goals as goal

pub turn_to-requires-clause-small : goal.turn_to-requires-clause-small
turn_to-requires-clause-small g c = c.make_layout.ensures.small

pub turn_to-requires-clause-from : goal.turn_to-requires-clause-from
turn_to-requires-clause-from g c = c.in_ok-reach.ensures.behind.len 0 (omega arith) ∙ sym c.make_layout.ensures.laid.stations

pub turn_to-requires-clause-on : goal.turn_to-requires-clause-on
turn_to-requires-clause-on g c = c.in_ok-reach.ensures.ahead.len 0 (omega arith) ∙ sym c.make_layout.ensures.laid.stations

pub fill-requires-clause-table : goal.fill-requires-clause-table
fill-requires-clause-table g c = c.in_ok-turn_to.ensures.table

pub fill-requires-clause-setting : goal.fill-requires-clause-setting
fill-requires-clause-setting g c = subst (IsSetting c.args.net.now c.args.bid.now.path) (sym c.in_ok-turn_to.ensures.laid_out) c.make_layout.ensures

pub fill-requires-clause-reach : goal.fill-requires-clause-reach
fill-requires-clause-reach g c = subst (IsReach c.args.net.now c.args.bid.now.path) (sym c.in_ok-turn_to.ensures.reach) c.in_ok-reach.ensures

pub best_start-requires-clause-filled : goal.best_start-requires-clause-filled
best_start-requires-clause-filled g c = c.fill.ensures

pub make_reach-requires : goal.make_reach-requires
make_reach-requires g c = c.requires.path

pub make_layout-requires : goal.make_layout-requires
make_layout-requires g c = c.requires.path

pub fill-requires-clause-weights : goal.fill-requires-clause-weights
fill-requires-clause-weights g c = c.requires.weights

pub best_start-requires-clause-weights : goal.best_start-requires-clause-weights
best_start-requires-clause-weights g c = c.requires.weights

pub returns-clause-best : goal.returns-clause-best
returns-clause-best g c = c.best_start.ensures.best

pub returns-clause-size : goal.returns-clause-size
returns-clause-size g c = c.best_start.ensures.size

pub fill-requires-clause-asks : goal.fill-requires-clause-asks
fill-requires-clause-asks g c =
    let w = g.W.Weighing.weights c.args.weighing.now in
    subst (AreAsked w) (sym c.deref_mut.ensures.value) (asked_none w c.args.net.now c.track_count.result c.in_ok-asks.asks.items c.requires.weights.net_is c.track_count.ensures.count c.in_ok-asks.ensures)
