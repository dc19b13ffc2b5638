-- One turn.
use Rattle.std.proofs.Common.{sym, subst, arith}
use Rattle.optra_search.specs.Searches.{IsReached}
use Rattle.optra_search.specs.Reached.{parts_of}
use Rattle.optra_search.proofs.SearchLemmas.{top_depth, entered_top, entered_node, dead_next}
use Rattle.optra_search.proofs.turning.turn.Goals as goal

pub enter-requires : goal.enter-requires
enter-requires g c =
    let net = c.args.inst.net.now in
    top_depth g.F.Row.Ord.cmp net (g.F.RowFamily.rows_of c.args.rows.now net) c.args.inst.bids.now c.args.means.now.limits.steps c.args.means.now.limits.budget (parts_of c.args.search) c.args.top c.requires.reached

pub bring_to-requires-clause-node : goal.bring_to-requires-clause-node
bring_to-requires-clause-node g c =
    let net = c.args.inst.net.now in
    let rows = g.F.RowFamily.rows_of c.args.rows.now net in
    let s = parts_of c.args.search in
    let node = c.enter.new.node in
    let is = entered_top g.F.Row.Ord.cmp net rows c.args.inst.bids.now c.args.means.now.limits.steps c.args.means.now.limits.budget s c.args.top node c.requires.reached c.in_ok-enter.ensures c.requires.below in
    entered_node g.F.Row.Ord.cmp net c.args.inst.proper rows c.args.inst.bids.now c.args.means.now.limits.steps c.args.means.now.limits.budget c.args.top.start (record s { node = node }) is

pub dead_over-requires-clause-node : goal.dead_over-requires-clause-node
dead_over-requires-clause-node g c =
    let net = c.args.inst.net.now in
    let rows = g.F.RowFamily.rows_of c.args.rows.now net in
    let s = parts_of c.args.search in
    let node = c.enter.new.node in
    let is = entered_top g.F.Row.Ord.cmp net rows c.args.inst.bids.now c.args.means.now.limits.steps c.args.means.now.limits.budget s c.args.top node c.requires.reached c.in_ok-enter.ensures c.requires.below in
    entered_node g.F.Row.Ord.cmp net c.args.inst.proper rows c.args.inst.bids.now c.args.means.now.limits.steps c.args.means.now.limits.budget c.args.top.start (record s { node = node }) is

pub end_dead-requires : goal.end_dead-requires
end_dead-requires g c =
    let most = c.args.means.now.budget in
    let below = c.requires.below in
    omega (arith, most, below)

pub returns-in_ok-after-in-Some-clause-reached : goal.returns-in_ok-after-in-Some-clause-reached
returns-in_ok-after-in-Some-clause-reached g c =
    let net = c.args.inst.net.now in
    let rows = g.F.RowFamily.rows_of c.args.rows.now net in
    let s = parts_of c.args.search in
    let node = c.enter.new.node in
    let is = entered_top g.F.Row.Ord.cmp net rows c.args.inst.bids.now c.args.means.now.limits.steps c.args.means.now.limits.budget s c.args.top node c.requires.reached c.in_ok-enter.ensures c.requires.below in
    let next = dead_next g.F.Row.Ord.cmp net c.args.inst.proper rows c.args.inst.bids.now c.args.means.now.limits.steps c.args.means.now.limits.budget c.args.top.start (record s { node = node }) is c.in-Some.reason (rw c.in-Some.is at c.dead_over.ensures) in
    subst (IsReached g.F.Row.Ord.cmp net rows c.args.inst.bids.now c.args.means.now.limits.steps c.args.means.now.limits.budget) (sym c.in_ok-after-in-Some.ensures) next
