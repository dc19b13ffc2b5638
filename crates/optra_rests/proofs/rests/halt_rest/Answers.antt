-- The leg that halts, and the rest behind it.
use Rattle.std.proofs.Common.{◌≡◌, ap, length, arith, refl, subst, sym, pos}
use Rattle.std.proofs.lemmas.Option.{slice_get_within}
use Rattle.optra_network.specs.Net.{Net}
use Rattle.optra_walk.specs.declared.Leg.{Leg}
use Rattle.optra_walk.specs.Families.{IsUsable}
use Rattle.optra_walk.specs.declared.Action.TheVariants.{Halt}
use Rattle.optra_rests.specs.Tables.{rest_at}
use Rattle.optra_walk.specs.Moves.{leg_by}
use Rattle.optra_rests.specs.Ways.{IsLegBy}
use Rattle.optra_rests.proofs.MoveLemmas.{after_halt, halt_few, halt_usable, halt_later, halt_best, named_size, named_best}
use Rattle.optra_rests.proofs.ReachLemmas.{track_there}
use Rattle.optra_rests.proofs.rests.halt_rest.Goals as goal

pub overflow_add-way : goal.overflow_add-way
overflow_add-way g c =
    let w = g.W.Weighing.weights c.args.weighing.now in
    let few = halt_few w c.args.net.now c.args.bid.now c.args.table.now c.args.way.from c.requires.ready c.args.way c.requires.way c.requires.weights c.args.dwell c.requires.halt in
    let bound = c.requires.way.halt_bound in
    let late = c.requires.ready.placed.late in
    let end = c.requires.ready.setting.small.end in
    omega (arith, few, bound, late, end)

pub rest-rest-requires-clause-placed : goal.rest-rest-requires-clause-placed
rest-rest-requires-clause-placed g c =
    (halt_later (g.W.Weighing.weights c.args.weighing.now) c.args.net.now c.args.bid.now c.args.table.now c.args.way.from c.requires.ready c.args.way c.requires.way c.requires.weights c.args.dwell c.requires.halt).0

pub begin_with-requires-clause-track : goal.begin_with-requires-clause-track
begin_with-requires-clause-track g c =
    let w = g.W.Weighing.weights c.args.weighing.now in
    let net = c.args.net.now in
    let there = track_there net.tracks c.args.way.track.0 c.args.way.from.station c.requires.way.tail in
    let within = slice_get_within net.tracks c.args.way.track.0 there.0 there.1 in
    let tracks : length w.net.tracks ≡ length net.tracks = ap (λ (n : Net). length n.tracks) c.requires.weights.net_is in
    let track : c.leg.result.track.0 ≡ c.args.way.track.0 = ap (λ (l : Leg). l.track.0) c.leg.ensures in
    let len = c.requires.asks.len in
    omega (arith, within, tracks, track, len)

pub begin_with-requires-clause-rest : goal.begin_with-requires-clause-rest
begin_with-requires-clause-rest g c =
    let w = g.W.Weighing.weights c.args.weighing.now in
    let net = c.args.net.now in
    let bid = c.args.bid.now in
    let after = after_halt net bid.path c.args.way.from c.args.way c.requires.way c.args.dwell in
    let best = halt_later w net bid c.args.table.now c.args.way.from c.requires.ready c.args.way c.requires.way c.requires.weights c.args.dwell c.requires.halt in
    named_size (leg_by c.args.way.from c.args.way.track (Halt c.args.dwell)) c.leg.result after (rest_at c.args.table.now after) c.rest-rest.result (let l = c.requires.way.halt_later in omega arith) best.1.size c.leg.ensures c.rest-rest.ensures

pub returns-clause-best : goal.returns-clause-best
returns-clause-best g c =
    let w = g.W.Weighing.weights c.args.weighing.now in
    let net = c.args.net.now in
    let bid = c.args.bid.now in
    let after = after_halt net bid.path c.args.way.from c.args.way c.requires.way c.args.dwell in
    named_best w net bid c.args.way.from (IsLegBy c.args.way.from c.args.way.track (Halt c.args.dwell)) (leg_by c.args.way.from c.args.way.track (Halt c.args.dwell)) c.leg.result (pos 0) (pos 0) (rest_at c.args.table.now after) c.rest-rest.result
    c.begin_with.result c.leg.ensures refl c.rest-rest.ensures c.begin_with.ensures.value c.begin_with.ensures.size refl
    (halt_best w net bid c.args.table.now c.args.way.from c.requires.ready c.args.way c.requires.way c.requires.weights c.args.dwell c.requires.halt)

pub begin_with-requires-clause-usable : goal.begin_with-requires-clause-usable
begin_with-requires-clause-usable g c =
    let w = g.W.Weighing.weights c.args.weighing.now in
    subst (λ (leg : Leg). IsUsable w.net w.kind leg) (sym c.leg.ensures)
    (halt_usable w c.args.net.now c.args.bid.now c.args.table.now c.args.way.from c.requires.ready c.args.way c.requires.way c.requires.weights c.args.dwell c.requires.halt)

pub rest-rest-requires-clause-table : goal.rest-rest-requires-clause-table
rest-rest-requires-clause-table g c = c.requires.ready.is_table

pub begin_with-requires-clause-asks : goal.begin_with-requires-clause-asks
begin_with-requires-clause-asks g c = c.requires.asks

pub returns-clause-asks : goal.returns-clause-asks
returns-clause-asks g c = c.begin_with.ensures.asks
