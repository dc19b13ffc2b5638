-- One more start.
use Rattle.std.proofs.Common.{arith, ◌≡◌, ◌+◌, ◌∙◌, ap, sym, subst, set, true, ℕ}
use Rattle.optra_graph.specs.Flags.{AreStartsSet}
use Rattle.optra_walk.specs.Moves.{start_state}
use Rattle.optra_graph.specs.Places.{deadline_of, place_of}
use Rattle.optra_graph.proofs.FlagLemmas.{starts_more, starts_all, far_start}
use Rattle.optra_graph.proofs.ReachLemmas.{start_timely}
use Rattle.optra_graph.proofs.PlaceLemmas.{place_below}
use Rattle.optra_graph.proofs.reaching.mark_starts.Goals as goal

pub place-place-requires-clause-placed : goal.place-place-requires-clause-placed
place-place-requires-clause-placed c = let t = start_timely c.args.net.now c.args.bid.now.path c.args.layout c.requires.setting c.loop-minute.minute (omega arith) (omega arith) in rw c.make_start.ensures t.placed

pub loop-minute-preserved : goal.loop-minute-preserved
loop-minute-preserved c =
    let e : c.place-place.result ≡ place_of c.args.layout (start_state c.args.bid.now.path c.loop-minute.minute) = c.place-place.ensures.value ∙ ap (place_of c.args.layout) c.make_start.ensures in
    let p = start_timely c.args.net.now c.args.bid.now.path c.args.layout c.requires.setting c.loop-minute.minute (omega arith) (omega arith) in
    let b = place_below c.args.layout (start_state c.args.bid.now.path c.loop-minute.minute) p.placed in
    let n = c.loop-minute.invariant.len in
    let first = c.requires.setting.laid.first in
    subst (λ (p : ℕ). AreStartsSet c.args.bid.now.path c.args.layout (c.loop-minute.minute + 1) c.args.flags.now.items (set c.loop-minute.flags.items p true)) (sym e)
    (starts_more c.args.bid.now.path c.args.layout c.loop-minute.minute c.args.flags.now.items c.loop-minute.flags.items (omega arith, omega arith) p (omega (arith, b, n)) c.loop-minute.invariant)

pub returns : goal.returns
returns c = starts_all c.args.bid.now.path c.args.layout c.loop-minute.minute (c.args.layout.first + c.args.layout.minutes) c.args.flags.now.items c.loop-minute.flags.items
    (far_start c.args.bid.now.path.depart.to (deadline_of c.args.layout 0 c.args.bid.now.path.origin) c.loop-minute.minute (omega arith)) c.loop-minute.invariant
