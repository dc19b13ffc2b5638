-- The steps by one more track.
use Rattle.std.proofs.Common.{◌+◌, subst, sym, ap, get_or, arith, length}
use Rattle.optra_network.specs.declared.TrackId.{TrackId}
use Rattle.optra_graph.specs.Steps.{AreStepsBelow, bound_of}
use Rattle.optra_graph.proofs.TrackLemmas.{tail_in, skip_in, next_in, next_track, all_in, skip_track}
use Rattle.optra_graph.proofs.stepping.fill_steps.Goals as goal
use Rattle.optra_graph.proofs.stepping.fill_steps.Goals.{in-Some+in_ok-add_way, in_default}

pub find_way-requires-clause-tail : goal.find_way-requires-clause-tail
find_way-requires-clause-tail c = tail_in c.args.net.now c.args.bid.now.path c.args.layout c.requires.setting c.args.state c.requires.placed c.out_tracks-track-items.result.now c.out_tracks-track-items.ensures.tracks c.loop-track.track-index c.loop-track-test.true

pub add_way-requires-clause-before : goal.add_way-requires-clause-before
add_way-requires-clause-before c =
    subst (λ (t : TrackId). AreStepsBelow c.args.net.now c.args.bid.now.path c.args.layout c.args.state (bound_of t.0 0) c.loop-track.steps.items) (sym c.in-Some.ensures.0)
    (skip_in c.args.net.now c.args.bid.now.path c.args.layout c.requires.setting c.args.state c.requires.placed c.out_tracks-track-items.result.now c.out_tracks-track-items.ensures.tracks c.loop-track.steps.items c.loop-track.track-index c.loop-track.invariant.0 c.loop-track.invariant.1 c.loop-track-test.true c.loop-track.invariant.2)

pub loop-track-preserved : goal.loop-track-preserved
loop-track-preserved c =
    let split = next_in c.args.net.now c.args.bid.now.path c.args.layout c.requires.setting c.args.state c.requires.placed c.out_tracks-track-items.result.now c.out_tracks-track-items.ensures.tracks c.loop-track.track-index c.loop-track.invariant.0 c.loop-track.invariant.1 c.loop-track-test.true in
    let before = skip_in c.args.net.now c.args.bid.now.path c.args.layout c.requires.setting c.args.state c.requires.placed c.out_tracks-track-items.result.now c.out_tracks-track-items.ensures.tracks c.loop-track.steps.items c.loop-track.track-index c.loop-track.invariant.0 c.loop-track.invariant.1 c.loop-track-test.true c.loop-track.invariant.2 in (
      (get_or c.out_tracks-track-items.result.now c.loop-track.track-index (record { 0 = 0 })).0 + 1,
      split,
      elim c.match-find_way.branch [
        | in-Some+in_ok-add_way w ↦ rw w.steps-is (next_track c.args.net.now c.args.bid.now.path c.args.layout c.requires.setting c.args.state c.requires.placed w.add_way.new.steps.items (get_or c.out_tracks-track-items.result.now c.loop-track.track-index (record { 0 = 0 })).0
            (subst (λ (t : TrackId). AreStepsBelow c.args.net.now c.args.bid.now.path c.args.layout c.args.state (bound_of t.0 4) w.add_way.new.steps.items) w.in-Some.ensures.0 w.in_ok-add_way.ensures.steps))
        | in_default w ↦ rw w.steps-is (skip_track c.args.net.now c.args.bid.now.path c.args.layout c.requires.setting c.args.state c.requires.placed c.loop-track.steps.items (get_or c.out_tracks-track-items.result.now c.loop-track.track-index (record { 0 = 0 })) w.in_default.ensures before)
      ],
      elim c.match-find_way.branch [
        | in-Some+in_ok-add_way w ↦ let f = w.in_ok-add_way.ensures.few in let k = c.loop-track.invariant.3 in let e = ap (λ v. length v.items) w.steps-is in omega (arith, f, k, e)
        | in_default w ↦ let k = c.loop-track.invariant.3 in let e = ap (λ v. length v.items) w.steps-is in omega (arith, k, e)
      ],
    )

pub returns-clause-steps : goal.returns-clause-steps
returns-clause-steps c = all_in c.args.net.now c.args.bid.now.path c.args.layout c.requires.setting c.args.state c.requires.placed c.out_tracks-track-items.result.now c.out_tracks-track-items.ensures.tracks c.loop-track.steps.items c.loop-track.track-index c.loop-track.invariant.0 c.loop-track.invariant.1 c.loop-track-test.false c.loop-track.invariant.2

pub returns-clause-few : goal.returns-clause-few
returns-clause-few c =
    let k = c.loop-track.invariant.3 in
    let e = ap length c.out_tracks-track-items.ensures.tracks in
    let i = c.loop-track.auto.track-index-end in
    omega (arith, k, e, i)
