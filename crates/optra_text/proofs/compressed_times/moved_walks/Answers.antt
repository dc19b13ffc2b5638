-- Each walk is moved by its start, which is no later than its first departure.
use Rattle.std.proofs.Common.{◌≤◌, ◌<◌, ◌++◌, ◌∷◌, [], List, Option, None, length, All, IfSome, sym, ap, ◌∙◌, subst, arith}
use Rattle.std.specs.Prelude.{unwrap_or, slice_index_or}
use Rattle.std.proofs.lemmas.List.{take_all}
use Rattle.optra_network.specs.Net.{IsTrack}
use Rattle.optra_walk.specs.declared.Leg.{Leg}
use Rattle.optra_walk.specs.Values.{first_departure}
use Rattle.optra_walk.proofs.EarnLemmas.{choice_long}
use Rattle.optra_text.specs.CompressedTexts.{moved_walk, moved_walks}
use Rattle.optra_text.proofs.CompressedLemmas.{length-moved_walks, length-trains, moved_on_tracks, start_within, take-moved_walks}
use Rattle.optra_text.proofs.compressed_times.moved_walks.Goals as goal

pub bounds-starts-i : goal.bounds-starts-i
bounds-starts-i c =
    let same = choice_long c.args.inst.net.now c.args.inst.bids.now c.args.walks.now c.requires.choice in
    let trains = length-trains c.args.inst.bids.now c.args.walks.now same in
    let places = c.requires.starts.places in
    omega arith

pub moved_walk-requires : goal.moved_walk-requires
moved_walk-requires c =
    let same = choice_long c.args.inst.net.now c.args.inst.bids.now c.args.walks.now c.requires.choice in
    subst (λ (o : Option (List Leg)). IfSome o (λ legs. unwrap_or (slice_index_or c.args.starts.now c.walks.i None) 0 ≤ first_departure legs)) (sym c.index-walks-i.is)
    (start_within c.args.inst.bids.now c.args.walks.now c.args.starts.now c.walks.i c.index-walks-i.result c.walks-test.true same c.requires.starts)

pub walks-preserved : goal.walks-preserved
walks-preserved c =
    let same = choice_long c.args.inst.net.now c.args.inst.bids.now c.args.walks.now c.requires.choice in
    let trains = length-trains c.args.inst.bids.now c.args.walks.now same in
    let places = c.requires.starts.places in
    let within : c.walks.i < length c.args.starts.now = omega arith in
    let next = take-moved_walks c.args.starts.now c.args.walks.now c.walks.i None c.index-walks-i.result within c.walks-test.true in
    let here = rw (← c.index-walks-i.is) at next in
    c.in_ok-push.ensures.items
    ∙ ap (λ (w : Option (List Leg)). c.walks.moved.items ++ w ∷ []) c.in_ok-moved_walk.ensures
    ∙ ap (λ (t : List (Option (List Leg))). t ++ moved_walk (slice_index_or c.args.starts.now c.walks.i None) c.index-walks-i.result ∷ []) c.walks.invariant
    ∙ sym here

pub returns-clause-moved : goal.returns-clause-moved
returns-clause-moved c =
    let same = choice_long c.args.inst.net.now c.args.inst.bids.now c.args.walks.now c.requires.choice in
    let trains = length-trains c.args.inst.bids.now c.args.walks.now same in
    let places = c.requires.starts.places in
    let long = length-moved_walks c.args.starts.now c.args.walks.now (places ∙ trains) in
    c.walks.invariant ∙ take_all c.walks.i (moved_walks c.args.starts.now c.args.walks.now) (omega arith)

pub returns-clause-long : goal.returns-clause-long
returns-clause-long c =
    let same = choice_long c.args.inst.net.now c.args.inst.bids.now c.args.walks.now c.requires.choice in
    let trains = length-trains c.args.inst.bids.now c.args.walks.now same in
    let places = c.requires.starts.places in
    let long = length-moved_walks c.args.starts.now c.args.walks.now (places ∙ trains) in
    let all = c.walks.invariant ∙ take_all c.walks.i (moved_walks c.args.starts.now c.args.walks.now) (omega arith) in
    ap (λ (t : List (Option (List Leg))). length t) all ∙ long ∙ sym same

pub returns-clause-tracks : goal.returns-clause-tracks
returns-clause-tracks c =
    let same = choice_long c.args.inst.net.now c.args.inst.bids.now c.args.walks.now c.requires.choice in
    let trains = length-trains c.args.inst.bids.now c.args.walks.now same in
    let places = c.requires.starts.places in
    let long = length-moved_walks c.args.starts.now c.args.walks.now (places ∙ trains) in
    let all = c.walks.invariant ∙ take_all c.walks.i (moved_walks c.args.starts.now c.args.walks.now) (omega arith) in
    subst (λ (t : List (Option (List Leg))). All (λ walk. IfSome walk (All (λ leg. IsTrack c.args.inst.net.now leg.track))) t) (sym all)
    (moved_on_tracks c.args.inst.net.now c.args.inst.bids.now c.args.walks.now c.args.starts.now c.args.inst.proper c.requires.choice)
