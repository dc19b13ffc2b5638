-- One level more.
use Rattle.std.proofs.Common.{◌≡◌, ◌+◌, ◌<◌, ◌≤◌, ◌∙◌, ◌++◌, ◌∷◌, [], ℕ, length, map, slice_index, slice_index_or, List, Vec, Global, sym, ap, subst, arith}
use Rattle.std.proofs.lemmas.List.{map-append}
use Rattle.optra_network.specs.declared.StationId.{StationId}
use Rattle.optra_network.specs.declared.TypeId.{TypeId}
use Rattle.optra_rests.specs.Reaches.{AreLeast, AreLevels, first_of}
use Rattle.optra_rests.proofs.LevelLemmas.{levels_more, levels_one}
use Rattle.optra_rests.proofs.reach.find_levels.Goals as goal

pub stops-init : goal.stops-init
stops-init c =
    let net = c.args.net.now in
    let path = c.args.bid.now.path in
    let back = c.args.back in
    let items = λ (level : Vec ℕ Global). level.items in
    let level = c.in_ok-least_minutes.field-0 in
    let made : map items c.push.new.self.items ≡ level.items ∷ [] = ap (map items) (c.in_ok-push.ensures.items ∙ ap (λ (vs : List (Vec ℕ Global)). vs ++ level ∷ []) c.new-levels.ensures.items) in
    let at = subst (λ (station : StationId). AreLeast net c.kind_of-kind.result back station 0 level.items) c.first_end-end.ensures.first c.in_ok-least_minutes.ensures in
    let least = subst (λ (kind : TypeId). AreLeast net kind back (first_of back path) 0 level.items) c.kind_of-kind.ensures at in
    subst (λ (ls : List (List ℕ)). AreLevels net path back ls 0) (sym made) (levels_one net path back level.items least)

pub stops-preserved : goal.stops-preserved
stops-preserved c =
    let net = c.args.net.now in
    let path = c.args.bid.now.path in
    let items = λ (level : Vec ℕ Global). level.items in
    let levels = map items c.stops.levels.items in
    let passed = c.stops.passed in
    let stop = c.stop_after-stop.result in
    let start = c.saturating_add-start.result in
    let e = ap (λ (vs : List (Vec ℕ Global)). slice_index (slice_index_or (map items vs) passed []) stop.station.0) c.deref.ensures.value in
    let minutes = c.minutes_by.ensures in
    let sum = c.saturating_add-start.ensures in
    let from : start ≤ stop.min_dwell + slice_index (slice_index_or levels passed []) stop.station.0 = omega (arith, e, minutes, sum) in
    let least = subst (λ (kind : TypeId). AreLeast net kind c.args.back stop.station start c.in_ok-level.level.items) c.kind_of-kind.ensures c.in_ok-level.ensures in
    let made : map items c.push-in-stops.new.self.items ≡ levels ++ c.in_ok-level.level.items ∷ [] =
    ap (map items) c.in_ok-push-2.ensures.items ∙ map-append items c.stops.levels.items (c.in_ok-level.level ∷ []) in
    subst (λ (ls : List (List ℕ)). AreLevels net path c.args.back ls (passed + 1)) (sym made)
    (levels_more net path c.args.back levels passed start stop c.in_ok-level.level.items c.stop_after-stop.ensures.stop least from c.stops.invariant)

pub first_end-end-requires : goal.first_end-end-requires
first_end-end-requires c = c.requires

pub least_minutes-requires : goal.least_minutes-requires
least_minutes-requires c = c.first_end-end.ensures.there

pub least_minutes-requires-in-stops : goal.least_minutes-requires-in-stops
least_minutes-requires-in-stops c = c.stop_after-stop.ensures.there

pub stop_after-stop-requires-clause-path : goal.stop_after-stop-requires-clause-path
stop_after-stop-requires-clause-path c = c.requires

pub stops-smaller : goal.stops-smaller
stops-smaller c = omega (arith, c.stops-test.true)

pub stop_after-stop-requires-clause-within : goal.stop_after-stop-requires-clause-within
stop_after-stop-requires-clause-within c = let there = c.stops-test.true in let same = ap length c.stops_of-passed-end.ensures in omega (arith, there, same)

pub minutes_by-requires : goal.minutes_by-requires
minutes_by-requires c =
    let items = λ (level : Vec ℕ Global). level.items in
    let passed = c.stops.passed in
    let long = ap (λ (vs : List (Vec ℕ Global)). length (slice_index_or (map items vs) passed [])) c.deref.ensures.value ∙ c.stops.invariant.len passed (omega arith) in
    subst (λ n. c.stop_after-stop.result.station.0 < n) (sym long) c.stop_after-stop.ensures.there

pub returns : goal.returns
returns c =
    let past = c.stops-test.false in
    let end = c.stops.auto.passed-end in
    let same = ap length c.stops_of-passed-end.ensures in
    let all : c.stops.passed ≡ length c.args.bid.now.path.stops = omega (arith, past, end, same) in
    subst (λ n. AreLevels c.args.net.now c.args.bid.now.path c.args.back (map (λ (level : Vec ℕ Global). level.items) c.stops.levels.items) n) all c.stops.invariant
