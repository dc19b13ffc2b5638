-- The least minutes between an end of a walk and each station, by way of one stop more.
use Rattle.std.proofs.Common.{◌≡◌, ℕ, zero, suc, ◌+◌, ◌≤◌, ◌<◌, ◌∙◌, inl, inr, Bool, sym, List, [], ◌∷◌, ◌++◌, Some, slice_get, slice_index, slice_index_or, get_or, length, ap, subst, arith}
use Rattle.std.specs.Prelude.{All}
use Rattle.std.proofs.lemmas.Option.{slice_get-get_or}
use Rattle.std.proofs.lemmas.Bool.{cases_lt}
use Rattle.std.proofs.lemmas.List.{get_or_append_left, length-append}
use Rattle.std.proofs.Math.Seq.{get_or-append_seam}
use Rattle.optra_network.specs.Net.{Net, IsStation, track_id}
use Rattle.optra_bid.specs.Specs.{Path}
use Rattle.optra_bid.specs.declared.Stop.{Stop}
use Rattle.optra_rests.specs.Reaches.{AreLeast, IsLeastAlong, AreLevels, first_of, place_after}

-- a list that has an entry is one of some lists
pub level_there : (levels : List (List ℕ)) (n k : ℕ) → k < length (slice_index_or levels n []) → n < length levels
level_there [] n k l = absurd (omega arith)
level_there (x ∷ xs) zero k l = omega arith
level_there (x ∷ xs) (suc n) k l = let i = level_there xs n k l in omega (arith, i)

module _ (net : Net) (path : Path) (back : Bool) where
  -- by way of no stop
  pub levels_one : (least : List ℕ) → AreLeast net path.kind back (first_of back path) 0 least → AreLevels net path back (least ∷ []) 0
  levels_one least is = record {
    count = omega arith;
    len = λ n few. let z : n ≡ 0 = omega (arith, few) in ap (λ k. length (slice_index_or (least ∷ []) k [])) z ∙ is.len;
    each = λ n few t l. let z : n ≡ 0 = omega (arith, few) in subst (λ k. IsLeastAlong net path.kind back (slice_index_or (least ∷ []) k []) (track_id t)) (sym z) (is.each t l);
    first = is.first;
    halt = λ n s there few. absurd (omega (arith, few));
  }

  -- by way of one stop more
  pub levels_more : (levels : List (List ℕ)) (passed start : ℕ) (stop : Stop) (more : List ℕ) → slice_get path.stops (place_after back (length path.stops) passed) ≡ Some stop
      → AreLeast net path.kind back stop.station start more → start ≤ stop.min_dwell + slice_index (slice_index_or levels passed []) stop.station.0
      → AreLevels net path back levels passed → AreLevels net path back (levels ++ more ∷ []) (passed + 1)
  levels_more levels passed start stop more at least from are = record {
    count = let c = are.count in omega (arith, c, length-append levels (more ∷ []));
    len = λ n few. elim (cases_lt n (passed + 1)) as (λ _. length (slice_index_or (levels ++ more ∷ []) n []) ≡ length net.stations) [
      | inl l ↦ ap length (before n l) ∙ are.len n (omega (arith, l))
      | inr l ↦ ap length (here n (omega (arith, l, few))) ∙ least.len
    ];
    each = λ n few t l. elim (cases_lt n (passed + 1)) as (λ _. IsLeastAlong net path.kind back (slice_index_or (levels ++ more ∷ []) n []) (track_id t)) [
      | inl k ↦ subst (λ xs. IsLeastAlong net path.kind back xs (track_id t)) (sym (before n k)) (are.each n (omega (arith, k)) t l)
      | inr k ↦ subst (λ xs. IsLeastAlong net path.kind back xs (track_id t)) (sym (here n (omega (arith, k, few)))) (least.each t l)
    ];
    first = let e = ap (λ xs. slice_index xs (first_of back path).0) (before 0 (omega arith)) in let z = are.first in omega (arith, e, z);
    halt = λ n s there few. elim (cases_lt (n + 1) (passed + 1)) as (λ _. slice_index (slice_index_or (levels ++ more ∷ []) (n + 1) []) s.station.0 ≤ s.min_dwell + slice_index (slice_index_or (levels ++ more ∷ []) n []) s.station.0) [
      | inl k ↦
          let a = ap (λ xs. slice_index xs s.station.0) (before (n + 1) k) in
          let b = ap (λ xs. slice_index xs s.station.0) (before n (omega (arith, k))) in
          let h = are.halt n s there (omega (arith, k)) in
          omega (arith, a, b, h)
      | inr k ↦
          let last : n ≡ passed = omega (arith, k, few) in
          let same : s ≡ stop = some_stop s stop (sym there ∙ ap (λ m. slice_get path.stops (place_after back (length path.stops) m)) last ∙ at) in
          let station = ap (λ (x : Stop). x.station.0) same in
          let dwell = ap (λ (x : Stop). x.min_dwell) same in
          let a : slice_index (slice_index_or (levels ++ more ∷ []) (n + 1) []) s.station.0 ≡ slice_index more stop.station.0 = (λ i. slice_index (here (n + 1) (omega (arith, last)) i) (station i)) in
          let b : slice_index (slice_index_or (levels ++ more ∷ []) n []) s.station.0 ≡ slice_index (slice_index_or levels passed []) stop.station.0 = (λ i. slice_index (before n (omega (arith, last)) i) (station i)) ∙ ap (λ k. slice_index (slice_index_or levels k []) stop.station.0) last in
          let first = least.first in
          omega (arith, a, b, first, from, dwell)
    ];
  }
    where
      some_stop : (x y : Stop) → Some x ≡ Some y → x ≡ y
      some_stop x y e = cc

      before : (n : ℕ) → n < passed + 1 → slice_index_or (levels ++ more ∷ []) n [] ≡ slice_index_or levels n []
      before n l = let c = are.count in get_or_append_left levels (more ∷ []) [] n (omega (arith, l, c))

      here : (n : ℕ) → n ≡ passed + 1 → slice_index_or (levels ++ more ∷ []) n [] ≡ more
      here n e = let c = are.count in ap (λ k. slice_index_or (levels ++ more ∷ []) k []) (omega (arith, e, c)) ∙ get_or-append_seam levels more [] []

-- the stop behind so many
pub stop_there : (net : Net) (stops : List Stop) (place : ℕ) (stop : Stop) → place < length stops → stop ≡ get_or stops place stop → All (λ s. IsStation net s.station) stops
    → (slice_get stops place ≡ Some stop) × IsStation net stop.station
stop_there net stops place stop l at stations =
    let there : slice_get stops place ≡ Some stop = slice_get-get_or stops place stop l ∙ ap Some (sym at) in
    (there, subst (λ (x : Stop). IsStation net x.station) (sym at) (stations place stop l))
