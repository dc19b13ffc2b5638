-- Minutes of stations that are lowered along a track.
use Rattle.std.proofs.Common.{◌≡◌, ℕ, ◌+◌, ◌≤◌, ◌<◌, ◌∙◌, inl, inr, Bool, List, None, Some, length, slice_get, slice_index, slice_set, sum, sym, ap, subst, arith}
use Rattle.std.specs.Option.{option_map}
use Rattle.std.proofs.lemmas.Bool.{cases_eq}
use Rattle.std.proofs.lemmas.List.{get_or-set_same, get_or-set_other}
use Rattle.std.proofs.lemmas.List.Sums.{sum_by-set}
use Rattle.optra_network.specs.Net.{Net, times_of, minutes_by}
use Rattle.optra_network.specs.declared.StationId.{StationId}
use Rattle.optra_network.specs.declared.TrackId.{TrackId}
use Rattle.optra_network.specs.declared.TypeId.{TypeId}
use Rattle.optra_network.specs.declared.Times.{Times}
use Rattle.optra_rests.specs.Reaches.{near_of, far_of, IsLeastAlong}

some_station : (x y : StationId) → Some x ≡ Some y → x ≡ y
some_station x y e = cc

pub no_times : (times : Times) → None ≡ Some times → ⊥
no_times times e = cc

-- by the ends of the track
pub along : (net : Net) (kind : TypeId) (back : Bool) (least : List ℕ) (track : TrackId) (near far : StationId) → option_map (near_of back) (slice_get net.tracks track.0) ≡ Some near
    → option_map (far_of back) (slice_get net.tracks track.0) ≡ Some far
    → ((times : Times) (a b : Bool) → times_of net track kind ≡ Some times → slice_index least far.0 ≤ slice_index least near.0 + minutes_by a b times) → IsLeastAlong net kind back least track
along net kind back least track near far near_is far_is below t times a b at has =
    let from = some_station near (near_of back t) (sym near_is ∙ ap (option_map (near_of back)) at) in
    let to = some_station far (far_of back t) (sym far_is ∙ ap (option_map (far_of back)) at) in
    subst (λ (s : StationId). slice_index least s.0 ≤ slice_index least (near_of back t).0 + minutes_by a b times) to
    (subst (λ (s : StationId). slice_index least far.0 ≤ slice_index least s.0 + minutes_by a b times) from (below times a b has))

-- one number is lowered
module _ (least : List ℕ) (i v : ℕ) (l : i < length least) (less : v < slice_index least i) where
  pub sum_less : sum (slice_set least i v) < sum least
  sum_less = let e = sum_by-set (λ (n : ℕ). n) least i v 0 l in omega (arith, e, less)

  pub none_more : (k : ℕ) → slice_index (slice_set least i v) k ≤ slice_index least k
  none_more k = elim (cases_eq k i) as (λ _. slice_index (slice_set least i v) k ≤ slice_index least k) [
    | inl e ↦
        let here = get_or-set_same least i v 0 l in
        subst (λ n. slice_index (slice_set least i v) n ≤ slice_index least n) (sym e) (omega (arith, here, less))
    | inr ne ↦ let other = get_or-set_other least i k v 0 ne in omega (arith, other)
  ]
