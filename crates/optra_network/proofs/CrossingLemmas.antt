-- Crossings in both directions, and their reaches as a pass over the rows counts them.
use Rattle.std.proofs.Common.{◌≡◌, ℕ, ◌+◌, ◌-◌, ◌*◌, ◌/◌, ◌%◌, ◌<◌, ◌≤◌, min, nat_eq, ◌⊎◌, ⊎_elim, inl, inr, Bool, List, [], ◌∷◌, length, All, get_or, suc, set, take, slice_get, Some, None, Option, IfSome, IsSome, unwrap_or, refl, sym, ap, ◌∙◌, subst, arith, rules, eqb-true, eq-eqb}
use Rattle.std.specs.List.{sum_by}
use Rattle.std.specs.Map.{lookup}
use Rattle.std.proofs.lemmas.Bool.{cases_Bool, cases_lt, ne_eqb}
use Rattle.std.proofs.lemmas.List.Sums.{sum_by-cons, sum_by_more}
use Rattle.std.proofs.lemmas.Option.{slice_get_within, get_or_from_slice_get}
use Rattle.optra_network.specs.Net.{Net, IsBuilt, HasBothWays, IsWithinReach, IsCrossingRow, CrossingKey, CrossingRow, same_quadruple, turned, span_of, reach_by, reach_of, crossing_of, track_id}
use Rattle.optra_network.specs.Headways.{type_id}
use Rattle.optra_network.specs.Tables.{HoldsPairs}
use Rattle.optra_network.specs.Crossings.{AreReaches, cut_reach}
use Rattle.optra_network.specs.declared.TrackId.{TrackId}
use Rattle.optra_network.specs.declared.TypeId.{TypeId}
use Rattle.optra_network.proofs.NetLemmas.{IfSome-lookup, quadruple_same}
use Rattle.optra_network.proofs.TableLemmas.{HoldsPairs-set}

-- ---- both directions

-- a row whose other direction is there
abbrev pub IsTurned : List CrossingRow → CrossingRow → Type 0
IsTurned crossings row = IsSome (lookup (same_quadruple (turned row.0)) crossings)

not_none : (o : Option ℕ) → o ≡ None → IsSome o → ⊥
not_none None e s = grind arith
not_none (Some n) e s = cc

from_some : {X : Type 0} (o : Option X) (P : Type 0) → IsSome o → IfSome o (λ _. P) → P
from_some None P s h = absurd (grind arith)
from_some (Some x) P s h = h

pub both_ways-from_rows : (net : Net) → All (IsTurned net.crossings) net.crossings → HasBothWays net
both_ways-from_rows net all a b c d there =
    from_some (crossing_of net a b c d) (IsSome (crossing_of net b a d c)) there
    (IfSome-lookup (IsTurned net.crossings) (a.0, b.0, c.0, d.0) (same_quadruple (a.0, b.0, c.0, d.0)) (quadruple_same (a.0, b.0, c.0, d.0)) net.crossings all)

-- ---- the count

-- what a pass over the first rows has counted, cut at one more than the most
abbrev pub cut_sum : List CrossingRow → List CrossingRow → ℕ → ℕ → ℕ
cut_sum all rows t k = min (sum_by (reach_by all t k) rows) 4001

-- one more row, of a track and a type
pub cut_sum-own : (all : List CrossingRow) (i : ℕ) (d : CrossingRow) (t k span : ℕ) → i < length all → reach_by all t k (get_or all i d) ≡ span
    → cut_sum all (take (i + 1) all) t k ≡ min (cut_sum all (take i all) t k + span) 4001
cut_sum-own all i d t k span l e =
    let more = sum_by_more (reach_by all t k) all i d l in
    ap (λ n. min n 4001) (more ∙ ap (λ n. sum_by (reach_by all t k) (take i all) + n) e) ∙ cut (sum_by (reach_by all t k) (take i all)) span
  where
    cut : (a b : ℕ) → min (a + b) 4001 ≡ min (min a 4001 + b) 4001
    cut a b = omega arith

-- one more row, of another track or type
pub cut_sum-other : (all : List CrossingRow) (i : ℕ) (d : CrossingRow) (t k : ℕ) → i < length all → reach_by all t k (get_or all i d) ≡ 0
    → cut_sum all (take (i + 1) all) t k ≡ cut_sum all (take i all) t k
cut_sum-other all i d t k l e =
    ap (λ n. min n 4001) (sum_by_more (reach_by all t k) all i d l ∙ ap (λ n. sum_by (reach_by all t k) (take i all) + n) e ∙ zero (sum_by (reach_by all t k) (take i all)))
  where
    zero : (a : ℕ) → a + 0 ≡ a
    zero a = omega arith

pub reach_by-own : (all : List CrossingRow) (row : CrossingRow) (t k : ℕ) → t ≡ row.0.0 → k ≡ row.0.2 → reach_by all t k row ≡ span_of all row
reach_by-own all row t k et ek = rw (eq-eqb t row.0.0 et, eq-eqb k row.0.2 ek) refl

pub reach_by-other : (all : List CrossingRow) (row : CrossingRow) (t k : ℕ) → (t ≡ row.0.0 → k ≡ row.0.2 → ⊥) → reach_by all t k row ≡ 0
reach_by-other all row t k ne = elim (cases_Bool (nat_eq t row.0.0)) [
  | inl same ↦ rw (same, ne_eqb k row.0.2 (ne (eqb-true t row.0.0 same))) refl
  | inr other ↦ rw other refl
]

-- the pass goes on by one row
pub reaches_more : (all : List CrossingRow) (tracks i t k span v : ℕ) (row : CrossingRow) (table : List ℕ) → HoldsPairs (cut_sum all (take i all)) tracks table
    → slice_get all i ≡ Some row → t ≡ row.0.0 → k ≡ row.0.2 → t < tracks → k < 16 → span_of all row ≡ span → v ≡ min (cut_sum all (take i all) t k + span) 4001
    → HoldsPairs (cut_sum all (take (i + 1) all)) tracks (set table (t * 16 + k) v)
reaches_more all tracks i t k span v row table holds at et ek lt lk e ev =
    let within = slice_get_within all i row at in
    let is : get_or all i row ≡ row = get_or_from_slice_get all i row row at in
    HoldsPairs-set (cut_sum all (take i all)) (cut_sum all (take (i + 1) all)) tracks table t k v holds lt lk
    (cut_sum-own all i row t k span within (ap (reach_by all t k) is ∙ reach_by-own all row t k et ek ∙ e) ∙ sym ev)
    (λ a b ne. cut_sum-other all i row a b within (ap (reach_by all a b) is ∙ reach_by-other all row a b (λ ea eb. ne (ea ∙ sym et) (eb ∙ sym ek))))

-- what stands at a place of the count
pub cut_at : (all some : List CrossingRow) (tracks t k : ℕ) (table : List ℕ) (d : ℕ) → HoldsPairs (cut_sum all some) tracks table → t < tracks → k < 16
    → get_or table (t * 16 + k) d ≡ cut_sum all some t k
cut_at all some tracks t k table d holds lt lk = get_or_from_slice_get table (t * 16 + k) (cut_sum all some t k) d (holds.each t k lt lk)

pub cut_most : (all some : List CrossingRow) (t k n : ℕ) → n ≡ cut_sum all some t k → n ≤ 4001
cut_most all some t k n e = small n (sum_by (reach_by all t k) some) e
  where
    small : (a b : ℕ) → a ≡ min b 4001 → a ≤ 4001
    small a b h = omega arith

-- what is known of a row at a place
pub record IsRowAt (net : Net) (row : CrossingRow) : Type 0 where
  pub track : row.0.0 < length net.tracks
  pub kind : row.0.2 < 16
  pub low : 1 ≤ row.1
  pub most : row.1 ≤ 120

pub row_at : (net : Net) (i : ℕ) (row : CrossingRow) → IsBuilt net → slice_get net.crossings i ≡ Some row → IsRowAt net row
row_at net i row built at =
    let is : IsCrossingRow (length net.tracks) (length net.types) row =
    subst (IsCrossingRow (length net.tracks) (length net.types)) (get_or_from_slice_get net.crossings i row row at) (built.crossings.each i row (slice_get_within net.crossings i row at)) in
    let few = built.counts.few_types in
    let first = is.first in
    record { track = is.first_track; kind = omega arith; low = is.minutes.0; most = is.minutes.1 }

-- a crossing that isn't there in its other direction
pub one_way : (net : Net) (t u a b m : ℕ) → lookup (same_quadruple (t, u, a, b)) net.crossings ≡ Some m → lookup (same_quadruple (u, t, b, a)) net.crossings ≡ None → HasBothWays net → ⊥
one_way net t u a b m there absent both =
    not_none (lookup (same_quadruple (u, t, b, a)) net.crossings) absent (both (track_id t) (track_id u) (type_id a) (type_id b) (subst IsSome (sym there) (found m)))
  where
    found : (n : ℕ) → IsSome (Some n)
    found n = search rules

-- the other direction is found
pub span_is : (all : List CrossingRow) (row : CrossingRow) (minutes back : ℕ) → row.1 ≡ minutes → lookup (same_quadruple (turned row.0)) all ≡ Some back → span_of all row ≡ minutes + back - 1
span_is all row minutes back e found = ap (λ o. row.1 + unwrap_or o 0 - 1) found ∙ ap (λ n. n + back - 1) e

-- ---- the test at the end

no_rows : (all rows : List CrossingRow) (t k : ℕ) → All (λ row. reach_by all t k row ≡ 0) rows → sum_by (reach_by all t k) rows ≡ 0
no_rows all [] t k h = refl
no_rows all (row ∷ rows) t k h =
    let first : reach_by all t k row ≡ 0 = h 0 row (omega arith) in
    let rest : sum_by (reach_by all t k) rows ≡ 0 = no_rows all rows t k (λ j d l. h (suc j) d (omega arith)) in
    sum_by-cons (reach_by all t k) row rows ∙ (λ i. first i + rest i)

module _ (net : Net) where
  -- past the tracks and the types there is nothing
  reach_past : IsBuilt net → (t : TrackId) (k : TypeId) → (length net.tracks ≤ t.0) ⊎ (16 ≤ k.0) → reach_of net t k ≡ 0
  reach_past built t k past = no_rows net.crossings net.crossings t.0 k.0 (λ j d l.
      let row = built.crossings.each j d l in
      let few = built.counts.few_types in
      let first_track = row.first_track in
      let first = row.first in
      reach_by-other net.crossings (get_or net.crossings j d) t.0 k.0 (λ et ek. ⊎_elim (λ p. omega (arith, p, et, first_track)) (λ p. omega (arith, p, ek, first, few)) past))

  pub within_reach-from : (reaches : List ℕ) → AreReaches net reaches → All (λ n. n ≤ 4000) reaches → IsWithinReach net
  within_reach-from reaches are all t k =
      ⊎_elim
      (λ lt. ⊎_elim
      (λ lk.
      let at = are.cut.each t.0 k.0 lt lk in
      let within = slice_get_within reaches (t.0 * 16 + k.0) _ at in
      let small : cut_reach net t.0 k.0 ≤ 4000 =
      subst (λ n. n ≤ 4000) (get_or_from_slice_get reaches (t.0 * 16 + k.0) (cut_reach net t.0 k.0) 0 at) (all (t.0 * 16 + k.0) 0 within) in
      below (reach_of net t k) small)
      (λ past. nothing (reach_of net t k) (reach_past are.built t k (inr past)))
      (cases_lt k.0 16))
      (λ past. nothing (reach_of net t k) (reach_past are.built t k (inl past)))
      (cases_lt t.0 (length net.tracks))
    where
      below : (n : ℕ) → min n 4001 ≤ 4000 → n ≤ 4000
      below n h = omega arith

      nothing : (n : ℕ) → n ≡ 0 → n ≤ 4000
      nothing n e = omega arith

  pub within_reach-to : (reaches : List ℕ) → AreReaches net reaches → IsWithinReach net → All (λ n. n ≤ 4000) reaches
  within_reach-to reaches are reach n d l =
      let len = are.cut.len in
      let place : (n / 16) * 16 + n % 16 ≡ n = omega arith in
      let at : slice_get reaches n ≡ Some (cut_reach net (n / 16) (n % 16)) =
      subst (λ (m : ℕ). slice_get reaches m ≡ Some (cut_reach net (n / 16) (n % 16))) place (are.cut.each (n / 16) (n % 16) (omega arith) (omega arith)) in
      let is : get_or reaches n d ≡ cut_reach net (n / 16) (n % 16) = get_or_from_slice_get reaches n (cut_reach net (n / 16) (n % 16)) d at in
      let most = reach (track_id (n / 16)) (type_id (n % 16)) in
      subst (λ (m : ℕ). m ≤ 4000) (sym is) (cut (reach_of net (track_id (n / 16)) (type_id (n % 16))) most)
    where
      cut : (m : ℕ) → m ≤ 4000 → min m 4001 ≤ 4000
      cut m h = omega arith

-- a network without crossings has both directions of each, and no reach
pub no_crossings : (net : Net) → net.crossings ≡ [] → HasBothWays net × IsWithinReach net
no_crossings net e = (
  (λ a b c d there. absurd (none (same_quadruple (a.0, b.0, c.0, d.0)) net.crossings e there)),
  (λ t k. subst (λ (l : List CrossingRow). sum_by (reach_by l t.0 k.0) l ≤ 4000) (sym e) (omega arith)),
)
  where
    none : (test : CrossingKey → Bool) (rows : List CrossingRow) → rows ≡ [] → IsSome (lookup test rows) → ⊥
    none test [] same there = not_none None refl there
    none test (row ∷ rows) same there = cc
