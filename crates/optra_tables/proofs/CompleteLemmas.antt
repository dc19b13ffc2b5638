-- Whether each headway is there, and each crossing in both directions and within reach, by the rows of the network.
use Rattle.std.proofs.Common.{◌≡◌, ◌+◌, ◌<◌, ◌≤◌, ◌↔◌, ◌⊎◌, ◌||◌, ◌&&◌, ℕ, zero, suc, Bool, true, false, cond, not, List, [], ◌∷◌, length, get_or, Some, IfOk, IfErr, OnOk, is_some, nat_eq, refl, sym, ◌∙◌, subst, inl, inr, arith, eq-eqb, eqb-true}
use Rattle.std.proofs.lemmas.Bool.{cases_Bool, le-leb, leb-true}
use Rattle.std.proofs.lemmas.List.Sums.{list_all-from_AllPass, AllPass-from_list_all, sum_by-cons}
use Rattle.std.specs.List.{list_all, sum_by}
use Rattle.std.specs.Map.{lookup}
use Rattle.std.specs.Prelude.{Result, Ok, Err}
use Rattle.optra_network.specs.Headways.{type_id}
use Rattle.optra_network.specs.Net.{CrossingRow, HasAllHeadways, HasBothWays, IsWithinReach, Net, reach_by, reach_of, same_pair, same_quadruple, same_triple, track_id}
use Rattle.optra_network.specs.Refusals.{IsFinishFault}
use Rattle.optra_network.specs.declared.NetFault.{NetFault}
use Rattle.optra_network.specs.declared.NetFault.TheVariants as net_faults
use Rattle.optra_network.specs.declared.Times.{Times}
use Rattle.optra_network.specs.declared.TrackId.{TrackId}
use Rattle.optra_network.specs.declared.TypeId.{TypeId}
use Rattle.optra_network.specs.declared.NetRefusal.TheVariants.{TakenName, UnknownName, Range, SelfLoop, Repeated, MissingHeadway, TooMany, OneWayCrossing, Reach}
use Rattle.optra_network.proofs.CrossingLemmas.{both_ways-from_rows, no_crossings}
use Rattle.optra_network.proofs.NetLemmas.{pair_same, pair_self, quadruple_self}
use Rattle.optra_tables.specs.Networks.{crossings_refusal, has_both_ways, is_complete, is_near, is_turned, is_within_reach, whole_refusal}
use Rattle.optra_tables.specs.Outcomes.{Gives, IsNetAnswer, fault, net_outcome}
use Rattle.optra_tables.specs.declared.Kind.TheVariants as kinds
use Rattle.optra_tables.specs.declared.ReadError.{ReadError}
use Rattle.optra_tables.specs.declared.Table.TheVariants.{Crossings, Headways}

abbrev Row : Type 0
Row = (ℕ × ℕ) × Times

and_both : (a b : Bool) → (a && b) ≡ true → (a ≡ true) × (b ≡ true)
and_both true b e = (refl, e)
and_both false b e = absurd (cc e)

-- what holds of each row holds of the one that is looked up
find_row : (key : ℕ × ℕ) (p : Row → Bool) (rows : List Row) → is_some (lookup (same_pair key) rows) ≡ true → list_all p rows ≡ true → (times : Times) × (p (key, times) ≡ true)
find_row key p [] there all = absurd (cc there)
find_row key p (r ∷ rows) there all = elim (cases_Bool (same_pair key r.0)) [
  | inl here ↦ (r.1, subst (λ (k : ℕ × ℕ). p (k, r.1) ≡ true) (sym (pair_same key r.0 here)) (and_both (p r) (list_all p rows) all).0)
  | inr other ↦ find_row key p rows (rw other at there) (and_both (p r) (list_all p rows) all).1
]

-- each row is found by its key
row_found : (rows : List Row) (k : ℕ) (d : Row) → k < length rows → is_some (lookup (same_pair (get_or rows k d).0) rows) ≡ true
row_found [] k d h = absurd (omega arith)
row_found (r ∷ rows) zero d h = rw (pair_self r.0) refl
row_found (r ∷ rows) (suc k) d h = found (same_pair (get_or rows k d).0 r.0) (row_found rows k d (omega arith))
  where
    found : (b : Bool) → is_some (lookup (same_pair (get_or rows k d).0) rows) ≡ true → is_some (cond b (Some r.1) (lookup (same_pair (get_or rows k d).0) rows)) ≡ true
    found true h = refl
    found false h = h

abbrev fits : Net → Row → Row → Bool
fits net a b = not (nat_eq a.0.0 b.0.0) || is_some (lookup (same_triple (a.0.0, a.0.1, b.0.1)) net.headways)

second_of : (x : ℕ) (b : Bool) → (not (nat_eq x x) || b) ≡ true → b ≡ true
second_of x b e = rw (eq-eqb x x refl) at e

pub complete_to : (net : Net) → is_complete net ≡ true → HasAllHeadways net
complete_to net e t a b ma mb =
    let outer = find_row (t.0, a.0) (λ r. list_all (fits net r) net.running) net.running ma e in
    let inner = find_row (t.0, b.0) (fits net ((t.0, a.0), outer.0)) net.running mb outer.1 in
    second_of t.0 _ inner.1

pub complete_from : (net : Net) → HasAllHeadways net → is_complete net ≡ true
complete_from net h =
    list_all-from_AllPass (λ a. list_all (fits net a) net.running) net.running (λ k d lk.
    list_all-from_AllPass (fits net (get_or net.running k d)) net.running (λ l f ll.
    pair_fits (get_or net.running k d) (get_or net.running l f) (row_found net.running k d lk) (row_found net.running l f ll)))
  where
    pair_fits : (a b : Row) → is_some (lookup (same_pair a.0) net.running) ≡ true → is_some (lookup (same_pair b.0) net.running) ≡ true → fits net a b ≡ true
    pair_fits a b ma mb = elim (cases_Bool (nat_eq a.0.0 b.0.0)) [
      | inl same ↦
          let track : a.0.0 ≡ b.0.0 = eqb-true a.0.0 b.0.0 same in
          let mb2 : is_some (lookup (same_pair (a.0.0, b.0.1)) net.running) ≡ true = rw track mb in
          let there = h (record { 0 = a.0.0 }) (record { 0 = a.0.1 }) (record { 0 = b.0.1 }) ma mb2 in
          rw (same, there) refl
      | inr other ↦ rw other refl
    ]

not_complete : (net : Net) (b : Bool) → is_complete net ≡ b → (HasAllHeadways net → ⊥) → is_complete net ≡ false
not_complete net true e h = absurd (h (complete_to net e))
not_complete net false e h = e

-- what the builder answers at the end is the outcome of the whole table, where there is no crossing
pub finish_first_gives : (net : Net) (answer : Result Net NetFault) (result : Result Net ReadError) → net.crossings ≡ [] → IfOk answer (λ done. done ≡ net) → OnOk answer (HasAllHeadways net)
    → IfErr answer (IsFinishFault net) → IsNetAnswer Headways 0 answer result → Gives (λ done. done) result (net_outcome Headways 0 (whole_refusal net) net)
finish_first_gives net (Ok done) result none same complete err is = rw (is, complete_from net complete, same) refl
finish_first_gives net (Err (net_faults.Refused MissingHeadway)) result none same complete err is = rw (is, not_complete net (is_complete net) refl err) refl
finish_first_gives net (Err (net_faults.Refused OneWayCrossing)) result none same complete err is = absurd (err.1 (no_crossings net none).0)
finish_first_gives net (Err (net_faults.Refused Reach)) result none same complete err is = absurd (err.2 (no_crossings net none).1)
finish_first_gives net (Err (net_faults.Refused TakenName)) result none same complete err is = absurd err
finish_first_gives net (Err (net_faults.Refused UnknownName)) result none same complete err is = absurd err
finish_first_gives net (Err (net_faults.Refused Range)) result none same complete err is = absurd err
finish_first_gives net (Err (net_faults.Refused SelfLoop)) result none same complete err is = absurd err
finish_first_gives net (Err (net_faults.Refused Repeated)) result none same complete err is = absurd err
finish_first_gives net (Err (net_faults.Refused TooMany)) result none same complete err is = absurd err
finish_first_gives net (Err net_faults.NoMemory) result none same complete err is = rw is tt

-- ---- headways, before the crossings

-- what the builder tells of headways is the outcome of their whole table
pub require_gives : (net : Net) (whole : Bool) → (whole ≡ true ↔ HasAllHeadways net) → whole ≡ true → net_outcome Headways 0 (whole_refusal net) net ≡ Ok net
require_gives net whole iff e = rw (complete_from net (iff.0 e)) refl

pub require_fails : (net : Net) (whole : Bool) → (whole ≡ true ↔ HasAllHeadways net) → whole ≡ false → net_outcome Headways 0 (whole_refusal net) net ≡ Err (fault Headways 0 (kinds.Net MissingHeadway))
require_fails net whole iff e = rw (not_complete net (is_complete net) refl (λ h. absurd (cc (iff.1 h, e)))) refl

-- ---- crossings

abbrev Cross : Type 0
Cross = CrossingRow

quadruple_found : (rows : List Cross) (k : ℕ) (d : Cross) → k < length rows → is_some (lookup (same_quadruple (get_or rows k d).0) rows) ≡ true
quadruple_found [] k d h = absurd (omega arith)
quadruple_found (r ∷ rows) zero d h = rw (quadruple_self r.0) refl
quadruple_found (r ∷ rows) (suc k) d h = found (same_quadruple (get_or rows k d).0 r.0) (quadruple_found rows k d (omega arith))
  where
    found : (b : Bool) → is_some (lookup (same_quadruple (get_or rows k d).0) rows) ≡ true → is_some (cond b (Some r.1) (lookup (same_quadruple (get_or rows k d).0) rows)) ≡ true
    found true h = refl
    found false h = h

both_ways_from : (net : Net) → HasBothWays net → has_both_ways net ≡ true
both_ways_from net both =
    list_all-from_AllPass (is_turned net.crossings) net.crossings (λ k d lk.
    let row = get_or net.crossings k d in
    both (track_id row.0.0) (track_id row.0.1) (type_id row.0.2) (type_id row.0.3) (quadruple_found net.crossings k d lk))

both_ways_to : (net : Net) → has_both_ways net ≡ true → HasBothWays net
both_ways_to net e = both_ways-from_rows net (AllPass-from_list_all (is_turned net.crossings) net.crossings e)

within_from : (net : Net) → IsWithinReach net → is_within_reach net ≡ true
within_from net near =
    list_all-from_AllPass (is_near net) net.crossings (λ k d lk.
    let row = get_or net.crossings k d in
    le-leb (reach_of net (track_id row.0.0) (type_id row.0.2)) 4000 (near (track_id row.0.0) (type_id row.0.2)))

-- the reach of a track and a type is that of a crossing of theirs, or there is none of theirs
reach_near : (net : Net) (t : TrackId) (k : TypeId) (rows : List Cross) → list_all (is_near net) rows ≡ true → (reach_of net t k ≤ 4000) ⊎ (sum_by (reach_by net.crossings t.0 k.0) rows ≡ 0)
reach_near net t k [] e = inr refl
reach_near net t k (row ∷ rows) e =
    let both = and_both (is_near net row) (list_all (is_near net) rows) e in
    elim (cases_Bool (nat_eq t.0 row.0.0 && nat_eq k.0 row.0.2)) [
      | inl own ↦
          let same = and_both (nat_eq t.0 row.0.0) (nat_eq k.0 row.0.2) own in
          let track : t.0 ≡ row.0.0 = eqb-true t.0 row.0.0 same.0 in
          let kind : k.0 ≡ row.0.2 = eqb-true k.0 row.0.2 same.1 in
          let near : reach_of net (track_id row.0.0) (type_id row.0.2) ≤ 4000 = leb-true (reach_of net (track_id row.0.0) (type_id row.0.2)) 4000 both.0 in
          inl (rw (track, kind) near)
      | inr other ↦ elim (reach_near net t k rows both.1) [
        | inl near ↦ inl near
        | inr none ↦
            let first : reach_by net.crossings t.0 k.0 row ≡ 0 = rw other refl in
            inr (sum_by-cons (reach_by net.crossings t.0 k.0) row rows ∙ (λ i. first i + none i))
      ]
    ]

within_to : (net : Net) → is_within_reach net ≡ true → IsWithinReach net
within_to net e t k = elim (reach_near net t k net.crossings e) [
  | inl near ↦ near
  | inr none ↦ let zero_is : reach_of net t k ≡ 0 = none in omega (arith, zero_is)
]

not_both_ways : (net : Net) (b : Bool) → has_both_ways net ≡ b → (HasBothWays net → ⊥) → has_both_ways net ≡ false
not_both_ways net true e h = absurd (h (both_ways_to net e))
not_both_ways net false e h = e

not_within : (net : Net) (b : Bool) → is_within_reach net ≡ b → (IsWithinReach net → ⊥) → is_within_reach net ≡ false
not_within net true e h = absurd (h (within_to net e))
not_within net false e h = e

-- what the builder answers at the end is the outcome of all crossings, where no headway is missing
pub finish_second_gives : (net : Net) (answer : Result Net NetFault) (result : Result Net ReadError) → HasAllHeadways net → IfOk answer (λ done. done ≡ net) → OnOk answer (HasBothWays net)
    → OnOk answer (IsWithinReach net) → IfErr answer (IsFinishFault net) → IsNetAnswer Crossings 0 answer result
    → Gives (λ done. done) result (net_outcome Crossings 0 (crossings_refusal net) net)
finish_second_gives net (Ok done) result complete same both near err is = rw (is, both_ways_from net both, within_from net near, same) refl
finish_second_gives net (Err (net_faults.Refused MissingHeadway)) result complete same both near err is = absurd (err complete)
finish_second_gives net (Err (net_faults.Refused OneWayCrossing)) result complete same both near err is = rw (is, not_both_ways net (has_both_ways net) refl err.1) refl
finish_second_gives net (Err (net_faults.Refused Reach)) result complete same both near err is =
    rw (is, both_ways_from net err.1, not_within net (is_within_reach net) refl err.2) refl
finish_second_gives net (Err (net_faults.Refused TakenName)) result complete same both near err is = absurd err
finish_second_gives net (Err (net_faults.Refused UnknownName)) result complete same both near err is = absurd err
finish_second_gives net (Err (net_faults.Refused Range)) result complete same both near err is = absurd err
finish_second_gives net (Err (net_faults.Refused SelfLoop)) result complete same both near err is = absurd err
finish_second_gives net (Err (net_faults.Refused Repeated)) result complete same both near err is = absurd err
finish_second_gives net (Err (net_faults.Refused TooMany)) result complete same both near err is = absurd err
finish_second_gives net (Err net_faults.NoMemory) result complete same both near err is = rw is tt
