-- The laws of the rows of crossings.
use Rattle.std.proofs.Common.{◌≡◌, ◌≢◌, ℕ, ◌+◌, ◌*◌, ◌/◌, ◌%◌, ◌<◌, ◌≤◌, ◌⊎◌, ◌↔◌, inl, inr, Bool, true, false, cond, nat_lt, Option, Some, None, IfSome, IsSome, IsSomeAnd, List, All, map, length, slice_get, get_or, sum_by, count_by, unwrap_or, refl, sym, ap, ◌∙◌, subst, arith, rules}
use Rattle.std.proofs.lemmas.Bool.{and_parts, and_from, or_cases, or_left, or_right, cases_lt, eqb-true, eq-eqb, ltb-true, ltb-false, lt-ltb, le-ltb, false_from_ne_true}
use Rattle.std.proofs.lemmas.List.{length-map}
use Rattle.std.proofs.lemmas.List.Sums.{sum_by-le}
use Rattle.std.proofs.lemmas.Option.{slice_get-map}
use Rattle.std.proofs.lemmas.Map.Lookups.{exact_unsigned}
use Rattle.std.specs.List.{range_with_len}
use Rattle.std.specs.Option.{option_map}
use Rattle.std.specs.Cmp.{nat_cmp_is}
use Rattle.std.specs.Ordering.{nat_cmp, ordering_then}
use Rattle.std.specs.declared.cmp.Ordering.{Ordering}
use Rattle.std.specs.declared.cmp.Ordering.TheVariants.{Less, Equal, Greater}
use Rattle.optra_network.specs.Net.{Net, IsFromTo, IsProper, MayUse, crossing_of, headway_of}
use Rattle.optra_network.specs.declared.TrackId.{TrackId}
use Rattle.optra_network.specs.declared.TrackUse.{TrackUse}
use Rattle.optra_network.specs.declared.TypeId.{TypeId}
use Rattle.optra_network.proofs.HeadwayLemmas.{below_types}
use Rattle.optra_network.proofs.MemberLemmas.{In, in_from, contains_from, in_map, in_map_from, in_filter, in_filter_from, in_range}
use Rattle.optra_network.proofs.ReadLemmas.{headway_range}
use Rattle.optra_walk.specs.Families.{Ascends, Entry, FitRows, IsUsable, ListsRows, TellsApart, UsesFew, use_of_entry}
use Rattle.optra_walk.specs.Choices.{KeepsHeadways}
use Rattle.optra_walk.specs.Rules.{KeepsCrossing, KeepsCrossings}
use Rattle.optra_rows.specs.EitherLemmas.{fits_both}
use Rattle.optra_rows.specs.Headways.{KeepsHeadwayRule, headway_rows}
use Rattle.optra_rows.specs.ListLemmas.{ascends_map, rises_filter, rises_range}
use Rattle.optra_rows.specs.RuleLemmas.{behind, count-at_most_one, count-two_apart, headways_by_rows, usable_at}
use Rattle.optra_cross.specs.declared.CRow.{CRow}
use Rattle.optra_cross.specs.contracts.CRowOrd.TheImpl.{ghosts}
use Rattle.optra_cross.specs.Crosses.{AreBothRules, IsCrossRow, IsPossible, KeepsCrossRule, KeepsOnce, cross_rows, first_use, second_use, is_one_of, is_row_of, is_use, minutes_between, most_rows, use_in, uses_row}
use Rattle.optra_cross.specs.Places.{crossed_places, is_crossed, row_from, row_with, touched_rows, use_at}
use Rattle.optra_cross.specs.PlaceLemmas.{few_places, one_if, row_made, row_parts, with_made, with_parts}

-- ---- the order of rows

abbrev pub row_cmp : CRow → CRow → Ordering
row_cmp = ghosts.cmp

pub row_cmp_is : (a b : CRow) → row_cmp a b ≡ ordering_then (nat_cmp a.first_track.0 b.first_track.0) (ordering_then (nat_cmp a.first_at b.first_at) (ordering_then (nat_cmp a.first.0 b.first.0)
    (ordering_then (nat_cmp a.second_track.0 b.second_track.0) (ordering_then (nat_cmp a.second_at b.second_at) (nat_cmp a.second.0 b.second.0)))))
row_cmp_is a b = refl

both_equal : (a b : Ordering) → ordering_then a b ≡ Equal → (a ≡ Equal) × (b ≡ Equal)
both_equal Less b e = absurd (cc)
both_equal Equal b e = (refl, e)
both_equal Greater b e = absurd (cc)

same_track : (a b : TrackId) → a.0 ≡ b.0 → a ≡ b
same_track a b e = λ i. record { 0 = e i }

same_type : (a b : TypeId) → a.0 ≡ b.0 → a ≡ b
same_type a b e = λ i. record { 0 = e i }

pub rows_told_apart : TellsApart row_cmp
rows_told_apart a b e =
    let u = both_equal (nat_cmp a.first_track.0 b.first_track.0) _ e in
    let v = both_equal (nat_cmp a.first_at b.first_at) _ u.1 in
    let w = both_equal (nat_cmp a.first.0 b.first.0) _ v.1 in
    let x = both_equal (nat_cmp a.second_track.0 b.second_track.0) _ w.1 in
    let y = both_equal (nat_cmp a.second_at b.second_at) (nat_cmp a.second.0 b.second.0) x.1 in
    let e1 = same_track a.first_track b.first_track (exact_unsigned _ _ u.0) in let e2 = exact_unsigned _ _ v.0 in let e3 = same_type a.first b.first (exact_unsigned _ _ w.0) in
    let e4 = same_track a.second_track b.second_track (exact_unsigned _ _ x.0) in let e5 = exact_unsigned _ _ y.0 in let e6 = same_type a.second b.second (exact_unsigned _ _ y.1) in
    λ i. record { first_track = e1 i; first_at = e2 i; first = e3 i; second_track = e4 i; second_at = e5 i; second = e6 i }

less : (x y : ℕ) → x < y → nat_cmp x y ≡ Less
less x y l = sym (nat_cmp_is x y Less l)

equal : (x y : ℕ) → x ≡ y → nat_cmp x y ≡ Equal
equal x y e = sym (nat_cmp_is x y Equal e)

then_less : (a b : Ordering) → a ≡ Less → ordering_then a b ≡ Less
then_less a b e = ap (λ o. ordering_then o b) e

equal_then : (a b : Ordering) → a ≡ Equal → b ≡ Less → ordering_then a b ≡ Less
equal_then a b e f = ap (λ o. ordering_then o b) e ∙ f

-- a lesser place is that of a lesser use, by track, minute and type, where the last part tells the types
uses_rise : (p q : ℕ) (last : Ordering) → p < q → (p % 16 < q % 16 → last ≡ Less) → ordering_then (nat_cmp (p / 46080) (q / 46080)) (ordering_then (nat_cmp (p % 46080 / 16) (q % 46080 / 16)) last) ≡ Less
uses_rise p q last l kinds = elim (cases_lt (p / 46080) (q / 46080)) [
  | inl t ↦ then_less _ _ (less _ _ t)
  | inr t ↦
      let track : p / 46080 ≡ q / 46080 = omega arith in
      elim (cases_lt (p % 46080 / 16) (q % 46080 / 16)) [
        | inl m ↦ equal_then _ _ (equal _ _ track) (then_less _ _ (less _ _ m))
        | inr m ↦
            let minute : p % 46080 / 16 ≡ q % 46080 / 16 = omega arith in
            let kind : p % 16 < q % 16 = omega arith in equal_then _ _ (equal _ _ track) (equal_then _ _ (equal _ _ minute) (kinds kind))
      ]
]

own_then : (a : TrackUse) (rest : Ordering) → rest ≡ Less → ordering_then (nat_cmp a.track.0 a.track.0) (ordering_then (nat_cmp a.time a.time) (ordering_then (nat_cmp a.kind.0 a.kind.0) rest)) ≡ Less
own_then a rest e =
    equal_then _ _ (equal a.track.0 a.track.0 refl) (equal_then _ _ (equal a.time a.time refl) (equal_then _ _ (equal a.kind.0 a.kind.0 refl) e))

module _ (net : Net) (own : TrackUse) where
  abbrev row_at : ℕ → CRow
  row_at p = row_with own (use_at p)

  apart_at : (p : ℕ) → In p (crossed_places net own) → own.track.0 ≢ p / 46080
  apart_at p i = (with_parts net own (use_at p) (in_filter_from (is_crossed net own) (range_with_len 0 (length net.tracks * 46080)) p i).passes).0

  rows_rise : (p q : ℕ) → In p (crossed_places net own) → In q (crossed_places net own) → p < q → row_cmp (row_at p) (row_at q) ≡ Less
  rows_rise p q ip iq l = go (nat_lt (p / 46080) own.track.0) refl (nat_lt (q / 46080) own.track.0) refl
    where
      go : (b : Bool) → nat_lt (p / 46080) own.track.0 ≡ b → (d : Bool) → nat_lt (q / 46080) own.track.0 ≡ d
          → row_cmp (cond b (row_from (use_at p) own) (row_from own (use_at p))) (cond d (row_from (use_at q) own) (row_from own (use_at q))) ≡ Less
      go true e true f = uses_rise p q _ l (λ k. then_less _ _ (less _ _ k))
      go true e false f =
          let low = ltb-true (p / 46080) own.track.0 e in then_less _ _ (less _ _ low)
      go false e true f =
          let low = ltb-false (p / 46080) own.track.0 e in let high = ltb-true (q / 46080) own.track.0 f in absurd (omega arith)
      go false e false f = own_then own _ (uses_rise p q (nat_cmp (p % 16) (q % 16)) l (λ k. less _ _ k))

  pub rows_ascend : Ascends row_cmp (touched_rows net own)
  rows_ascend = ascends_map row_cmp row_at (crossed_places net own) rows_rise (rises_filter (is_crossed net own) (range_with_len 0 (length net.tracks * 46080)) (rises_range 0 (length net.tracks * 46080)))

-- ---- which rows a use uses

pub is_use_from : (a b : TrackUse) → is_use a b ≡ true → a ≡ b
is_use_from a b h =
    let x = and_parts _ _ h in let y = and_parts _ _ x.0 in
    let track = same_track a.track b.track (eqb-true _ _ y.0) in let kind = same_type a.kind b.kind (eqb-true _ _ y.1) in let time = eqb-true _ _ x.1 in
    λ i. record { track = track i; kind = kind i; time = time i }

pub is_use_itself : (a : TrackUse) → is_use a a ≡ true
is_use_itself a = and_from _ _ (and_from _ _ (eq-eqb a.track.0 a.track.0 refl) (eq-eqb a.kind.0 a.kind.0 refl)) (eq-eqb a.time a.time refl)

abbrev place_of : TrackUse → ℕ
place_of a = a.track.0 * 46080 + (a.time * 16 + a.kind.0)

use_there : (a : TrackUse) → a.time ≤ 2879 → a.kind.0 < 16 → use_at (place_of a) ≡ a
use_there a day small =
    let track : place_of a / 46080 ≡ a.track.0 = quotient a.track.0 a.time a.kind.0 day small in
    let kind : place_of a % 16 ≡ a.kind.0 = rest a.track.0 a.time a.kind.0 day small in
    let time : place_of a % 46080 / 16 ≡ a.time = minute a.track.0 a.time a.kind.0 day small in
    λ i. record { track = record { 0 = track i }; kind = record { 0 = kind i }; time = time i }
  where
    quotient : (t m k : ℕ) → m ≤ 2879 → k < 16 → (t * 46080 + (m * 16 + k)) / 46080 ≡ t
    quotient t m k l s = omega arith

    rest : (t m k : ℕ) → m ≤ 2879 → k < 16 → (t * 46080 + (m * 16 + k)) % 16 ≡ k
    rest t m k l s = omega arith

    minute : (t m k : ℕ) → m ≤ 2879 → k < 16 → (t * 46080 + (m * 16 + k)) % 46080 / 16 ≡ m
    minute t m k l s = let r : (t * 46080 + (m * 16 + k)) % 46080 ≡ m * 16 + k = omega arith in omega arith

module _ (net : Net) (own : TrackUse) (proper : IsProper net) where
  in_touched : (other : TrackUse) → IsPossible net other → is_row_of net (row_with own other) ≡ true → In (row_with own other) (touched_rows net own)
  in_touched other can is =
      let below = below_types net other.track other.kind proper can.may in
      let there = use_there other can.day below.1 in
      let track = below.2 in let kind = below.1 in let day = can.day in
      let inside : In (place_of other) (crossed_places net own) =
      in_filter (is_crossed net own) (range_with_len 0 (length net.tracks * 46080)) (place_of other) (in_range 0 (length net.tracks * 46080) (place_of other) (omega arith) (omega arith))
      (ap (λ (o : TrackUse). is_row_of net (row_with own o)) there ∙ is) in
      subst (λ (o : TrackUse). In (row_with own o) (touched_rows net own)) there (in_map (λ p. row_with own (use_at p)) (crossed_places net own) (place_of other) inside)

  in_rows : (row : CRow) → uses_row net own row ≡ true → In row (touched_rows net own)
  in_rows row h =
      let x = and_parts _ _ h in
      let parts = row_parts net row x.0 in
      elim (or_cases _ _ x.1) [
        | inl f ↦
            let is : own ≡ first_use row = is_use_from own (first_use row) f in
            let l = parts.0 in
            let with : row_with (first_use row) (second_use row) ≡ row = ap (λ b. cond b (row_from (second_use row) (first_use row)) row) (le-ltb row.second_track.0 row.first_track.0 (omega arith)) in
            let with_own : row_with own (second_use row) ≡ row = ap (λ (o : TrackUse). row_with o (second_use row)) is ∙ with in
            subst (λ r. In r (touched_rows net own)) with_own (in_touched (second_use row) parts.1.second (ap (is_row_of net) with_own ∙ x.0))
        | inr s ↦
            let is : own ≡ second_use row = is_use_from own (second_use row) s in
            let with : row_with (second_use row) (first_use row) ≡ row = ap (λ b. cond b row (row_from (second_use row) (first_use row))) (lt-ltb row.first_track.0 row.second_track.0 parts.0) in
            let with_own : row_with own (first_use row) ≡ row = ap (λ (o : TrackUse). row_with o (first_use row)) is ∙ with in
            subst (λ r. In r (touched_rows net own)) with_own (in_touched (first_use row) parts.1.first (ap (is_row_of net) with_own ∙ x.0))
      ]

  one_of_with : (other : TrackUse) → is_one_of own (row_with own other) ≡ true
  one_of_with other = go (nat_lt other.track.0 own.track.0)
    where
      go : (b : Bool) → is_one_of own (cond b (row_from other own) (row_from own other)) ≡ true
      go true = or_right (is_use own other) (is_use own own) (is_use_itself own)
      go false = or_left (is_use own own) (is_use own other) (is_use_itself own)

  used_rows : (row : CRow) → In row (touched_rows net own) → uses_row net own row ≡ true
  used_rows row i =
      let m = in_map_from (λ p. row_with own (use_at p)) (crossed_places net own) row i in
      let k = in_filter_from (is_crossed net own) (range_with_len 0 (length net.tracks * 46080)) m.source m.inside in
      subst (λ r. uses_row net own r ≡ true) m.is (and_from _ _ k.passes (one_of_with (use_at m.source)))

use_one : (b : Bool) → one_if b ≤ 1
use_one true = omega arith
use_one false = omega arith

use_true : (b : Bool) → 0 < one_if b → b ≡ true
use_true true h = refl
use_true false h = absurd (omega arith)

-- a usable leg uses at most 4,000 rows, each once
few_crossed : (net : Net) (own : TrackUse) → IsProper net → MayUse net own.track own.kind → own.time ≤ 2879 → length (touched_rows net own) ≤ 4000
few_crossed net own proper may day =
    let few = few_places net own proper (record { may = may; day = day }) in
    let same = length-map (crossed_places net own) (λ p. row_with own (use_at p)) in omega (arith, few, same)

little_crossed : (net : Net) (own : TrackUse) → IsProper net → MayUse net own.track own.kind → own.time ≤ 2879 → sum_by (use_in net own) (touched_rows net own) ≤ 4000
little_crossed net own proper may day =
    let few = few_crossed net own proper may day in
    let t = sum_by-le (use_in net own) 1 (touched_rows net own) (λ k d l. use_one (uses_row net own (get_or (touched_rows net own) k d))) in
    omega (arith, few, t)

pub few_crossings : (net : Net) (own : TrackUse) → IsProper net → MayUse net own.track own.kind → own.time ≤ 2879 → UsesFew most_rows (use_in net own) (touched_rows net own)
few_crossings net own proper may day = record { few = few_crossed net own proper may day; total = little_crossed net own proper may day }

pub rows_listed : (net : Net) (own : TrackUse) → IsProper net → MayUse net own.track own.kind → own.time ≤ 2879
    → ListsRows row_cmp (is_row_of net) (use_in net own) (touched_rows net own)
rows_listed net own proper may day =
    let few = few_crossed net own proper may day in
    let little = little_crossed net own proper may day in
    record {
      ascending = rows_ascend net own;
      used = λ row. (
        (λ h. contains_from (touched_rows net own) row (in_rows net own proper row (use_true (uses_row net own row) h))),
        (λ c. let one : use_in net own row ≡ 1 = ap one_if (used_rows net own proper row (in_from (touched_rows net own) row c)) in omega arith),
      );
      are_rows = λ row h. (and_parts _ _ (use_true (uses_row net own row) h)).0;
      few = omega arith;
      total = omega arith;
    }

-- a leg whose type may not use its track uses no row
pub unusable_none : (net : Net) (own : TrackUse) (row : CRow) → (MayUse net own.track own.kind → ⊥) → use_in net own row ≡ 0
unusable_none net own row may_not =
    ap one_if (false_from_ne_true (uses_row net own row) (λ h.
    let x = and_parts _ _ h in
    let parts = (row_parts net row x.0).1 in
    elim (or_cases _ _ x.1) [
      | inl f ↦ may_not (subst (λ (o : TrackUse). MayUse net o.track o.kind) (sym (is_use_from own (first_use row) f)) parts.first.may)
      | inr s ↦ may_not (subst (λ (o : TrackUse). MayUse net o.track o.kind) (sym (is_use_from own (second_use row) s)) parts.second.may)
    ]))

-- ---- the rule

-- uses that break no crossing do not come too near
keeps_or_near : (net : Net) (a b : TrackUse) → IsProper net → KeepsCrossing net a b ⊎ ((b.time < a.time + minutes_between net a b) × (a.time < b.time + minutes_between net b a))
keeps_or_near net a b proper = go (crossing_of net a.track b.track a.kind b.kind) refl (crossing_of net b.track a.track b.kind a.kind) refl
  where
    go : (o : Option ℕ) → crossing_of net a.track b.track a.kind b.kind ≡ o → (r : Option ℕ) → crossing_of net b.track a.track b.kind a.kind ≡ r
        → KeepsCrossing net a b ⊎ ((b.time < a.time + minutes_between net a b) × (a.time < b.time + minutes_between net b a))
    go None e r f = inl (λ minutes is. absurd (let bad : ◌≡◌ {A = Option ℕ} None (Some minutes) = sym e ∙ is in cc))
    go (Some m) e None f = absurd (none_there (crossing_of net b.track a.track b.kind a.kind) f (proper.both_ways a.track b.track a.kind b.kind (subst IsSome (sym e) (some m))))
      where
        some : (n : ℕ) → IsSome (Some n)
        some n = search rules

        none_there : (o : Option ℕ) → o ≡ None → IsSome o → ⊥
        none_there None g s = grind arith
        none_there (Some n) g s = cc
    go (Some m) e (Some r) f = elim (cases_lt b.time (a.time + m)) [
      | inr le ↦ inl (λ minutes is. inl (let same : m ≡ minutes = some_is m minutes (sym e ∙ is) in omega arith))
      | inl l ↦ elim (cases_lt a.time (b.time + r)) [
        | inr le ↦ inl (λ minutes is. inr (subst (λ o. IsSomeAnd o (λ back. b.time + back ≤ a.time)) (sym f) le))
        | inl h ↦ inr (subst (λ o. b.time < a.time + unwrap_or o 0) (sym e) l, subst (λ o. a.time < b.time + unwrap_or o 0) (sym f) h)
      ]
    ]
      where
        some_is : (x y : ℕ) → Some x ≡ Some y → x ≡ y
        some_is x y e = cc

-- uses that come too near break their crossing
near_breaks : (net : Net) (a b : TrackUse) → IsProper net → b.time < a.time + minutes_between net a b → a.time < b.time + minutes_between net b a → KeepsCrossing net a b → ⊥
near_breaks net a b proper after before keeps = go (crossing_of net a.track b.track a.kind b.kind) refl (crossing_of net b.track a.track b.kind a.kind) refl
  where
    go : (o : Option ℕ) → crossing_of net a.track b.track a.kind b.kind ≡ o → (r : Option ℕ) → crossing_of net b.track a.track b.kind a.kind ≡ r → ⊥
    go None e r f =
        let early : b.time < a.time + 0 = subst (λ o. b.time < a.time + unwrap_or o 0) e after in
        let late : a.time < b.time + unwrap_or r 0 = subst (λ o. a.time < b.time + unwrap_or o 0) f before in back r f late early
      where
        some : (n : ℕ) → IsSome (Some n)
        some n = search rules

        none_there : (o : Option ℕ) → o ≡ None → IsSome o → ⊥
        none_there None g s = grind arith
        none_there (Some n) g s = cc

        back : (r : Option ℕ) → crossing_of net b.track a.track b.kind a.kind ≡ r → a.time < b.time + unwrap_or r 0 → b.time < a.time + 0 → ⊥
        back None f l h = omega arith
        back (Some n) f l h = none_there (crossing_of net a.track b.track a.kind b.kind) e (proper.both_ways b.track a.track b.kind a.kind (subst IsSome (sym f) (some n)))
    go (Some m) e r f =
        let early : b.time < a.time + m = subst (λ o. b.time < a.time + unwrap_or o 0) e after in
        elim (keeps m e) [
          | inl le ↦ omega arith
          | inr h ↦ late r f (subst (λ o. a.time < b.time + unwrap_or o 0) f before) (subst (λ o. IsSomeAnd o (λ back. b.time + back ≤ a.time)) f h)
        ]
      where
        late : (r : Option ℕ) → crossing_of net b.track a.track b.kind a.kind ≡ r → a.time < b.time + unwrap_or r 0 → IsSomeAnd r (λ back. b.time + back ≤ a.time) → ⊥
        late None f l h = absurd h
        late (Some n) f l h = omega arith

abbrev uses_at : Net → CRow → Entry → Bool
uses_at net row e = uses_row net (use_of_entry e) row

-- the test of rows is the rule's own words
pub row_rule : (net : Net) → IsProper net → (row : CRow) → is_row_of net row ≡ true → IsCrossRow net row
row_rule net proper row h =
    let x = row_parts net row h in
    record { order = x.0; first = x.1.first; second = x.1.second; broken = near_breaks net (first_use row) (second_use row) proper x.1.after x.1.before }

pub row_arithmetic : (net : Net) → IsProper net → (row : CRow) → IsCrossRow net row → is_row_of net row ≡ true
row_arithmetic net proper row is = elim (keeps_or_near net (first_use row) (second_use row) proper) [
  | inl keeps ↦ absurd (is.broken keeps)
  | inr near ↦ row_made net row is.order (record { first = is.first; second = is.second; after = near.0; before = near.1 })
]

tracks_apart : (row : CRow) → row.first_track.0 < row.second_track.0 → row.first_track ≢ row.second_track
tracks_apart row order s = let same : row.first_track.0 ≡ row.second_track.0 = ap (λ (t : TrackId). t.0) s in omega (arith, same, order)

-- legs that keep the rule use no row twice
fits_from_rule : (net : Net) (entries : List Entry) → IsProper net → KeepsCrossRule net entries → (row : CRow) → count_by (uses_at net row) entries ≤ 1
fits_from_rule net entries proper rule row = count-at_most_one (uses_at net row) entries (λ i j x y ne ex ey tx ty.
    let px = and_parts _ _ tx in
    let py = and_parts _ _ ty in
    let parts = row_parts net row px.0 in
    let is = row_rule net proper row px.0 in
    let order = parts.0 in
    let ax = at i x ex in
    let ay = at j y ey in
    elim (or_cases _ _ px.1) [
      | inl fx ↦ elim (or_cases _ _ py.1) [
        | inl fy ↦
            let e = is_use_from (use_of_entry x) (first_use row) fx in let f = is_use_from (use_of_entry y) (first_use row) fy in
            rule.once i j (first_use row) row ne (ax ∙ ap Some e) (ay ∙ ap Some f) is (inl refl)
        | inr sy ↦
            let e = is_use_from (use_of_entry x) (first_use row) fx in let f = is_use_from (use_of_entry y) (second_use row) sy in
            is.broken (rule.crossings i j (first_use row) (second_use row) (tracks_apart row order) (ax ∙ ap Some e) (ay ∙ ap Some f))
      ]
      | inr sx ↦ elim (or_cases _ _ py.1) [
        | inl fy ↦
            let e = is_use_from (use_of_entry x) (second_use row) sx in let f = is_use_from (use_of_entry y) (first_use row) fy in
            is.broken (rule.crossings j i (first_use row) (second_use row) (tracks_apart row order) (ay ∙ ap Some f) (ax ∙ ap Some e))
        | inr sy ↦
            let e = is_use_from (use_of_entry x) (second_use row) sx in let f = is_use_from (use_of_entry y) (second_use row) sy in
            rule.once i j (second_use row) row ne (ax ∙ ap Some e) (ay ∙ ap Some f) is (inr refl)
      ]
    ])
  where
    at : (i : ℕ) (x : Entry) → slice_get entries i ≡ Some x → slice_get (map use_of_entry entries) i ≡ Some (use_of_entry x)
    at i x e = slice_get-map use_of_entry entries i ∙ ap (option_map use_of_entry) e

module _ (net : Net) (entries : List Entry) (proper : IsProper net) (all : All (λ e. IsUsable net e.0 e.1) entries) (fits : (row : CRow) → is_row_of net row ≡ true → count_by (uses_at net row) entries ≤ 1) where
  possible : (x : Entry) → IsUsable net x.0 x.1 → IsPossible net (use_of_entry x)
  possible x u = record { may = u.may_use; day = u.depart }

  clash_at : (i j : ℕ) (x y : Entry) → i ≢ j → slice_get entries i ≡ Some x → slice_get entries j ≡ Some y
      → (row : CRow) → is_row_of net row ≡ true → is_one_of (use_of_entry x) row ≡ true → is_one_of (use_of_entry y) row ≡ true → ⊥
  clash_at i j x y ne ex ey row is ox oy =
      let two : 2 ≤ count_by (uses_at net row) entries = count-two_apart (uses_at net row) entries i j x y ne ex ey (and_from _ _ is ox) (and_from _ _ is oy) in
      let one : count_by (uses_at net row) entries ≤ 1 = fits row is in omega arith

  crossings_from_fits : KeepsCrossings net (map use_of_entry entries)
  crossings_from_fits i j a b apart ea eb =
      let x = behind entries i a (slice_get entries i) refl (sym (slice_get-map use_of_entry entries i) ∙ ea) in
      let y = behind entries j b (slice_get entries j) refl (sym (slice_get-map use_of_entry entries j) ∙ eb) in
      let ux = usable_at net entries i x.entry all x.at in
      let uy = usable_at net entries j y.entry all y.at in
      elim (keeps_or_near net a b proper) [
        | inl keeps ↦ keeps
        | inr near ↦ absurd (
            let possible_a = subst (IsPossible net) x.is (possible x.entry ux) in
            let possible_b = subst (IsPossible net) y.is (possible y.entry uy) in
            let tracks : a.track.0 ≢ b.track.0 = λ s. apart (same_track a.track b.track s) in
            let is = with_made net a b tracks (record { first = possible_a; second = possible_b; after = near.0; before = near.1 }) in
            clash_at i j x.entry y.entry (λ s. apart (same_entry i j a b s ea eb)) x.at y.at (row_with a b) is
            (subst (λ (o : TrackUse). is_one_of o (row_with a b) ≡ true) (sym x.is) (one_of_with net a proper b))
            (subst (λ (o : TrackUse). is_one_of o (row_with a b) ≡ true) (sym y.is) (other_of_with a b)))
      ]
    where
      some_is : (x y : TrackUse) → Some x ≡ Some y → x ≡ y
      some_is x y e = cc

      same_entry : (i j : ℕ) (a b : TrackUse) → i ≡ j → slice_get (map use_of_entry entries) i ≡ Some a → slice_get (map use_of_entry entries) j ≡ Some b → a.track ≡ b.track
      same_entry i j a b s ea eb = ap (λ (o : TrackUse). o.track) (some_is a b (sym ea ∙ ap (slice_get (map use_of_entry entries)) s ∙ eb))

      other_of_with : (a b : TrackUse) → is_one_of b (row_with a b) ≡ true
      other_of_with a b = go (nat_lt b.track.0 a.track.0)
        where
          go : (c : Bool) → is_one_of b (cond c (row_from b a) (row_from a b)) ≡ true
          go true = or_left (is_use b b) (is_use b a) (is_use_itself b)
          go false = or_right (is_use b a) (is_use b b) (is_use_itself b)

  once_from_fits : KeepsOnce net (map use_of_entry entries)
  once_from_fits i j a row ne ea eb is one =
      let x = behind entries i a (slice_get entries i) refl (sym (slice_get-map use_of_entry entries i) ∙ ea) in
      let y = behind entries j a (slice_get entries j) refl (sym (slice_get-map use_of_entry entries j) ∙ eb) in
      let lies : is_one_of a row ≡ true = elim one [
        | inl f ↦ or_left (is_use a (first_use row)) (is_use a (second_use row)) (ap (is_use a) (sym f) ∙ is_use_itself a)
        | inr s ↦ or_right (is_use a (first_use row)) (is_use a (second_use row)) (ap (is_use a) (sym s) ∙ is_use_itself a)
      ] in
      clash_at i j x.entry y.entry ne x.at y.at row (row_arithmetic net proper row is)
      (subst (λ (o : TrackUse). is_one_of o row ≡ true) (sym x.is) lies) (subst (λ (o : TrackUse). is_one_of o row ≡ true) (sym y.is) lies)

-- legs of types keep the rule exactly where they use no row more than once
pub crossings_by_rows : (net : Net) (entries : List Entry) → IsProper net → All (λ e. IsUsable net e.0 e.1) entries → KeepsCrossRule net entries ↔ FitRows (cross_rows net) entries
crossings_by_rows net entries proper all = (
  (λ rule row is. fits_from_rule net entries proper rule row),
  (λ fits. record { crossings = crossings_from_fits net entries proper all (λ row is. fits row is); once = once_from_fits net entries proper all (λ row is. fits row is) }),
)

-- ---- with the headway rule

-- no use stands at two places where the headways are kept
pub once_from_headways : (net : Net) (uses : List TrackUse) → IsProper net → KeepsHeadways net uses → KeepsOnce net uses
once_from_headways net uses proper keeps i j a row ne ea eb is one = elim (keeps i j a a ne ea eb) [
  | inl apart ↦ apart refl
  | inr near ↦ elim near [
    | inl h ↦ never (headway_of net a.track a.kind a.kind) (headway_range net proper.built a.track a.kind a.kind) h
    | inr h ↦ never (headway_of net a.track a.kind a.kind) (headway_range net proper.built a.track a.kind a.kind) h
  ]
]
  where
    never : (o : Option ℕ) → IfSome o (IsFromTo 1 120) → IsSomeAnd o (λ h. a.time + h ≤ a.time) → ⊥
    never None r h = absurd h
    never (Some n) r h = let low = r.0 in omega arith

pub both_rules : (net : Net) (entries : List Entry) → IsProper net → All (λ e. IsUsable net e.0 e.1) entries → AreBothRules net entries
both_rules net entries proper all =
    let both = fits_both (headway_rows net) (cross_rows net) entries (KeepsHeadwayRule net entries) (KeepsCrossRule net entries) (headways_by_rows net entries proper all) (crossings_by_rows net entries proper all) in (
      (λ rules. both.0 (rules.headways, record { crossings = rules.crossings; once = once_from_headways net (map use_of_entry entries) proper rules.headways })),
      (λ fits. let rules = both.1 fits in record { headways = rules.0; crossings = rules.1.crossings }),
    )
