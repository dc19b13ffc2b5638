-- How many uses of crossers stand below a place, and which place has the k-th.
use Rattle.std.proofs.Common.{◌≡◌, ◌≢◌, ℕ, zero, suc, ◌+◌, ◌-◌, ◌*◌, ◌/◌, ◌%◌, ◌<◌, ◌≤◌, min, nat_eq, nat_lt, ◌&&◌, inl, inr, Bool, true, false, cond, List, [], ◌∷◌, All, length, map, filter, get_or, slice_get, Some, None, Option, IfSome, IsSome, is_some, unwrap_or, sum_by, refl, sym, ap, ◌∙◌, subst, arith, rules, add-one, eq-eqb, eqb-true}
use Rattle.std.proofs.lemmas.Bool.{and_parts, and_from, cases_Bool, cases_eq, cases_lt, ltb-true, ltb-false, leb-true, lt-ltb, le-leb, false_from_ne_true, true≢false}
use Rattle.std.proofs.lemmas.List.Elements.{All-filter, All-map}
use Rattle.std.proofs.lemmas.List.{length-map}
use Rattle.std.proofs.Math.ListN.{get_or-map}
use Rattle.std.proofs.lemmas.List.Sums.{sum_by-cons}
use Rattle.std.proofs.lemmas.Option.{slice_get_past}
use Rattle.std.specs.List.{range_with_len}
use Rattle.std.specs.Option.{option_map_or}
use Rattle.std.specs.Map.{keys_of, lookup}
use Rattle.optra_network.specs.Names.{AllDiffer}
use Rattle.optra_network.specs.Net.{Net, IsBuilt, IsProper, IsCrossingRow, CrossingKey, CrossingRow, IsFromTo, times_of, same_quadruple, turned, span_of, reach_by, reach_of, track_id}
use Rattle.optra_network.specs.Headways.{type_id}
use Rattle.optra_network.specs.Crossers.{may_cross, is_across, crosser_of, crossers_of}
use Rattle.optra_network.specs.declared.Crosser.{Crosser}
use Rattle.optra_network.specs.declared.TrackId.{TrackId}
use Rattle.optra_network.specs.declared.TypeId.{TypeId}
use Rattle.optra_network.specs.declared.TrackUse.{TrackUse}
use Rattle.optra_network.proofs.HeadwayLemmas.{below_types}
use Rattle.optra_network.proofs.NetLemmas.{quadruple_same, quadruple_self, crossing_built}
use Rattle.optra_network.proofs.PartnerLemmas.{some_true, true_some}
use Rattle.optra_network.proofs.ReadLemmas.{crossing_range}
use Rattle.optra_cross.specs.declared.CRow.{CRow}
use Rattle.optra_cross.specs.Crosses.{IsPossible, minutes_between, is_possible, is_row_of, first_use, second_use}
use Rattle.optra_cross.specs.Places.{use_at, row_from, row_with, is_crossed, crossed_places, count_all, count_below, total, rank, IsCrosser, IsPlace}

-- ---- truth of tests

pub both_or_none : (a b : Bool) → (a ≡ true → b ≡ true) → (b ≡ true → a ≡ true) → a ≡ b
both_or_none true b f g = sym (f refl)
both_or_none false true f g = g refl
both_or_none false false f g = refl

-- 1 where a test holds
abbrev pub one_if : Bool → ℕ
one_if b = cond b 1 0

-- ---- one crosser

-- whether a place is that of a use of the crosser which breaks the crossing with a use at a time
abbrev pub hit : ℕ → ℕ → Crosser → Bool
hit time p c = nat_eq (p / 46080) c.track.0 && nat_eq (p % 16) c.kind.0 && nat_lt (p % 46080 / 16) (time + c.after) && nat_lt time (p % 46080 / 16 + c.before)

abbrev pub num : ℕ → ℕ → ℕ → ℕ → ℕ → ℕ → ℕ
num time p t k b a = min ((p + 15 - (t * 46080 + k)) / 16) (min (time + a) 2880) - (time + 1 - b)

-- a place by its track, minute and type
pub place_parts : (p : ℕ) → p ≡ p / 46080 * 46080 + (p % 46080 / 16 * 16 + p % 16)
place_parts p = omega arith

minute_small : (p : ℕ) → p % 46080 / 16 < 2880
minute_small p = omega arith

more_at : (time p t k b a u : ℕ) → p ≡ t * 46080 + (u * 16 + k) → k < 16 → u < 2880 → u < time + a → time < u + b → num time (p + 1) t k b a ≡ num time p t k b a + 1
more_at time p t k b a u e lk lu h l =
    let q : (p + 15 - (t * 46080 + k)) / 16 ≡ u = omega arith in
    let r : (p + 1 + 15 - (t * 46080 + k)) / 16 ≡ u + 1 = omega arith in
    ap (λ n. min n (min (time + a) 2880) - (time + 1 - b)) r ∙ (let s : min (u + 1) (min (time + a) 2880) - (time + 1 - b) ≡ min u (min (time + a) 2880) - (time + 1 - b) + 1 = omega arith in s)
    ∙ ap (λ n. min n (min (time + a) 2880) - (time + 1 - b) + 1) (sym q)

late_at : (time p t k b a u : ℕ) → p ≡ t * 46080 + (u * 16 + k) → k < 16 → time + a ≤ u → num time (p + 1) t k b a ≡ num time p t k b a
late_at time p t k b a u e lk h =
    let q : (p + 15 - (t * 46080 + k)) / 16 ≡ u = omega arith in
    let r : (p + 1 + 15 - (t * 46080 + k)) / 16 ≡ u + 1 = omega arith in
    ap (λ n. min n (min (time + a) 2880) - (time + 1 - b)) r ∙ (let s : min (u + 1) (min (time + a) 2880) - (time + 1 - b) ≡ min u (min (time + a) 2880) - (time + 1 - b) = omega arith in s)
    ∙ ap (λ n. min n (min (time + a) 2880) - (time + 1 - b)) (sym q)

early_at : (time p t k b a u : ℕ) → p ≡ t * 46080 + (u * 16 + k) → k < 16 → u + b ≤ time → num time (p + 1) t k b a ≡ num time p t k b a
early_at time p t k b a u e lk h =
    let q : (p + 15 - (t * 46080 + k)) / 16 ≡ u = omega arith in
    let r : (p + 1 + 15 - (t * 46080 + k)) / 16 ≡ u + 1 = omega arith in
    ap (λ n. min n (min (time + a) 2880) - (time + 1 - b)) r ∙ (let s : min (u + 1) (min (time + a) 2880) - (time + 1 - b) ≡ min u (min (time + a) 2880) - (time + 1 - b) = omega arith in s)
    ∙ ap (λ n. min n (min (time + a) 2880) - (time + 1 - b)) (sym q)

other_kind : (time p t k b a u j : ℕ) → p ≡ t * 46080 + (u * 16 + j) → k < 16 → j < 16 → j ≢ k → num time (p + 1) t k b a ≡ num time p t k b a
other_kind time p t k b a u j e lk lj ne =
    let q : (p + 1 + 15 - (t * 46080 + k)) / 16 ≡ (p + 15 - (t * 46080 + k)) / 16 = omega arith in
    ap (λ n. min n (min (time + a) 2880) - (time + 1 - b)) q

earlier_track : (time p t k b a : ℕ) → p < t * 46080 → num time (p + 1) t k b a ≡ num time p t k b a
earlier_track time p t k b a l =
    let q : (p + 1 + 15 - (t * 46080 + k)) / 16 ≡ (p + 15 - (t * 46080 + k)) / 16 = omega arith in
    ap (λ n. min n (min (time + a) 2880) - (time + 1 - b)) q

later_track : (time p t k b a : ℕ) → k < 16 → t * 46080 + 46080 ≤ p → num time (p + 1) t k b a ≡ num time p t k b a
later_track time p t k b a lk l =
    let q : 2880 ≤ (p + 15 - (t * 46080 + k)) / 16 = omega arith in
    let r : 2880 ≤ (p + 1 + 15 - (t * 46080 + k)) / 16 = omega arith in
    past ((p + 1 + 15 - (t * 46080 + k)) / 16) ((p + 15 - (t * 46080 + k)) / 16) r q
  where
    past : (x y : ℕ) → 2880 ≤ x → 2880 ≤ y → min x (min (time + a) 2880) - (time + 1 - b) ≡ min y (min (time + a) 2880) - (time + 1 - b)
    past x y lx ly = omega arith

-- one place further
pub count_step : (time p : ℕ) (c : Crosser) → IsCrosser c → count_below time (p + 1) c ≡ count_below time p c + cond (hit time p c) 1 0
count_step time p c is = elim (cases_Bool (hit time p c)) [
  | inl h ↦
      let x = and_parts _ _ h in let y = and_parts _ _ x.0 in let z = and_parts _ _ y.0 in
      let et : p / 46080 ≡ t = eqb-true _ _ z.0 in
      let ek : p % 16 ≡ k = eqb-true _ _ z.1 in
      more_at time p t k c.before c.after u (place_parts p ∙ (λ i. et i * 46080 + (u * 16 + ek i))) is.kind (minute_small p) (ltb-true _ _ y.1) (ltb-true _ _ x.1)
      ∙ ap (λ b. count_below time p c + cond b 1 0) (sym h)
  | inr f ↦ same f ∙ (let z : count_below time p c ≡ count_below time p c + 0 = omega arith in z) ∙ ap (λ b. count_below time p c + cond b 1 0) (sym f)
]
  where
    t : ℕ
    t = c.track.0

    k : ℕ
    k = c.kind.0

    u : ℕ
    u = p % 46080 / 16

    same : hit time p c ≡ false → count_below time (p + 1) c ≡ count_below time p c
    same f = elim (cases_eq (p / 46080) t) [
      | inr ne ↦ elim (cases_lt p (t * 46080)) [
        | inl l ↦ earlier_track time p t k c.before c.after l
        | inr l ↦ later_track time p t k c.before c.after is.kind (omega (arith, ne, l))
      ]
      | inl et ↦ elim (cases_eq (p % 16) k) [
        | inr ne ↦ other_kind time p t k c.before c.after u (p % 16) (place_parts p ∙ ap (λ n. n * 46080 + (u * 16 + p % 16)) et) is.kind (omega arith) ne
        | inl ek ↦
            let at : p ≡ t * 46080 + (u * 16 + k) = place_parts p ∙ (λ i. et i * 46080 + (u * 16 + ek i)) in
            elim (cases_lt u (time + c.after)) [
              | inr late ↦ late_at time p t k c.before c.after u at is.kind late
              | inl h ↦ elim (cases_lt time (u + c.before)) [
                | inr early ↦ early_at time p t k c.before c.after u at is.kind early
                | inl l ↦ absurd (true≢false (sym (and_from _ _ (and_from _ _ (and_from _ _ (eq-eqb _ _ et) (eq-eqb _ _ ek)) (lt-ltb _ _ h)) (lt-ltb _ _ l)) ∙ f))
              ]
            ]
      ]
    ]

pub count_none : (time : ℕ) (c : Crosser) → count_below time 0 c ≡ 0
count_none time c = none c.track.0 c.kind.0 c.before c.after
  where
    none : (t k b a : ℕ) → num time 0 t k b a ≡ 0
    none t k b a = let q : (0 + 15 - (t * 46080 + k)) / 16 ≡ 0 = omega arith in omega arith

pub count_most : (time p : ℕ) (c : Crosser) → count_below time p c ≤ count_all time c
count_most time p c = most ((p + 15 - (c.track.0 * 46080 + c.kind.0)) / 16) (min (time + c.after) 2880) (time + 1 - c.before)
  where
    most : (x y z : ℕ) → min x y - z ≤ y - z
    most x y z = omega arith

pub count_few : (time : ℕ) (c : Crosser) → count_all time c ≤ c.after + c.before - 1
count_few time c = few c.before c.after
  where
    few : (b a : ℕ) → min (time + a) 2880 - (time + 1 - b) ≤ a + b - 1
    few b a = omega arith

-- ---- sums

module _ {X : Type 0} where
  pub sum_le : (f g : X → ℕ) (xs : List X) → ((x : X) → f x ≤ g x) → sum_by f xs ≤ sum_by g xs
  sum_le f g [] h = omega arith
  sum_le f g (x ∷ xs) h =
      let a = sum_by-cons f x xs in let b = sum_by-cons g x xs in let l = h x in let r = sum_le f g xs h in omega arith

  pub sum_same : (f g : X → ℕ) (xs : List X) → ((x : X) → f x ≡ g x) → sum_by f xs ≡ sum_by g xs
  sum_same f g [] h = refl
  sum_same f g (x ∷ xs) h = sum_by-cons f x xs ∙ (λ i. h x i + sum_same f g xs h i) ∙ sym (sum_by-cons g x xs)

  pub sum_none : (f : X → ℕ) (xs : List X) → All (λ x. f x ≡ 0) xs → sum_by f xs ≡ 0
  sum_none f [] h = refl
  sum_none f (x ∷ xs) h =
      let a = sum_by-cons f x xs in
      let first : f x ≡ 0 = h 0 x (omega arith) in
      let rest : sum_by f xs ≡ 0 = sum_none f xs (λ j d l. h (suc j) d (omega arith)) in omega arith

module _ {X Y : Type 0} (g : X → Y) (r : X → Bool) where
  pub sum_kept-le : (f : Y → ℕ) (h : X → ℕ) (xs : List X) → ((x : X) → r x ≡ true → f (g x) ≤ h x) → sum_by f (map g (filter r xs)) ≤ sum_by h xs
  sum_kept-le f h [] most = omega arith
  sum_kept-le f h (x ∷ xs) most = go (r x) refl (sum_kept-le f h xs most)
    where
      go : (b : Bool) → r x ≡ b → sum_by f (map g (filter r xs)) ≤ sum_by h xs → sum_by f (map g (cond b (x ∷ filter r xs) (filter r xs))) ≤ sum_by h (x ∷ xs)
      go true e l =
          let a : sum_by f (g x ∷ map g (filter r xs)) ≡ f (g x) + sum_by f (map g (filter r xs)) = sum_by-cons f (g x) (map g (filter r xs)) in
          let b : sum_by h (x ∷ xs) ≡ h x + sum_by h xs = sum_by-cons h x xs in let m = most x e in omega (arith, a, b, m, l)
      go false e l = let b : sum_by h (x ∷ xs) ≡ h x + sum_by h xs = sum_by-cons h x xs in omega (arith, b, l)

  pub count_kept : (q : Y → Bool) (xs : List X) → sum_by (λ y. cond (q y) 1 0) (map g (filter r xs)) ≡ sum_by (λ x. cond (r x && q (g x)) 1 0) xs
  count_kept q [] = refl
  count_kept q (x ∷ xs) = go (r x) (count_kept q xs) ∙ sym (sum_by-cons (λ x. cond (r x && q (g x)) 1 0) x xs)
    where
      go : (b : Bool) → sum_by (λ y. cond (q y) 1 0) (map g (filter r xs)) ≡ sum_by (λ x. cond (r x && q (g x)) 1 0) xs
          → sum_by (λ y. cond (q y) 1 0) (map g (cond b (x ∷ filter r xs) (filter r xs))) ≡ cond (b && q (g x)) 1 0 + sum_by (λ x. cond (r x && q (g x)) 1 0) xs
      go true e = sum_by-cons (λ y. cond (q y) 1 0) (g x) (map g (filter r xs)) ∙ ap (λ n. cond (q (g x)) 1 0 + n) e
      go false e = e ∙ (let z : sum_by (λ x. cond (r x && q (g x)) 1 0) xs ≡ 0 + sum_by (λ x. cond (r x && q (g x)) 1 0) xs = omega arith in z)

-- a row of a finite map is counted once
module _ (key : CrossingKey) (test : ℕ → Bool) where
  abbrev counted : CrossingRow → ℕ
  counted row = cond (same_quadruple key row.0 && test row.1) 1 0

  differs : (row : CrossingRow) (rows : List CrossingRow) → AllDiffer (keys_of (row ∷ rows)) → (j : ℕ) (d : CrossingRow) → j < length rows → row.0 ≢ (get_or rows j d).0
  differs row rows differ j d l e =
      differ 0 (suc j) d.0 (omega arith) (omega (arith, l, length-map rows (λ (r : CrossingRow). r.0))) (e ∙ sym (get_or-map (λ (r : CrossingRow). r.0) rows j d))

  none_later : (row : CrossingRow) (rows : List CrossingRow) → AllDiffer (keys_of (row ∷ rows)) → key ≡ row.0 → sum_by counted rows ≡ 0
  none_later row rows differ e = sum_none counted rows (λ j d l.
      ap (λ b. cond (b && test (get_or rows j d).1) 1 0)
      (false_from_ne_true (same_quadruple key (get_or rows j d).0) (λ s. differs row rows differ j d l (sym e ∙ quadruple_same key (get_or rows j d).0 s))))

  later_differ : (row : CrossingRow) (rows : List CrossingRow) → AllDiffer (keys_of (row ∷ rows)) → AllDiffer (keys_of rows)
  later_differ row rows differ i j d l w = differ (suc i) (suc j) d (omega arith) (omega arith)

  counted_first : (row : CrossingRow) (n : ℕ) (o : Option ℕ) (b : Bool) → same_quadruple key row.0 ≡ b → (b ≡ true → n ≡ 0) → n ≡ option_map_or (λ m. cond (test m) 1 0) o 0
      → counted row + n ≡ option_map_or (λ m. cond (test m) 1 0) (cond b (Some row.1) o) 0
  counted_first row n o true e none rest = (λ i. cond (e i && test row.1) 1 0 + none refl i) ∙ (let z : cond (test row.1) 1 0 + 0 ≡ cond (test row.1) 1 0 = omega arith in z)
  counted_first row n o false e none rest = ap (λ b. cond (b && test row.1) 1 0 + n) e ∙ (let z : 0 + n ≡ n = omega arith in z) ∙ rest

  pub count_unique : (rows : List CrossingRow) → AllDiffer (keys_of rows) → sum_by counted rows ≡ option_map_or (λ m. cond (test m) 1 0) (lookup (same_quadruple key) rows) 0
  count_unique [] differ = refl
  count_unique (row ∷ rows) differ =
      sum_by-cons counted row rows
      ∙ counted_first row (sum_by counted rows) (lookup (same_quadruple key) rows) (same_quadruple key row.0) refl (λ e. none_later row rows differ (quadruple_same key row.0 e))
      (count_unique rows (later_differ row rows differ))

-- ---- the k-th number that passes a test

module _ (P : ℕ → Bool) where
  pub length_more : (a n : ℕ) → length (filter P (range_with_len a (suc n))) ≡ length (filter P (range_with_len a n)) + cond (P (a + n)) 1 0
  length_more a zero = go (P a) ∙ ap (λ m. 0 + cond (P m) 1 0) (let z : a ≡ a + 0 = omega arith in z)
    where
      go : (b : Bool) → length (cond b (a ∷ []) []) ≡ 0 + cond b 1 0
      go true = refl
      go false = refl
  length_more a (suc n) = go (P a) (length_more (a + 1) n ∙ ap (λ m. length (filter P (range_with_len (a + 1) n)) + cond (P m) 1 0) (let z : a + 1 + n ≡ a + suc n = omega arith in z))
    where
      go : (b : Bool) → length (filter P (range_with_len (a + 1) (suc n))) ≡ length (filter P (range_with_len (a + 1) n)) + cond (P (a + suc n)) 1 0
          → length (cond b (a ∷ filter P (range_with_len (a + 1) (suc n))) (filter P (range_with_len (a + 1) (suc n)))) ≡ length (cond b (a ∷ filter P (range_with_len (a + 1) n)) (filter P (range_with_len (a + 1) n))) + cond (P (a + suc n)) 1 0
      go true e =
          let h : suc (length (filter P (range_with_len (a + 1) (suc n)))) ≡ suc (length (filter P (range_with_len (a + 1) n))) + cond (P (a + suc n)) 1 0 = omega (arith, e) in h
      go false e = e

  pub select : (a n m : ℕ) → m < n → P (a + m) ≡ true → slice_get (filter P (range_with_len a n)) (length (filter P (range_with_len a m))) ≡ Some (a + m)
  select a zero m l h = absurd (omega arith)
  select a (suc n) zero l h =
      let at : a + 0 ≡ a = omega arith in
      ap (λ b. slice_get (cond b (a ∷ filter P (range_with_len (a + 1) n)) (filter P (range_with_len (a + 1) n))) 0) (ap P (sym at) ∙ h) ∙ ap Some (sym at)
  select a (suc n) (suc m) l h =
      let at : a + 1 + m ≡ a + suc m = omega arith in go (P a) (select (a + 1) n m (omega arith) (ap P at ∙ h) ∙ ap Some at)
    where
      go : (b : Bool) → slice_get (filter P (range_with_len (a + 1) n)) (length (filter P (range_with_len (a + 1) m))) ≡ Some (a + suc m)
          → slice_get (cond b (a ∷ filter P (range_with_len (a + 1) n)) (filter P (range_with_len (a + 1) n))) (length (cond b (a ∷ filter P (range_with_len (a + 1) m)) (filter P (range_with_len (a + 1) m)))) ≡ Some (a + suc m)
      go true e = e
      go false e = e

-- ---- two uses that come too near

pub record Clash (net : Net) (a b : TrackUse) : Type 0 where
  pub first : IsPossible net a
  pub second : IsPossible net b
  pub after : b.time < a.time + minutes_between net a b
  pub before : a.time < b.time + minutes_between net b a

pub turn : (net : Net) (a b : TrackUse) → Clash net a b → Clash net b a
turn net a b c = record { first = c.second; second = c.first; after = c.before; before = c.after }

pub possible_parts : (net : Net) (a : TrackUse) → is_possible net a ≡ true → IsPossible net a
possible_parts net a h = let x = and_parts _ _ h in record { may = true_some _ x.0; day = leb-true _ _ x.1 }

pub possible_from : (net : Net) (a : TrackUse) → IsPossible net a → is_possible net a ≡ true
possible_from net a p = and_from _ _ (some_true _ p.may) (le-leb _ _ p.day)

pub row_parts : (net : Net) (row : CRow) → is_row_of net row ≡ true → (row.first_track.0 < row.second_track.0) × Clash net (first_use row) (second_use row)
row_parts net row h =
    let x = and_parts _ _ h in let y = and_parts _ _ x.0 in let z = and_parts _ _ y.0 in let n = and_parts _ _ x.1 in
    (ltb-true _ _ z.0, record { first = possible_parts net (first_use row) z.1; second = possible_parts net (second_use row) y.1; after = ltb-true _ _ n.0; before = ltb-true _ _ n.1 })

pub row_made : (net : Net) (row : CRow) → row.first_track.0 < row.second_track.0 → Clash net (first_use row) (second_use row) → is_row_of net row ≡ true
row_made net row l c =
    and_from _ _ (and_from _ _ (and_from _ _ (lt-ltb _ _ l) (possible_from net (first_use row) c.first)) (possible_from net (second_use row) c.second)) (and_from _ _ (lt-ltb _ _ c.after) (lt-ltb _ _ c.before))

-- the row of two uses
pub with_parts : (net : Net) (own other : TrackUse) → is_row_of net (row_with own other) ≡ true → (own.track.0 ≢ other.track.0) × Clash net own other
with_parts net own other h = go (nat_lt other.track.0 own.track.0) h
  where
    go : (b : Bool) → is_row_of net (cond b (row_from other own) (row_from own other)) ≡ true → (own.track.0 ≢ other.track.0) × Clash net own other
    go true e = let p = row_parts net (row_from other own) e in ((λ s. let l = p.0 in omega (arith, s, l)), turn net other own p.1)
    go false e = let p = row_parts net (row_from own other) e in ((λ s. let l = p.0 in omega (arith, s, l)), p.1)

pub with_made : (net : Net) (own other : TrackUse) → own.track.0 ≢ other.track.0 → Clash net own other → is_row_of net (row_with own other) ≡ true
with_made net own other ne c = go (nat_lt other.track.0 own.track.0) refl
  where
    go : (b : Bool) → nat_lt other.track.0 own.track.0 ≡ b → is_row_of net (cond b (row_from other own) (row_from own other)) ≡ true
    go true e = row_made net (row_from other own) (ltb-true _ _ e) (turn net own other c)
    go false e = row_made net (row_from own other) (let l = ltb-false _ _ e in omega (arith, ne, l)) c

-- ---- the crossers of a use

pub crossers_are : (net : Net) → IsBuilt net → (t : TrackId) (k : TypeId) → All IsCrosser (crossers_of net t k)
crossers_are net built t k =
    All-map IsCrosser (crosser_of net.crossings) (filter (is_across net t.0 k.0) net.crossings)
    (All-filter (is_across net t.0 k.0) (λ row. IsCrosser (crosser_of net.crossings row)) net.crossings (λ j d l. is (get_or net.crossings j d) (built.crossings.each j d l)))
  where
    small : (o : Option ℕ) → IfSome o (IsFromTo 1 120) → unwrap_or o 0 ≤ 120
    small None h = omega arith
    small (Some n) h = h.1

    is : (row : CrossingRow) → IsCrossingRow (length net.tracks) (length net.types) row → IsCrosser (crosser_of net.crossings row)
    is row r =
        let few = built.counts.few_tracks in let types = built.counts.few_types in let track = r.second_track in let kind = r.second in
        record {
          track = omega (arith, few, track);
          kind = omega (arith, types, kind);
          before = small _ (crossing_range net built (track_id row.0.1) (track_id row.0.0) (type_id row.0.3) (type_id row.0.2));
          after = r.minutes.1;
        }

pub total_few : (net : Net) (t : TrackId) (k : TypeId) (time : ℕ) → total time (crossers_of net t k) ≤ reach_of net t k
total_few net t k time = sum_kept-le (crosser_of net.crossings) (is_across net t.0 k.0) (count_all time) (reach_by net.crossings t.0 k.0) net.crossings (λ row h.
    let own : reach_by net.crossings t.0 k.0 row ≡ span_of net.crossings row = ap (λ b. cond b (span_of net.crossings row) 0) (and_parts _ _ h).0 in
    let few = count_few time (crosser_of net.crossings row) in omega (arith, own, few))

pub rank_step : (time p : ℕ) (crossers : List Crosser) → All IsCrosser crossers → rank time (p + 1) crossers ≡ rank time p crossers + sum_by (λ c. cond (hit time p c) 1 0) crossers
rank_step time p [] all = refl
rank_step time p (c ∷ crossers) all =
    let a : rank time (p + 1) (c ∷ crossers) ≡ count_below time (p + 1) c + rank time (p + 1) crossers = sum_by-cons (count_below time (p + 1)) c crossers in
    let b : rank time p (c ∷ crossers) ≡ count_below time p c + rank time p crossers = sum_by-cons (count_below time p) c crossers in
    let h : sum_by (λ c. cond (hit time p c) 1 0) (c ∷ crossers) ≡ cond (hit time p c) 1 0 + sum_by (λ c. cond (hit time p c) 1 0) crossers = sum_by-cons (λ c. cond (hit time p c) 1 0) c crossers in
    let s = count_step time p c (all 0 c (omega arith)) in
    let r = rank_step time p crossers (λ j d l. all (suc j) d (omega arith)) in omega (arith, a, b, h, s, r)

module _ (net : Net) (own : TrackUse) (proper : IsProper net) (possible : IsPossible net own) where
  abbrev key_at : ℕ → CrossingKey
  key_at p = (own.track.0, p / 46080, own.kind.0, p % 16)

  abbrev back_at : ℕ → ℕ
  back_at p = unwrap_or (lookup (same_quadruple (turned (key_at p))) net.crossings) 0

  abbrev test_at : ℕ → ℕ → Bool
  test_at p m = is_possible net (use_at p) && nat_lt (p % 46080 / 16) (own.time + m) && nat_lt own.time (p % 46080 / 16 + back_at p)

  -- a row of crossings is counted where its key is that of the two uses and they come too near
  counted_alike : (p : ℕ) (row : CrossingRow) → (is_across net own.track.0 own.kind.0 row && hit own.time p (crosser_of net.crossings row)) ≡ (same_quadruple (key_at p) row.0 && test_at p row.1)
  counted_alike p row = both_or_none _ _ to from
    where
      to : (is_across net own.track.0 own.kind.0 row && hit own.time p (crosser_of net.crossings row)) ≡ true → (same_quadruple (key_at p) row.0 && test_at p row.1) ≡ true
      to h =
          let x = and_parts _ _ h in
          let a = and_parts _ _ x.0 in let b = and_parts _ _ a.0 in
          let c = and_parts _ _ x.1 in let d = and_parts _ _ c.0 in let e = and_parts _ _ d.0 in
          let track : p / 46080 ≡ row.0.1 = eqb-true _ _ e.0 in
          let kind : p % 16 ≡ row.0.3 = eqb-true _ _ e.1 in
          let key : key_at p ≡ row.0 = λ i. (eqb-true own.track.0 row.0.0 b.0 i, track i, eqb-true own.kind.0 row.0.2 b.1 i, kind i) in
          let may : is_some (times_of net (track_id (p / 46080)) (type_id (p % 16))) ≡ true = (λ i. is_some (times_of net (track_id (track i)) (type_id (kind i)))) ∙ a.1 in
          let back : back_at p ≡ (crosser_of net.crossings row).before = ap (λ (k : CrossingKey). unwrap_or (lookup (same_quadruple (turned k)) net.crossings) 0) key in
          and_from _ _ (ap (same_quadruple (key_at p)) (sym key) ∙ quadruple_self (key_at p))
          (and_from _ _ (and_from _ _ (and_from _ _ may (le-leb _ _ (let m = minute_small p in omega (arith, m)))) d.1) (ap (λ n. nat_lt own.time (p % 46080 / 16 + n)) back ∙ c.1))

      from : (same_quadruple (key_at p) row.0 && test_at p row.1) ≡ true → (is_across net own.track.0 own.kind.0 row && hit own.time p (crosser_of net.crossings row)) ≡ true
      from h =
          let x = and_parts _ _ h in
          let key : key_at p ≡ row.0 = quadruple_same (key_at p) row.0 x.0 in
          let t = and_parts _ _ x.1 in let u = and_parts _ _ t.0 in let v = and_parts _ _ u.0 in
          let track : p / 46080 ≡ row.0.1 = ap (λ (k : CrossingKey). k.1) key in
          let kind : p % 16 ≡ row.0.3 = ap (λ (k : CrossingKey). k.3) key in
          let may : may_cross net row ≡ true = (λ i. is_some (times_of net (track_id (sym track i)) (type_id (sym kind i)))) ∙ v.0 in
          let back : back_at p ≡ (crosser_of net.crossings row).before = ap (λ (k : CrossingKey). unwrap_or (lookup (same_quadruple (turned k)) net.crossings) 0) key in
          and_from _ _ (and_from _ _ (and_from _ _ (eq-eqb _ _ (ap (λ (k : CrossingKey). k.0) key)) (eq-eqb _ _ (ap (λ (k : CrossingKey). k.2) key))) may)
          (and_from _ _ (and_from _ _ (and_from _ _ (eq-eqb _ _ track) (eq-eqb _ _ kind)) u.1) (ap (λ n. nat_lt own.time (p % 46080 / 16 + n)) (sym back) ∙ t.1))

  -- a crossing that is not there, and so not in its other direction either
  no_back : (p : ℕ) → lookup (same_quadruple (key_at p)) net.crossings ≡ None → back_at p ≡ 0
  no_back p e = go (lookup (same_quadruple (turned (key_at p))) net.crossings) refl
    where
      none : (o : Option ℕ) → o ≡ None → IsSome o → ⊥
      none None f s = grind arith
      none (Some n) f s = cc

      some : (n : ℕ) → IsSome (Some n)
      some n = search rules

      go : (o : Option ℕ) → lookup (same_quadruple (turned (key_at p))) net.crossings ≡ o → unwrap_or o 0 ≡ 0
      go None f = refl
      go (Some n) f =
          absurd (none (lookup (same_quadruple (key_at p)) net.crossings) e
          (proper.both_ways (track_id (p / 46080)) own.track (type_id (p % 16)) own.kind (subst IsSome (sym f) (some n))))

  -- the test of the crossing that is found
  tested : (p : ℕ) (o : Option ℕ) → lookup (same_quadruple (key_at p)) net.crossings ≡ o → ◌≡◌ {A = ℕ} (option_map_or (λ m. cond (test_at p m) 1 0) o 0) (cond (is_crossed net own p) 1 0)
  tested p None e =
      ap one_if (sym (false_from_ne_true (is_crossed net own p) (λ h.
      let c = (with_parts net own (use_at p) h).1 in
      let after : p % 46080 / 16 < own.time + 0 = subst (λ o. p % 46080 / 16 < own.time + unwrap_or o 0) e c.after in
      let before : own.time < p % 46080 / 16 + 0 = subst (λ n. own.time < p % 46080 / 16 + n) (no_back p e) c.before in omega (arith, after, before))))
  tested p (Some m) e = ap one_if (both_or_none (test_at p m) (is_crossed net own p) to from)
    where
      apart : own.track.0 ≢ p / 46080
      apart = (subst (λ o. IfSome o (λ n. IsCrossingRow (length net.tracks) (length net.types) (key_at p, n))) e (crossing_built net own.track (track_id (p / 46080)) own.kind (type_id (p % 16)) proper.built)).apart

      to : test_at p m ≡ true → is_crossed net own p ≡ true
      to h =
          let t = and_parts _ _ h in let u = and_parts _ _ t.0 in
          with_made net own (use_at p) apart (record {
            first = possible;
            second = possible_parts net (use_at p) u.0;
            after = subst (λ o. p % 46080 / 16 < own.time + unwrap_or o 0) (sym e) (ltb-true _ _ u.1);
            before = ltb-true _ _ t.1;
          })

      from : is_crossed net own p ≡ true → test_at p m ≡ true
      from h =
          let c = (with_parts net own (use_at p) h).1 in
          and_from _ _ (and_from _ _ (possible_from net (use_at p) c.second) (lt-ltb _ _ (subst (λ o. p % 46080 / 16 < own.time + unwrap_or o 0) e c.after))) (lt-ltb _ _ c.before)

  abbrev own_crossers : List Crosser
  own_crossers = crossers_of net own.track own.kind

  -- one crosser has a use at a place that is in a row with the own one, and else none has
  hits_are : (p : ℕ) → sum_by (λ c. cond (hit own.time p c) 1 0) own_crossers ≡ cond (is_crossed net own p) 1 0
  hits_are p =
      count_kept (crosser_of net.crossings) (is_across net own.track.0 own.kind.0) (hit own.time p) net.crossings
      ∙ sum_same (λ row. cond (is_across net own.track.0 own.kind.0 row && hit own.time p (crosser_of net.crossings row)) 1 0) (λ row. cond (same_quadruple (key_at p) row.0 && test_at p row.1) 1 0) net.crossings
      (λ row. ap (λ b. cond b 1 0) (counted_alike p row))
      ∙ count_unique (key_at p) (test_at p) net.crossings proper.built.crossings.once
      ∙ tested p (lookup (same_quadruple (key_at p)) net.crossings) refl

  -- so many uses below a place are in a row with the own one
  pub rank_is : (p : ℕ) → rank own.time p own_crossers ≡ length (filter (is_crossed net own) (range_with_len 0 p))
  rank_is zero = sum_none (count_below own.time 0) own_crossers (λ j d l. count_none own.time (get_or own_crossers j d))
  rank_is (suc p) =
      ap (λ n. rank own.time n own_crossers) (sym (add-one p)) ∙ rank_step own.time p own_crossers (crossers_are net proper.built own.track own.kind)
      ∙ (λ i. rank_is p i + hits_are p i)
      ∙ sym (length_more (is_crossed net own) 0 p ∙ ap (λ m. length (filter (is_crossed net own) (range_with_len 0 p)) + one_if (is_crossed net own m)) (let z : 0 + p ≡ p = omega arith in z))

  -- at most 4,000
  pub few_places : length (crossed_places net own) ≤ 4000
  few_places =
      let n : ℕ = length net.tracks * 46080 in
      let is = rank_is n in
      let below = sum_le (count_below own.time n) (count_all own.time) own_crossers (count_most own.time n) in
      let few = total_few net own.track own.kind own.time in
      let reach = proper.within_reach own.track own.kind in omega (arith, is, below, few, reach)

  -- the k-th place
  pub place_is : (k p : ℕ) → IsPlace own.time own_crossers k p → slice_get (crossed_places net own) k ≡ Some p
  place_is k p is =
      let step : rank own.time (p + 1) own_crossers ≡ rank own.time p own_crossers + cond (is_crossed net own p) 1 0 =
      rank_step own.time p own_crossers (crossers_are net proper.built own.track own.kind) ∙ ap (λ n. rank own.time p own_crossers + n) (hits_are p) in
      go (is_crossed net own p) refl step
    where
      go : (b : Bool) → is_crossed net own p ≡ b → rank own.time (p + 1) own_crossers ≡ rank own.time p own_crossers + cond b 1 0 → slice_get (crossed_places net own) k ≡ Some p
      go false e s = let low = is.low in let high = is.high in absurd (omega (arith, s, low, high))
      go true e s =
          let low = is.low in let high = is.high in
          let here : length (filter (is_crossed net own) (range_with_len 0 p)) ≡ k = sym (rank_is p) ∙ (let z : rank own.time p own_crossers ≡ k = omega (arith, s, low, high) in z) in
          let c = (with_parts net own (use_at p) e).1 in
          let below = (below_types net (track_id (p / 46080)) (type_id (p % 16)) proper c.second.may).2 in
          let z : 0 + p ≡ p = omega arith in
          let inside : p < length net.tracks * 46080 = let at = place_parts p in let m = minute_small p in omega arith in
          subst (λ n. slice_get (crossed_places net own) n ≡ Some p) here (select (is_crossed net own) 0 (length net.tracks * 46080) p inside (ap (is_crossed net own) z ∙ e) ∙ ap Some z)

  pub place_none : (k : ℕ) → total own.time own_crossers ≤ k → slice_get (crossed_places net own) k ≡ None
  place_none k le =
      let n : ℕ = length net.tracks * 46080 in
      let is = rank_is n in
      let below = sum_le (count_below own.time n) (count_all own.time) own_crossers (count_most own.time n) in
      slice_get_past (crossed_places net own) k (omega (arith, is, below, le))
