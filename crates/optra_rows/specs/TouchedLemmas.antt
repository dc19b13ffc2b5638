-- The rows that a leg uses, as a list: ascending, and exactly those.
use Rattle.std.proofs.Common.{◌≡◌, ℕ, zero, suc, ◌+◌, ◌-◌, ◌*◌, ◌/◌, ◌%◌, ◌<◌, ◌≤◌, ◌&&◌, inl, inr, Bool, true, false, cond, nat_lt, nat_eq, Some, None, is_some, unwrap_or, List, [], ◌∷◌, ◌++◌, map, length, slice_get, get_or, filter, drop, refl, sym, ap, ◌∙◌, subst, arith, length-append}
use Rattle.std.proofs.lemmas.Bool.{lt-leb, leb-false, ltb-false, ltb-true, leb-true, eqb-true, lt-ltb, le-leb, le-ltb, eq-eqb, and_parts, and_from, or_cases, or_left, or_right, cases_lt, false_from_ne_true}
use Rattle.std.proofs.lemmas.List.{length-map}
use Rattle.std.proofs.lemmas.List.Sums.{sum_by-le}
use Rattle.std.proofs.lemmas.List.FromFn.{length-map-range_with_len}
use Rattle.std.proofs.lemmas.Option.{slice_get-map}
use Rattle.std.proofs.lemmas.Map.Lookups.{exact_unsigned}
use Rattle.std.specs.List.{range_with_len, position_or_len}
use Rattle.std.specs.Option.{option_map}
use Rattle.std.specs.Cmp.{nat_cmp_is}
use Rattle.std.specs.Ordering.{nat_cmp, ordering_then}
use Rattle.std.specs.declared.cmp.Ordering.{Ordering}
use Rattle.std.specs.declared.cmp.Ordering.TheVariants.{Less, Equal, Greater}
use Rattle.optra_network.specs.Net.{Net, IsProper, MayUse, times_of}
use Rattle.optra_network.specs.Headways.{type_id, least_of, headway_before, hmin_or_0}
use Rattle.optra_network.specs.Partners.{is_paired, partner_at, partner_places, partners_of}
use Rattle.optra_network.specs.declared.Partner.{Partner}
use Rattle.optra_network.specs.declared.TrackId.{TrackId}
use Rattle.optra_network.specs.declared.TypeId.{TypeId}
use Rattle.optra_network.proofs.HeadwayLemmas.{below_types}
use Rattle.optra_network.proofs.TableLemmas.{quotient, remainder}
use Rattle.optra_network.proofs.MemberLemmas.{In, in_get, in_from, contains_from, in_append, in_append_left, in_append_right, in_map, in_map_from, in_filter, in_filter_from, in_range, in_range_from}
use Rattle.optra_network.proofs.PartnerLemmas.{numbers_of, PairParts, pair_parts, pair_from, true_some, paired_rule, paired_arithmetic, is_place, partner_places-is}
use Rattle.optra_walk.specs.Families.{Ascends, ListsRows, TellsApart, UsesFew}
use Rattle.optra_rows.specs.declared.HRow.{HRow}
use Rattle.optra_rows.specs.declared.HRow.TheVariants.{Window, Pair}
use Rattle.optra_rows.specs.contracts.HRowOrd.TheImpl.{ghosts}
use Rattle.optra_rows.specs.Headways.{IsHeadwayRow, is_row_of, is_in_window, uses_row, use_in, pair_of, is_started, is_not_over, ShiftsRise, windows_of, pairs_of, touched_rows, most_rows, kept}
use Rattle.optra_rows.specs.HeartLemmas.{window_parts, window_from, at_parts, at_itself, same_track, same_type}
use Rattle.optra_rows.specs.ListLemmas.{length-filter-le, rises_drop, Rises, rises_few, rises_range, rises_filter, ascends_map, ascends_append, filter_from, slice_get-filter_until, slice_get-drop, slice_get-append, slice_get-append_left, slice_get-range, filter-map, position_or_len-map, kept-map, option_map-map, map-map}

-- the order of rows
abbrev pub row_cmp : HRow → HRow → Ordering
row_cmp = ghosts.cmp

-- ---- the order of rows
less : (x y : ℕ) → x < y → nat_cmp x y ≡ Less
less x y l = sym (nat_cmp_is x y Less l)

equal : (x y : ℕ) → x ≡ y → nat_cmp x y ≡ Equal
equal x y e = sym (nat_cmp_is x y Equal e)

then_less : (a b : Ordering) → a ≡ Less → ordering_then a b ≡ Less
then_less a b e = ap (λ o. ordering_then o b) e

equal_then : (a b : Ordering) → a ≡ Equal → b ≡ Less → ordering_then a b ≡ Less
equal_then a b e f = ap (λ o. ordering_then o b) e ∙ f

pub window_cmp : (k : TrackId) (m : ℕ) (k' : TrackId) (m' : ℕ) → row_cmp (Window k m) (Window k' m') ≡ ordering_then (nat_cmp k.0 k'.0) (nat_cmp m m')
window_cmp k m k' m' = refl

pub pair_cmp : (k : TrackId) (t : ℕ) (a : TypeId) (u : ℕ) (b : TypeId) (k' : TrackId) (t' : ℕ) (a' : TypeId) (u' : ℕ) (b' : TypeId)
    → row_cmp (Pair k t a u b) (Pair k' t' a' u' b') ≡ ordering_then (nat_cmp k.0 k'.0) (ordering_then (nat_cmp t t') (ordering_then (nat_cmp a.0 a'.0) (ordering_then (nat_cmp u u') (nat_cmp b.0 b'.0))))
pair_cmp k t a u b k' t' a' u' b' = refl

pub window_below_pair : (k : TrackId) (m : ℕ) (k' : TrackId) (t : ℕ) (a : TypeId) (u : ℕ) (b : TypeId) → row_cmp (Window k m) (Pair k' t a u b) ≡ Less
window_below_pair k m k' t a u b = refl

both_equal : (a b : Ordering) → ordering_then a b ≡ Equal → (a ≡ Equal) × (b ≡ Equal)
both_equal Less b e = absurd (cc)
both_equal Equal b e = (refl, e)
both_equal Greater b e = absurd (cc)

pub rows_told_apart : TellsApart row_cmp
rows_told_apart (Window k m) (Window k' m') e =
    let x = both_equal (nat_cmp k.0 k'.0) (nat_cmp m m') e in
    let ek = same_track k k' (exact_unsigned _ _ x.0) in let em = exact_unsigned _ _ x.1 in
    λ i. Window (ek i) (em i)
rows_told_apart (Window k m) (Pair k' t' a' u' b') e = absurd (let h : Less ≡ Equal = e in cc)
rows_told_apart (Pair k t a u b) (Window k' m') e = absurd (let h : Greater ≡ Equal = e in cc)
rows_told_apart (Pair k t a u b) (Pair k' t' a' u' b') e =
    let x = both_equal (nat_cmp k.0 k'.0) (ordering_then (nat_cmp t t') (ordering_then (nat_cmp a.0 a'.0) (ordering_then (nat_cmp u u') (nat_cmp b.0 b'.0)))) e in
    let y = both_equal (nat_cmp t t') (ordering_then (nat_cmp a.0 a'.0) (ordering_then (nat_cmp u u') (nat_cmp b.0 b'.0))) x.1 in
    let z = both_equal (nat_cmp a.0 a'.0) (ordering_then (nat_cmp u u') (nat_cmp b.0 b'.0)) y.1 in
    let w = both_equal (nat_cmp u u') (nat_cmp b.0 b'.0) z.1 in
    let ek = same_track k k' (exact_unsigned _ _ x.0) in let et = exact_unsigned _ _ y.0 in let ea = same_type a a' (exact_unsigned _ _ z.0) in
    let eu = exact_unsigned _ _ w.0 in let eb = same_type b b' (exact_unsigned _ _ w.1) in
    λ i. Pair (ek i) (et i) (ea i) (eu i) (eb i)

-- ---- partners by places rise

shifts_from : (xs : List ℕ) → Rises xs → ShiftsRise (map partner_at xs)
shifts_from [] h i j d le l = absurd (omega arith)
shifts_from (x ∷ xs) h zero zero d le l = omega arith
shifts_from (x ∷ xs) h zero (suc j) d le l =
    let m = in_map_from partner_at xs (get_or (map partner_at xs) j d) (in_get (map partner_at xs) j d (omega arith)) in
    let up = h.0 m.source m.inside in
    subst (λ (p : Partner). x / 16 ≤ p.shift) m.is (omega arith)
shifts_from (x ∷ xs) h (suc i) zero d le l = absurd (omega arith)
shifts_from (x ∷ xs) h (suc i) (suc j) d le l = shifts_from xs h.1 i j d (omega arith) (omega arith)

-- ---- pairs by codes
shifted : (net : Net) (track : TrackId) (t : ℕ) (a : TypeId) (u : ℕ) (b : TypeId) (t' u' : ℕ) → t + u' ≡ t' + u → PairParts net track t a u b → PairParts net track t' a u' b
shifted net track t a u b t' u' e p = record { first = p.first; second = p.second; apart = let h = p.apart in omega arith; near = let h = p.near in omega arith }

module _ (net : Net) (track : TrackId) (kind : TypeId) (time : ℕ) (proper : IsProper net) (may : MayUse net track kind) (day : time ≤ 2879) where
  -- by place
  abbrev started : ℕ → Bool
  started code = is_started time (partner_at code)

  abbrev not_over : ℕ → Bool
  not_over code = is_not_over time (partner_at code)

  abbrev in_day : ℕ → Bool
  in_day code = started code && not_over code

  abbrev pair_at : ℕ → HRow
  pair_at code = pair_of track kind time (partner_at code)

  abbrev codes : List ℕ
  codes = filter in_day (partner_places net track kind)

  abbrev pairs_by_places : List HRow
  pairs_by_places = map pair_at codes

  pairs_are : pairs_by_places ≡ pairs_of net track kind time
  pairs_are =
      sym (map-map partner_at (pair_of track kind time) codes)
      ∙ ap (map (pair_of track kind time)) (sym (filter-map partner_at (λ p. is_started time p && is_not_over time p) (partner_places net track kind)))

  -- all rows, by place
  abbrev rows_by_places : List HRow
  rows_by_places = windows_of net track kind time ++ pairs_by_places

  pub rows_are : rows_by_places ≡ touched_rows net track kind time
  rows_are = ap (λ pairs. windows_of net track kind time ++ pairs) pairs_are

  itself : nat_eq track.0 track.0 ≡ true
  itself = eq-eqb track.0 track.0 refl

  in_codes : (code : ℕ) → code < 3840 → is_place net track kind code ≡ true → 120 ≤ time + code / 16 → time + code / 16 ≤ 2999 → In code codes
  in_codes code l n s o =
      in_filter in_day (partner_places net track kind) code
      (subst (λ xs. In code xs) (partner_places-is net track kind) (in_filter (is_place net track kind) (range_with_len 0 3840) code (in_range 0 3840 code (omega arith) (omega arith)) n))
      (and_from (started code) (not_over code) (le-leb _ _ s) (le-leb _ _ o))

  -- the code of a later use
  in_later : (u : ℕ) (b : TypeId) → PairParts net track time kind u b → u ≤ 2879 → In (Pair track time kind u b) (pairs_by_places)
  in_later u b p le =
      let n = numbers_of net track kind b proper p.first p.second in
      let small = (below_types net track b proper p.second).1 in
      let s : ℕ = u + 120 - time in
      let code : ℕ = s * 16 + b.0 in
      let pos = n.positive in let most = n.most in let ap' = p.apart in let near = p.near in
      let eq : s + time ≡ u + 120 = omega arith in
      let big : 1920 ≤ code = omega arith in
      let top : code < 3840 = omega arith in
      let q : code / 16 ≡ s = quotient s b.0 small in
      let r : type_id (code % 16) ≡ b = same_type _ _ (remainder s b.0 small) in
      let shift : PairParts net track 120 kind s b = shifted net track time kind u b 120 s (omega arith) p in
      let no : nat_lt (code / 16) 120 ≡ false = le-ltb (code / 16) 120 (omega (arith, q)) in
      let is_n : is_place net track kind code ≡ true =
      ap (λ c. cond c (is_paired net track (code / 16) (type_id (code % 16)) 120 kind) (is_paired net track 120 kind (code / 16) (type_id (code % 16)))) no
      ∙ (λ i. is_paired net track 120 kind (q i) (r i)) ∙ pair_from net track 120 kind s b shift in
      let back : time + s - 120 ≡ u = omega arith in
      let is : pair_at code ≡ Pair track time kind u b =
      ap (λ c. cond c (Pair track (time + code / 16 - 120) (type_id (code % 16)) time kind) (Pair track time kind (time + code / 16 - 120) (type_id (code % 16)))) no
      ∙ (λ i. Pair track time kind (time + q i - 120) (r i)) ∙ ap (λ v. Pair track time kind v b) back in
      subst (λ row. In row (pairs_by_places)) is
      (in_map (pair_at) codes code (in_codes code top is_n (omega (arith, q)) (omega (arith, q))))

  -- the code of an earlier use
  in_earlier : (t : ℕ) (a : TypeId) → PairParts net track t a time kind → In (Pair track t a time kind) (pairs_by_places)
  in_earlier t a p =
      let n = numbers_of net track a kind proper p.first p.second in
      let small = (below_types net track a proper p.first).1 in
      let s : ℕ = t + 120 - time in
      let code : ℕ = s * 16 + a.0 in
      let pos = n.positive in let most = n.most in let ap' = p.apart in let near = p.near in
      let eq : s + time ≡ t + 120 = omega arith in
      let low : code < 1920 = omega arith in
      let q : code / 16 ≡ s = quotient s a.0 small in
      let r : type_id (code % 16) ≡ a = same_type _ _ (remainder s a.0 small) in
      let shift : PairParts net track s a 120 kind = shifted net track t a time kind s 120 (omega arith) p in
      let yes : nat_lt (code / 16) 120 ≡ true = lt-ltb (code / 16) 120 (omega (arith, q)) in
      let is_n : is_place net track kind code ≡ true =
      ap (λ c. cond c (is_paired net track (code / 16) (type_id (code % 16)) 120 kind) (is_paired net track 120 kind (code / 16) (type_id (code % 16)))) yes
      ∙ (λ i. is_paired net track (q i) (r i) 120 kind) ∙ pair_from net track s a 120 kind shift in
      let back : time + s - 120 ≡ t = omega arith in
      let is : pair_at code ≡ Pair track t a time kind =
      ap (λ c. cond c (Pair track (time + code / 16 - 120) (type_id (code % 16)) time kind) (Pair track time kind (time + code / 16 - 120) (type_id (code % 16)))) yes
      ∙ (λ i. Pair track (time + q i - 120) (r i) time kind) ∙ ap (λ v. Pair track v a time kind) back in
      subst (λ row. In row (pairs_by_places)) is
      (in_map (pair_at) codes code (in_codes code (omega arith) is_n (omega (arith, q)) (omega (arith, q))))

  pub in_rows : (row : HRow) → uses_row net track kind time row ≡ true → In row rows_by_places
  in_rows (Window other m) h =
      let used = and_parts _ _ ((and_parts _ _ h).1) in
      let w = window_parts net track kind time m used.1 in
      let same : track ≡ other = same_track track other (eqb-true _ _ used.0) in
      in_append_left (windows_of net track kind time) (pairs_by_places) (Window other m)
      (subst (λ k. In (Window k m) (windows_of net track kind time)) same
      (in_map (λ minute. Window track minute) (range_with_len time (hmin_or_0 net track kind)) m (in_range time (hmin_or_0 net track kind) m w.0 w.1)))
  in_rows (Pair other t a u b) h =
      let row = and_parts _ _ ((and_parts _ _ h).0) in
      let used = and_parts _ _ ((and_parts _ _ h).1) in
      let same : track ≡ other = same_track track other (eqb-true _ _ used.0) in
      let parts : PairParts net track t a u b = subst (λ k. PairParts net k t a u b) (sym same) (pair_parts net other t a u b row.0) in
      in_append_right (windows_of net track kind time) (pairs_by_places) (Pair other t a u b)
      (subst (λ k. In (Pair k t a u b) (pairs_by_places)) same (elim (or_cases _ _ used.1) [
        | inl x ↦ let e = at_parts kind time a t x in first e.0 e.1 parts (leb-true _ _ row.1)
        | inr x ↦ let e = at_parts kind time b u x in second e.0 e.1 parts
      ]))
    where
      first : kind ≡ a → time ≡ t → PairParts net track t a u b → u ≤ 2879 → In (Pair track t a u b) (pairs_by_places)
      first ea et p le =
          subst (λ x. In (Pair track t x u b) (pairs_by_places)) ea (subst (λ x. In (Pair track x kind u b) (pairs_by_places)) et
          (in_later u b (subst (λ x. PairParts net track time x u b) (sym ea) (subst (λ x. PairParts net track x a u b) (sym et) p)) le))

      second : kind ≡ b → time ≡ u → PairParts net track t a u b → In (Pair track t a u b) (pairs_by_places)
      second eb eu p =
          subst (λ x. In (Pair track t a u x) (pairs_by_places)) eb (subst (λ x. In (Pair track t a x kind) (pairs_by_places)) eu
          (in_earlier t a (subst (λ x. PairParts net track t a time x) (sym eb) (subst (λ x. PairParts net track t a x b) (sym eu) p))))

  -- ---- and no others
  window_used : (m : ℕ) → In m (range_with_len time (hmin_or_0 net track kind)) → uses_row net track kind time (Window track m) ≡ true
  window_used m i =
      let r = in_range_from time (hmin_or_0 net track kind) m i in
      let n = numbers_of net track kind kind proper may may in
      let least = n.least in let most = n.most in
      and_from _ _ (and_from _ _ (lt-ltb _ _ (below_types net track kind proper may).2) (le-leb m 2998 (omega (arith, r))))
      (and_from _ _ itself (window_from net track kind time m r.0 r.1))

  pub record InDay (code : ℕ) : Type 0 where
    pub near : is_place net track kind code ≡ true
    pub started : 120 ≤ time + code / 16
    pub not_over : time + code / 16 ≤ 2999

  in_day_from : (code : ℕ) → In code codes → InDay code
  in_day_from code i =
      let k = in_filter_from in_day (partner_places net track kind) code i in
      let n = in_filter_from (is_place net track kind) (range_with_len 0 3840) code (subst (λ xs. In code xs) (sym (partner_places-is net track kind)) k.inside) in
      let d = and_parts (started code) (not_over code) k.passes in
      record { near = n.passes; started = leb-true _ _ d.0; not_over = leb-true _ _ d.1 }

  code_used : (code : ℕ) → InDay code → uses_row net track kind time (pair_at code) ≡ true
  code_used code d = go (nat_lt (code / 16) 120) refl
    where
      go : (c : Bool) → nat_lt (code / 16) 120 ≡ c → uses_row net track kind time (pair_at code) ≡ true
      go true e =
          let near = ap (λ c. cond c (is_paired net track (code / 16) (type_id (code % 16)) 120 kind) (is_paired net track 120 kind (code / 16) (type_id (code % 16)))) (sym e) ∙ d.near in
          let p = shifted net track (code / 16) (type_id (code % 16)) 120 kind (time + code / 16 - 120) time (let l = d.started in omega arith) (pair_parts net track (code / 16) (type_id (code % 16)) 120 kind near) in
          ap (λ c. uses_row net track kind time (cond c (Pair track (time + code / 16 - 120) (type_id (code % 16)) time kind) (Pair track time kind (time + code / 16 - 120) (type_id (code % 16))))) e
          ∙ and_from _ _ (and_from _ _ (pair_from net track (time + code / 16 - 120) (type_id (code % 16)) time kind p) (le-leb time 2879 day)) (and_from _ _ itself (or_right _ _ (at_itself kind time)))
      go false e =
          let near = ap (λ c. cond c (is_paired net track (code / 16) (type_id (code % 16)) 120 kind) (is_paired net track 120 kind (code / 16) (type_id (code % 16)))) (sym e) ∙ d.near in
          let p = shifted net track 120 kind (code / 16) (type_id (code % 16)) time (time + code / 16 - 120) (let l = d.started in omega arith) (pair_parts net track 120 kind (code / 16) (type_id (code % 16)) near) in
          ap (λ c. uses_row net track kind time (cond c (Pair track (time + code / 16 - 120) (type_id (code % 16)) time kind) (Pair track time kind (time + code / 16 - 120) (type_id (code % 16))))) e
          ∙ and_from _ _ (and_from _ _ (pair_from net track time kind (time + code / 16 - 120) (type_id (code % 16)) p) (le-leb (time + code / 16 - 120) 2879 (let l = d.not_over in omega arith))) (and_from _ _ itself (or_left _ _ (at_itself kind time)))

  pub rows_used : (row : HRow) → In row rows_by_places → uses_row net track kind time row ≡ true
  rows_used row i = elim (in_append (windows_of net track kind time) (pairs_by_places) row i) [
    | inl w ↦
        let m = in_map_from (λ minute. Window track minute) (range_with_len time (hmin_or_0 net track kind)) row w in
        subst (λ r. uses_row net track kind time r ≡ true) m.is (window_used m.source m.inside)
    | inr p ↦
        let m = in_map_from (pair_at) codes row p in
        subst (λ r. uses_row net track kind time r ≡ true) m.is (code_used m.source (in_day_from m.source m.inside))
  ]

  -- ---- ascending
  pub codes_rise : Rises (partner_places net track kind)
  codes_rise = subst Rises (partner_places-is net track kind) (rises_filter (is_place net track kind) (range_with_len 0 3840) (rises_range 0 3840))

  abbrev pair_if : ℕ → Bool → HRow
  pair_if code c = cond c (Pair track (time + code / 16 - 120) (type_id (code % 16)) time kind) (Pair track time kind (time + code / 16 - 120) (type_id (code % 16)))

  pair_order : (a b : ℕ) → 120 ≤ time + a / 16 → 120 ≤ time + b / 16 → a < b → row_cmp (pair_at a) (pair_at b) ≡ Less
  pair_order a b sa sb l = go (nat_lt (a / 16) 120) (nat_lt (b / 16) 120) refl refl
    where
      same : nat_cmp track.0 track.0 ≡ Equal
      same = equal track.0 track.0 refl

      by_case : (c d : Bool) → nat_lt (a / 16) 120 ≡ c → nat_lt (b / 16) 120 ≡ d → row_cmp (pair_if a c) (pair_if b d) ≡ Less
      by_case true true ea eb = equal_then _ _ same (elim (cases_lt (a / 16) (b / 16)) [
        | inl lt ↦ then_less _ _ (less (time + a / 16 - 120) (time + b / 16 - 120) (omega arith))
        | inr ge ↦ equal_then _ _ (equal (time + a / 16 - 120) (time + b / 16 - 120) (omega arith)) (then_less _ _ (less (a % 16) (b % 16) (omega arith)))
      ])
      by_case true false ea eb =
          let la : a / 16 < 120 = ltb-true (a / 16) 120 ea in
          equal_then _ _ same (then_less _ _ (less (time + a / 16 - 120) time (omega arith)))
      by_case false true ea eb =
          let la : b / 16 < 120 = ltb-true (b / 16) 120 eb in let lb : 120 ≤ a / 16 = ltb-false (a / 16) 120 ea in absurd (omega arith)
      by_case false false ea eb =
          equal_then _ _ same (equal_then _ _ (equal time time refl) (equal_then _ _ (equal kind.0 kind.0 refl) (elim (cases_lt (a / 16) (b / 16)) [
            | inl lt ↦ then_less _ _ (less (time + a / 16 - 120) (time + b / 16 - 120) (omega arith))
            | inr ge ↦ equal_then _ _ (equal (time + a / 16 - 120) (time + b / 16 - 120) (omega arith)) (less (a % 16) (b % 16) (omega arith))
          ])))

      go : (c d : Bool) → nat_lt (a / 16) 120 ≡ c → nat_lt (b / 16) 120 ≡ d → row_cmp (pair_at a) (pair_at b) ≡ Less
      go c d ea eb = (λ i. row_cmp (pair_if a (ea i)) (pair_if b (eb i))) ∙ by_case c d ea eb

  windows_ascend : Ascends row_cmp (windows_of net track kind time)
  windows_ascend = ascends_map row_cmp (λ minute. Window track minute) (range_with_len time (hmin_or_0 net track kind))
      (λ a b _ _ l. equal_then _ _ (equal track.0 track.0 refl) (less a b l)) (rises_range time (hmin_or_0 net track kind))

  pairs_ascend : Ascends row_cmp (pairs_by_places)
  pairs_ascend = ascends_map row_cmp (pair_at) codes
      (λ a b i j l. pair_order a b (in_day_from a i).started (in_day_from b j).started l) (rises_filter in_day (partner_places net track kind) codes_rise)

  window_below : (code m : ℕ) → row_cmp (Window track m) (pair_at code) ≡ Less
  window_below code m = go (nat_lt (code / 16) 120)
    where
      go : (c : Bool) → row_cmp (Window track m) (cond c (Pair track (time + code / 16 - 120) (type_id (code % 16)) time kind) (Pair track time kind (time + code / 16 - 120) (type_id (code % 16)))) ≡ Less
      go true = refl
      go false = refl

  pub rows_ascend : Ascends row_cmp rows_by_places
  rows_ascend = ascends_append row_cmp (windows_of net track kind time) (pairs_by_places) windows_ascend pairs_ascend (λ x y i j.
      let m = in_map_from (λ minute. Window track minute) (range_with_len time (hmin_or_0 net track kind)) x i in
      let n = in_map_from (pair_at) codes y j in
      subst (λ r. row_cmp r y ≡ Less) m.is (subst (λ r. row_cmp (Window track m.source) r ≡ Less) n.is (window_below n.source m.source)))

  -- ---- few
  -- no headway is above 120 minutes, so no partner is at the first shift
  late : (code : ℕ) → is_place net track kind code ≡ true → 16 ≤ code
  late code h = go (nat_lt (code / 16) 120) refl
    where
      go : (c : Bool) → nat_lt (code / 16) 120 ≡ c → 16 ≤ code
      go true e =
          let p = pair_parts net track (code / 16) (type_id (code % 16)) 120 kind (ap (λ c. cond c (is_paired net track (code / 16) (type_id (code % 16)) 120 kind) (is_paired net track 120 kind (code / 16) (type_id (code % 16)))) (sym e) ∙ h) in
          let n = numbers_of net track (type_id (code % 16)) kind proper p.first p.second in
          let near = p.near in let most = n.most in omega arith
      go false e = let l = ltb-false (code / 16) 120 e in omega arith

  few_places : length (partner_places net track kind) ≤ 3824
  few_places =
      let places : List ℕ = filter (is_place net track kind) (range_with_len 0 3840) in
      let within : (code : ℕ) → In code places → (16 ≤ code) × (code < 3840) = λ code i.
      let k = in_filter_from (is_place net track kind) (range_with_len 0 3840) code i in
      (late code k.passes, (in_range_from 0 3840 code k.inside).1) in
      let all : 16 + length places ≤ 3840 = rises_few 16 3840 places (omega arith) within (rises_filter (is_place net track kind) (range_with_len 0 3840) (rises_range 0 3840)) in
      subst (λ xs. length xs ≤ 3824) (partner_places-is net track kind) (let l : length places ≤ 3824 = omega arith in l)

  pub few_partners : length (partners_of net track kind) ≤ 3824
  few_partners = let same = length-map (partner_places net track kind) partner_at in let f = few_places in omega (arith, same, f)

  few : length rows_by_places ≤ 3944
  few =
      let n = numbers_of net track kind kind proper may may in
      let least = n.least in let most = n.most in
      let a : length rows_by_places ≡ length (windows_of net track kind time) + length (pairs_by_places) = length-append (windows_of net track kind time) (pairs_by_places) in
      let w : length (windows_of net track kind time) ≡ hmin_or_0 net track kind = length-map-range_with_len (λ minute. Window track minute) time (hmin_or_0 net track kind) in
      let p : length (pairs_by_places) ≡ length codes = length-map codes (pair_at) in
      let c : length codes ≤ length (partner_places net track kind) = length-filter-le in_day (partner_places net track kind) in
      let d = few_places in
      omega arith

  pub use_one : (row : HRow) → use_in net kind track time row ≤ 1
  use_one row = go (uses_row net track kind time row)
    where
      go : (b : Bool) → cond b 1 0 ≤ 1
      go true = omega arith
      go false = omega arith

  use_true : (row : HRow) → 0 < use_in net kind track time row → uses_row net track kind time row ≡ true
  use_true row h = go (uses_row net track kind time row) h
    where
      go : (b : Bool) → 0 < cond b 1 0 → b ≡ true
      go true h = refl
      go false h = absurd (omega arith)

  listed_by_places : ListsRows row_cmp (is_row_of net) (use_in net kind track time) rows_by_places
  listed_by_places = record {
    ascending = rows_ascend;
    used = λ row. (
      (λ h. contains_from rows_by_places row (in_rows row (use_true row h))),
      (λ c. let one : use_in net kind track time row ≡ 1 = ap (λ b. cond b 1 0) (rows_used row (in_from rows_by_places row c)) in omega arith),
    );
    are_rows = λ row h. (and_parts _ _ (use_true row h)).0;
    few = let f = few in omega arith;
    total = let f = few in let t = sum_by-le (use_in net kind track time) 1 rows_by_places (λ k d l. use_one (get_or rows_by_places k d)) in omega arith;
  }

  pub headway_rows_listed : ListsRows row_cmp (is_row_of net) (use_in net kind track time) (touched_rows net track kind time)
  headway_rows_listed = subst (ListsRows row_cmp (is_row_of net) (use_in net kind track time)) rows_are listed_by_places

  -- at most 3,944 of them, each used once
  few_rows : length (touched_rows net track kind time) ≤ most_rows
  few_rows = subst (λ rows. length rows ≤ most_rows) rows_are few

  pub few_headways : UsesFew most_rows (use_in net kind track time) (touched_rows net track kind time)
  few_headways = record {
    few = few_rows;
    total =
        let f = few_rows in
        let t = sum_by-le (use_in net kind track time) 1 (touched_rows net track kind time) (λ k d l. use_one (get_or (touched_rows net track kind time) k d)) in omega arith;
  }

  -- ---- the k-th

  pub touched_window : (k : ℕ) → k < hmin_or_0 net track kind → slice_get (touched_rows net track kind time) k ≡ Some (Window track (time + k))
  touched_window k l =
      let w : length (windows_of net track kind time) ≡ hmin_or_0 net track kind = length-map-range_with_len (λ minute. Window track minute) time (hmin_or_0 net track kind) in
      slice_get-append_left (windows_of net track kind time) (pairs_of net track kind time) k (omega arith)
      ∙ slice_get-map (λ minute. Window track minute) (range_with_len time (hmin_or_0 net track kind)) k
      ∙ ap (option_map (λ minute. Window track minute)) (slice_get-range time (hmin_or_0 net track kind) k l)

  -- the n-th place in the day
  pair_by_place : (n : ℕ) → slice_get codes n ≡ kept not_over (slice_get (partner_places net track kind) (position_or_len started (partner_places net track kind) + n))
  pair_by_place n =
      let places : List ℕ = partner_places net track kind in
      let start : ℕ = position_or_len started places in
      ap (λ xs. slice_get xs n) (filter_from started not_over places (λ x y l h. le-leb 120 (time + y / 16) (let s = leb-true 120 (time + x / 16) h in omega arith)) codes_rise)
      ∙ slice_get-filter_until not_over (drop start places) n (λ x y l h. lt-leb (time + y / 16) 2999 (let s = leb-false (time + x / 16) 2999 h in omega arith)) (rises_drop start places codes_rise)
      ∙ ap (kept not_over) (slice_get-drop start places n)

  -- the same by partners
  partner_by_place : (m : ℕ) → option_map pair_at (kept not_over (slice_get (partner_places net track kind) m))
      ≡ option_map (pair_of track kind time) (kept (is_not_over time) (slice_get (partners_of net track kind) m))
  partner_by_place m =
      sym (option_map-map partner_at (pair_of track kind time) (kept not_over (slice_get (partner_places net track kind) m)))
      ∙ ap (option_map (pair_of track kind time))
      (sym (kept-map partner_at (is_not_over time) (slice_get (partner_places net track kind) m)) ∙ ap (kept (is_not_over time)) (sym (slice_get-map partner_at (partner_places net track kind) m)))

  pub touched_pair : (k n : ℕ) → hmin_or_0 net track kind + n ≡ k
      → slice_get (touched_rows net track kind time) k
      ≡ option_map (pair_of track kind time) (kept (is_not_over time) (slice_get (partners_of net track kind) (position_or_len (is_started time) (partners_of net track kind) + n)))
  touched_pair k n e =
      let w : length (windows_of net track kind time) ≡ hmin_or_0 net track kind = length-map-range_with_len (λ minute. Window track minute) time (hmin_or_0 net track kind) in
      ap (λ rows. slice_get rows k) (sym rows_are)
      ∙ slice_get-append (windows_of net track kind time) pairs_by_places k (omega arith)
      ∙ ap (slice_get pairs_by_places) (let same : k - length (windows_of net track kind time) ≡ n = omega arith in same)
      ∙ slice_get-map pair_at codes n
      ∙ ap (option_map pair_at) (pair_by_place n)
      ∙ partner_by_place (position_or_len started (partner_places net track kind) + n)
      ∙ ap (λ start. option_map (pair_of track kind time) (kept (is_not_over time) (slice_get (partners_of net track kind) (start + n)))) (sym (position_or_len-map partner_at (is_started time) (partner_places net track kind)))

  -- ---- partners in order

  pub shifts_rise : ShiftsRise (partners_of net track kind)
  shifts_rise = shifts_from (partner_places net track kind) codes_rise

-- ---- a type that may not use the track uses no row

no_window : (net : Net) (track : TrackId) (kind : TypeId) (time minute : ℕ) → hmin_or_0 net track kind ≡ 0 → is_in_window net track kind time minute ≡ true → ⊥
no_window net track kind time minute z h = let w = window_parts net track kind time minute h in omega (arith, w.0, w.1)

hmin_none : (net : Net) (track : TrackId) (kind : TypeId) → is_some (times_of net track kind) ≡ false → hmin_or_0 net track kind ≡ 0
hmin_none net track kind e = ap (λ c. unwrap_or (cond c (least_of (λ n. headway_before net track kind (type_id n)) (length net.types)) None) 0) e

pub unusable_none : (net : Net) (track : TrackId) (kind : TypeId) (time : ℕ) (row : HRow) → (MayUse net track kind → ⊥) → use_in net kind track time row ≡ 0
unusable_none net track kind time row may_not = ap (λ b. cond b 1 0) (false_from_ne_true (uses_row net track kind time row) (never row))
  where
    least : hmin_or_0 net track kind ≡ 0
    least = hmin_none net track kind (false_from_ne_true (is_some (times_of net track kind)) (λ e. may_not (true_some (times_of net track kind) e)))

    never : (row : HRow) → uses_row net track kind time row ≡ true → ⊥
    never (Window other minute) h = no_window net track kind time minute least (and_parts _ _ (and_parts _ _ h).1).1
    never (Pair other t a u b) h =
        let parts = and_parts _ _ h in
        let pair = pair_parts net other t a u b (and_parts _ _ parts.0).0 in
        let used = and_parts _ _ parts.1 in
        let same : track ≡ other = same_track track other (eqb-true _ _ used.0) in
        elim (or_cases _ _ used.1) [
          | inl x ↦ let e = at_parts kind time a t x in may_not (subst (λ k. MayUse net k kind) (sym same) (subst (MayUse net other) (sym e.0) pair.first))
          | inr x ↦ let e = at_parts kind time b u x in may_not (subst (λ k. MayUse net k kind) (sym same) (subst (MayUse net other) (sym e.0) pair.second))
        ]

-- ---- the rule's own words

pub row_rule : (net : Net) → IsProper net → (row : HRow) → is_row_of net row ≡ true → IsHeadwayRow net row
row_rule net p (Window track minute) h = let x = and_parts _ _ h in (ltb-true _ _ x.0, leb-true _ _ x.1)
row_rule net p (Pair track t a u b) h = let x = and_parts _ _ h in (paired_rule net p track t a u b x.0, leb-true _ _ x.1)

pub row_arithmetic : (net : Net) → IsProper net → (row : HRow) → IsHeadwayRow net row → is_row_of net row ≡ true
row_arithmetic net p (Window track minute) h = and_from _ _ (lt-ltb _ _ h.0) (le-leb _ _ h.1)
row_arithmetic net p (Pair track t a u b) h = and_from _ _ (paired_arithmetic net p track t a u b h.0) (le-leb _ _ h.1)
