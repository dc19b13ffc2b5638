-- The types that have a crossing with a type on a track: as a pass over the rows lists them, and sorted.
use Rattle.std.proofs.Common.{◌≡◌, ℕ, zero, suc, ◌+◌, ◌*◌, ◌<◌, ◌≤◌, ◌&&◌, nat_eq, ◌⊎◌, ⊎_elim, inl, inr, Bool, true, false, cond, List, [], ◌∷◌, ◌++◌, length, map, filter, get_or, replicate, set, take, slice_get, Some, None, Option, IfSome, unwrap_or, refl, sym, ap, ◌∙◌, subst, arith, add-one, append-nil, length-set, eq-eqb, eqb-true}
use Rattle.std.specs.Option.{option_map_or}
use Rattle.std.specs.Ordering.{nat_cmp, ordering_then, is_lt}
use Rattle.std.specs.List.Sorted.{IsNonDecreasingBy, IsPermutation, IsSorted, IsSortedByKey}
use Rattle.std.specs.declared.cmp.Ordering.{Ordering}
use Rattle.std.specs.declared.cmp.Ordering.TheVariants.{Less, Equal, Greater}
use Rattle.std.proofs.lemmas.Bool.{and_parts, cases_Bool, cases_eq, cases_lt, ne_eqb, false_from_ne_true}
use Rattle.std.proofs.lemmas.List.{map-append, get_or-replicate, length-replicate}
use Rattle.std.proofs.lemmas.List.Elements.{filter-append}
use Rattle.std.proofs.lemmas.List.Sorted.{IsNonDecreasingBy-from_sort}
use Rattle.std.proofs.Math.Seq.{take-suc}
use Rattle.std.proofs.lemmas.Option.{slice_get-get_or, slice_get_past, slice_get_within, get_or_from_slice_get}
use Rattle.optra_network.specs.Net.{Net, IsBuilt, IsCrossingRow, CrossingRow}
use Rattle.optra_network.specs.Crossers.{IsFree, may_cross, is_across, crosser_of, crossers_in, crossers_at, IsSortedFrom, AreSortedFrom, HoldsCrossers, TracksRise}
use Rattle.optra_network.specs.Tables.{HoldsPairs}
use Rattle.optra_network.specs.declared.Crosser.{Crosser}
use Rattle.optra_network.specs.contracts.CrosserOrd.TheImpl.{ghosts}
use Rattle.optra_network.proofs.TableLemmas.{HoldsPairs-set, HoldsPairs-same, read_written, read_other}
use Rattle.optra_network.proofs.CrossingLemmas.{IsRowAt, row_at}

-- ---- row by row

-- the lists with one more row
crossers_more : (net : Net) (rows : List CrossingRow) (i : ℕ) (d : CrossingRow) (t k : ℕ) (b : Bool) → i < length rows → is_across net t k (get_or rows i d) ≡ b
    → crossers_in net (take (i + 1) rows) t k ≡ crossers_in net (take i rows) t k ++ cond b (crosser_of net.crossings (get_or rows i d) ∷ []) []
crossers_more net rows i d t k b l e =
    rw add-one (ap (λ xs. map (crosser_of net.crossings) (filter (is_across net t k) xs)) (take-suc rows i d l)
    ∙ ap (map (crosser_of net.crossings)) (filter-append (is_across net t k) (take i rows) (get_or rows i d ∷ []))
    ∙ map-append (crosser_of net.crossings) (filter (is_across net t k) (take i rows)) (filter (is_across net t k) (get_or rows i d ∷ []))
    ∙ ap (λ xs. crossers_in net (take i rows) t k ++ xs) (ap (λ c. map (crosser_of net.crossings) (cond c (get_or rows i d ∷ []) [])) e ∙ one b))
  where
    one : (b : Bool) → map (crosser_of net.crossings) (cond b (get_or rows i d ∷ []) []) ≡ cond b (crosser_of net.crossings (get_or rows i d) ∷ []) []
    one true = refl
    one false = refl

across_own : (net : Net) (row : CrossingRow) (t k : ℕ) → t ≡ row.0.0 → k ≡ row.0.2 → may_cross net row ≡ true → is_across net t k row ≡ true
across_own net row t k et ek m = (λ i. eq-eqb t row.0.0 et i && eq-eqb k row.0.2 ek i && m i)

across_other : (net : Net) (row : CrossingRow) (t k : ℕ) → (t ≡ row.0.0 → k ≡ row.0.2 → ⊥) → is_across net t k row ≡ false
across_other net row t k ne = false_from_ne_true _ (λ e.
    let x = and_parts _ _ e in let y = and_parts _ _ x.0 in ne (eqb-true _ _ y.0) (eqb-true _ _ y.1))

may_not_across : (net : Net) (row : CrossingRow) (t k : ℕ) → may_cross net row ≡ false → is_across net t k row ≡ false
may_not_across net row t k m = false_from_ne_true _ (λ e. let x = and_parts _ _ e in true_false (sym x.1 ∙ m))
  where
    true_false : true ≡ false → ⊥
    true_false e = cc

-- a row whose type may not use its track adds nothing
pub crossers_skip : (net : Net) (rows : List CrossingRow) (i tracks : ℕ) (row : CrossingRow) (lists : List (List Crosser)) → HoldsPairs (crossers_in net (take i rows)) tracks lists
    → slice_get rows i ≡ Some row → may_cross net row ≡ false → HoldsPairs (crossers_in net (take (i + 1) rows)) tracks lists
crossers_skip net rows i tracks row lists h at m =
    let within = slice_get_within rows i row at in
    let is : get_or rows i row ≡ row = get_or_from_slice_get rows i row row at in
    HoldsPairs-same (crossers_in net (take i rows)) (crossers_in net (take (i + 1) rows)) tracks lists h (λ t k.
    crossers_more net rows i row t k false within (ap (is_across net t k) is ∙ may_not_across net row t k m) ∙ append-nil (crossers_in net (take i rows) t k))

-- another row goes to the list of its own side
pub crossers_push : (net : Net) (rows : List CrossingRow) (i tracks : ℕ) (row : CrossingRow) (lists : List (List Crosser)) (list : List Crosser) → HoldsPairs (crossers_in net (take i rows)) tracks lists
    → slice_get rows i ≡ Some row → may_cross net row ≡ true → row.0.0 < tracks → row.0.2 < 16
    → list ≡ get_or lists (row.0.0 * 16 + row.0.2) [] ++ crosser_of net.crossings row ∷ []
    → HoldsPairs (crossers_in net (take (i + 1) rows)) tracks (set lists (row.0.0 * 16 + row.0.2) list)
crossers_push net rows i tracks row lists list h at m lt lk made =
    let within = slice_get_within rows i row at in
    let is : get_or rows i row ≡ row = get_or_from_slice_get rows i row row at in
    let own : is_across net row.0.0 row.0.2 (get_or rows i row) ≡ true = ap (is_across net row.0.0 row.0.2) is ∙ across_own net row row.0.0 row.0.2 refl refl m in
    let before : get_or lists (row.0.0 * 16 + row.0.2) [] ≡ crossers_in net (take i rows) row.0.0 row.0.2 =
    get_or_from_slice_get lists (row.0.0 * 16 + row.0.2) (crossers_in net (take i rows) row.0.0 row.0.2) [] (h.each row.0.0 row.0.2 lt lk) in
    HoldsPairs-set (crossers_in net (take i rows)) (crossers_in net (take (i + 1) rows)) tracks lists row.0.0 row.0.2 list h lt lk
    (crossers_more net rows i row row.0.0 row.0.2 true within own ∙ ap (λ x. crossers_in net (take i rows) row.0.0 row.0.2 ++ crosser_of net.crossings x ∷ []) is
    ∙ sym (made ∙ ap (λ xs. xs ++ crosser_of net.crossings row ∷ []) before))
    (λ a b ne. crossers_more net rows i row a b false within (ap (is_across net a b) is ∙ across_other net row a b ne) ∙ append-nil (crossers_in net (take i rows) a b))

-- empty lists, before any row
pub crossers_none : (net : Net) (rows : List CrossingRow) (tracks : ℕ) (lists : List (List Crosser)) → lists ≡ replicate (tracks * 16) [] → HoldsPairs (crossers_in net (take 0 rows)) tracks lists
crossers_none net rows tracks lists is =
    let len : length lists ≡ tracks * 16 = ap length is ∙ length-replicate (tracks * 16) [] in
    record {
      len = len;
      each = λ t k lt lk.
          slice_get-get_or lists (t * 16 + k) [] (omega arith) ∙ ap Some (ap (λ xs. get_or xs (t * 16 + k) []) is ∙ get_or-replicate (tracks * 16) (t * 16 + k) [] [] (omega arith));
    }

-- ---- sorted

-- the first n lists are sorted, and the others are as before
pub record IsSortedTo (before after : List (List Crosser)) (n : ℕ) : Type 0 where
  pub len : length after ≡ length before
  pub done : (j : ℕ) → j < n → j < length before → IsSortedFrom (unwrap_or (slice_get before j) []) (unwrap_or (slice_get after j) [])
  pub rest : (j : ℕ) → n ≤ j → slice_get after j ≡ slice_get before j

pub none_sorted : (lists : List (List Crosser)) → IsSortedTo lists lists 0
none_sorted lists = record { len = refl; done = λ j l w. absurd (omega arith); rest = λ j l. refl }

by_tracks : (a b : Crosser) → is_lt (ghosts.cmp a b) ≡ false → is_lt (nat_cmp a.track.0 b.track.0) ≡ false
by_tracks a b e = go (nat_cmp a.track.0 b.track.0) refl
  where
    go : (o : Ordering) → nat_cmp a.track.0 b.track.0 ≡ o → is_lt o ≡ false
    go Less is = absurd (let bad : true ≡ false = sym (ap (λ o. is_lt (ordering_then o (ordering_then (nat_cmp a.kind.0 b.kind.0) (ordering_then (nat_cmp a.before b.before) (nat_cmp a.after b.after))))) is) ∙ e in cc)
    go Equal is = refl
    go Greater is = refl

pub sorted_rise : (list : List Crosser) → IsSorted ghosts.cmp list → TracksRise list
sorted_rise list sorted = IsNonDecreasingBy-from_sort (λ (c : Crosser). c.track.0) list (λ k d low l. by_tracks (get_or list (k + 1) d) (get_or list k d) (sorted k d low l))

pub sorted_more : (before after : List (List Crosser)) (n : ℕ) (list : List Crosser) → IsSortedTo before after n → n < length before
    → IsPermutation (get_or after n []) list → IsSorted ghosts.cmp list → IsSortedTo before (set after n list) (n + 1)
sorted_more before after n list h l same sorted = record {
  len = length-set after n list ∙ h.len;
  done = λ j lj w.
      let place : n < length after = let e = h.len in omega arith in
      let other : j < length after = let e = h.len in omega arith in
      ⊎_elim
      (λ (e : j ≡ n).
      let at : slice_get (set after n list) j ≡ Some list = ap (slice_get (set after n list)) e ∙ read_written after n list place in
      let was : unwrap_or (slice_get before j) [] ≡ get_or after n [] =
      ap (λ m. unwrap_or (slice_get before m) []) e ∙ ap (λ o. unwrap_or o []) (sym (h.rest n (omega arith)) ∙ slice_get-get_or after n [] place) in
      subst (λ o. IsSortedFrom (unwrap_or (slice_get before j) []) (unwrap_or o [])) (sym at)
      (subst (λ xs. IsSortedFrom xs list) (sym was) (record { same = same; rise = sorted_rise list sorted })))
      (λ ne.
      let at : slice_get (set after n list) j ≡ Some (get_or after j []) = read_other after n j list (get_or after j []) ne (slice_get-get_or after j [] other) other in
      subst (λ o. IsSortedFrom (unwrap_or (slice_get before j) []) (unwrap_or o [])) (slice_get-get_or after j [] other ∙ sym at) (h.done j (omega arith) w))
      (cases_eq j n);
  rest = λ j lj.
      ⊎_elim
      (λ w. read_other after n j list (get_or after j []) (λ e. omega (arith, e)) (slice_get-get_or after j [] w) w ∙ sym (slice_get-get_or after j [] w) ∙ h.rest j (omega arith))
      (λ past. past_end (set after n list) j (omega (arith, length-set after n list)) ∙ sym (past_end after j past) ∙ h.rest j (omega arith))
      (cases_lt j (length after));
}
  where
    past_end : (xs : List (List Crosser)) (j : ℕ) → length xs ≤ j → slice_get xs j ≡ None
    past_end xs j p = slice_get_past xs j p

pub all_sorted : (before after : List (List Crosser)) (n : ℕ) → IsSortedTo before after n → length before ≤ n → AreSortedFrom before after
all_sorted before after n h l = record { len = h.len; each = λ j w. h.done j (omega arith) w }

pub holds_sorted : (net : Net) (tracks : ℕ) (before after : List (List Crosser)) → HoldsPairs (crossers_at net) tracks before → AreSortedFrom before after → HoldsCrossers net tracks after
holds_sorted net tracks before after h s = record {
  len = s.len ∙ h.len;
  each = λ t k lt lk.
      let w : t * 16 + k < length before = let e = h.len in omega arith in
      subst (λ o. IsSortedFrom (unwrap_or o []) (unwrap_or (slice_get after (t * 16 + k)) [])) (h.each t k lt lk) (s.each (t * 16 + k) w);
}

-- the row at a position whose second type may not use its track
pub free_row : (net : Net) (i : ℕ) → i < length net.crossings → IsFree net i → (row : CrossingRow) × (slice_get net.crossings i ≡ Some row) × (may_cross net row ≡ false)
free_row net i l free = go (slice_get net.crossings i) refl
  where
    go : (o : Option CrossingRow) → slice_get net.crossings i ≡ o → (row : CrossingRow) × (slice_get net.crossings i ≡ Some row) × (may_cross net row ≡ false)
    go None e = absurd (none_some (get_or net.crossings i ((0, 0, 0, 0), 0)) (sym e ∙ slice_get-get_or net.crossings i ((0, 0, 0, 0), 0) l))
      where
        none_some : (x : CrossingRow) → ◌≡◌ {A = Option CrossingRow} None (Some x) → ⊥
        none_some x e = cc
    go (Some row) e = (row, e, subst (λ o. IfSome o (λ row. may_cross net row ≡ false)) e free)
