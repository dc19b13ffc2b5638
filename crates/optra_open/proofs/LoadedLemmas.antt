-- Rows that a list has, which rises, and rows that it misses; legs that keep off it.
use Rattle.std.proofs.Common.{◌≡◌, ℕ, suc, cond, ◌+◌, ◌<◌, ◌≤◌, Bool, true, false, List, [], ◌∷◌, length, get_or, Some, slice_get, refl, sym, ap, ◌∙◌, subst, arith, inl, inr}
use Rattle.std.specs.BTreeMap.{is_at}
use Rattle.std.specs.Map.{keys_of, lookup}
use Rattle.std.specs.Prelude.{Result, Ok, Err, unwrap_or, All, filter, map, nat_lt}
use Rattle.std.specs.Cmp.{IsTotalOrder}
use Rattle.std.specs.List.{AllPairs}
use Rattle.std.specs.List.Sorted.{IsBinarySearchResult, IsSearchInRange, IsNonDecreasingBy, IsSortedBy, IsStrictlySortedBy}
use Rattle.std.specs.Ordering.{is_eq, is_lt, ordering_reverse, ordering_index}
use Rattle.std.specs.declared.cmp.Ordering.{Ordering}
use Rattle.std.specs.declared.cmp.Ordering.TheVariants.{Less, Equal, Greater}
use Rattle.std.proofs.lemmas.Bool.{cases_lt}
use Rattle.std.proofs.lemmas.Bool.Decides.{nat_tests}
use Rattle.std.proofs.lemmas.List.{get_or-map, length-map}
use Rattle.std.proofs.lemmas.List.Elements.{All-nil, All-cons, All-head, All-tail}
use Rattle.std.proofs.lemmas.List.Kept.{AllPairs-filter}
use Rattle.std.proofs.lemmas.List.Sorted.{searchable_from_sorted}
use Rattle.std.proofs.lemmas.Map.Keys.{Less-from_sorted}
use Rattle.std.proofs.lemmas.Option.{slice_get-get_or, slice_get_within, get_or_from_slice_get}
use Rattle.optra_network.specs.declared.TypeId.{TypeId}
use Rattle.optra_bid.specs.declared.bids.Bid.{Bid}
use Rattle.optra_walk.specs.declared.Leg.{Leg}
use Rattle.optra_walk.specs.Families.{Rows, ListsRows, Ascends}
use Rattle.optra_node.specs.declared.Decision.{Decision}
use Rattle.optra_node.specs.Nodes.{IsBlocked}
use Rattle.optra_node.proofs.RowLemmas.{ascending_pairs}
use Rattle.optra_node.proofs.OwnLemmas.{load_split}
use Rattle.optra_open.specs.Loaded.{used_rows, AreRising, ArePast, AreLoaded, IsMissing, KeepsOff, KeepsOffAt}

module _ {R : Type 0} (cmp : R → R → Ordering) (total : IsTotalOrder cmp) (loaded : List R) (up : AreRising cmp loaded) where
  not_both : (a b : R) → cmp a b ≡ Equal → cmp a b ≡ Less → ⊥
  not_both a b e l = cc

  turned : (a b : R) (o : Ordering) → cmp a b ≡ o → cmp b a ≡ ordering_reverse o
  turned a b o e = total.antisymm b a ∙ ap ordering_reverse e

  -- a row between those before a place and the one there
  pub between_missing : (place : ℕ) (row : R) → ArePast cmp loaded place row → ((d : R) → place < length loaded → cmp row (get_or loaded place d) ≡ Less) → IsMissing cmp loaded row
  between_missing place row past behind k d l e =
      elim (cases_lt k place) as (λ _. ⊥) [
        | inl early ↦ not_both (get_or loaded k d) row e (past k d early l)
        | inr late ↦ not_both row (get_or loaded k d) (turned (get_or loaded k d) row Equal e)
            (elim (cases_lt place k) as (λ _. cmp row (get_or loaded k d) ≡ Less) [
              | inl later ↦ total.trans row (get_or loaded place d) (get_or loaded k d) (behind d (omega (arith, later, l))) (up place k d later l)
              | inr first ↦
                  let same : place ≡ k = omega (arith, late, first) in
                  subst (λ n. cmp row (get_or loaded n d) ≡ Less) same (behind d (omega (arith, same, l)))
            ])
      ]

  searchable : (row : R) → IsNonDecreasingBy (λ (y : R). ordering_index (cmp y row)) loaded
  searchable row = searchable_from_sorted total (λ (y : R). y) loaded row sorted
    where
      sorted : IsSortedBy (λ (a b : R). is_lt (cmp a b)) loaded
      sorted k d z l = ap is_lt (turned (get_or loaded k d) (get_or loaded (k + 1) d) Less (up k (k + 1) d (omega arith) l))

  -- a row that a search does not find
  pub search_missing : (row : R) (r : Result ℕ ℕ) (i : ℕ) → r ≡ Err i → IsBinarySearchResult (λ y. cmp y row) loaded r → IsMissing cmp loaded row
  search_missing row (Ok j) i e is k d l same = cc
  search_missing row (Err j) i e is k d l same =
      elim (cases_lt k j) as (λ _. ⊥) [
        | inl before ↦ not_both (get_or loaded k d) row same ((is (searchable row)).0 k d (omega (arith, l)) before)
        | inr after ↦ apart (get_or loaded k d) same ((is (searchable row)).1 k d after l)
      ]
    where
      apart : (a : R) → cmp a row ≡ Equal → cmp a row ≡ Greater → ⊥
      apart a e g = cc

  -- and those before the place where it would stand
  pub search_past : (row : R) (r : Result ℕ ℕ) (i : ℕ) → r ≡ Err i → IsBinarySearchResult (λ y. cmp y row) loaded r → ArePast cmp loaded i row
  search_past row (Ok j) i e is k d b l = cc
  search_past row (Err j) i e is k d b l =
      let same : j ≡ i = cc in
      (is (searchable row)).0 k d (omega arith) (omega (arith, same, b))

  -- a row that a search finds is there
  pub search_there : (row : R) (r : Result ℕ ℕ) (i : ℕ) → r ≡ Ok i → IsBinarySearchResult (λ y. cmp y row) loaded r → IsSearchInRange r (length loaded) → IsMissing cmp loaded row → ⊥
  search_there row (Ok j) i e is within missing = missing j row within (is row)
  search_there row (Err j) i e is within missing = cc

  -- a later row is behind them, too
  pub past_later : (place : ℕ) (row later : R) → cmp row later ≡ Less → ArePast cmp loaded place row → ArePast cmp loaded place later
  past_later place row later less past k d b l = total.trans (get_or loaded k d) row later (past k d b l) less

-- the rows of which something is used, from the entries of a map
module _ {R : Type 0} (cmp : R → R → Ordering) (total : IsTotalOrder cmp) where
  abbrev is_used : R × ℕ → Bool
  is_used e = nat_lt 0 e.1

  abbrev are_before : R × ℕ → R × ℕ → Type 0
  are_before a b = cmp a.0 b.0 ≡ Less

  pub used_rise : (entries : List (R × ℕ)) → IsStrictlySortedBy cmp (keys_of entries) → AreRising cmp (used_rows entries)
  used_rise entries sorted i j d l m =
      let used = filter is_used entries in
      let n : j < length used = omega (arith, m, length-map used (λ (e : R × ℕ). e.0)) in
      subst (λ x. cmp x (get_or (used_rows entries) j d) ≡ Less) (sym (get_or-map (λ (e : R × ℕ). e.0) used i (d, 0) d (omega (arith, l, n))))
      (subst (λ x. cmp (get_or used i (d, 0)).0 x ≡ Less) (sym (get_or-map (λ (e : R × ℕ). e.0) used j (d, 0) d n)) (kept i j (d, 0) l n))
    where
      all : AllPairs are_before entries
      all i j e l m =
          let n : j < length (keys_of entries) = omega (arith, m, length-map entries (λ (e : R × ℕ). e.0)) in
          subst (λ x. cmp x (get_or entries j e).0 ≡ Less) (get_or-map (λ (e : R × ℕ). e.0) entries i e e.0 (omega (arith, l, m)))
          (subst (λ x. cmp (get_or (keys_of entries) i e.0) x ≡ Less) (get_or-map (λ (e : R × ℕ). e.0) entries j e e.0 m) (Less-from_sorted cmp (keys_of entries) i j e.0 sorted l n))

      kept : AllPairs are_before (filter is_used entries)
      kept = AllPairs-filter are_before is_used entries all

  -- of a row that isn't listed nothing is used
  pub used_all : (row : R) (entries : List (R × ℕ)) → IsMissing cmp (used_rows entries) row → unwrap_or (lookup (is_at (cmp row)) entries) 0 ≡ 0
  used_all row [] missing = refl
  used_all row (e ∷ es) missing = by (is_at (cmp row) e.0) (nat_lt 0 e.1) refl refl missing (used_all row es)
    where
      equal : (o : Ordering) → is_eq o ≡ true → o ≡ Equal
      equal Equal e = refl
      equal Less e = cc
      equal Greater e = cc

      zero_by : nat_lt 0 e.1 ≡ false → e.1 ≡ 0
      zero_by none = grind (arith, nat_tests)

      by : (here some : Bool) → is_at (cmp row) e.0 ≡ here → nat_lt 0 e.1 ≡ some → IsMissing cmp (map (λ (e : R × ℕ). e.0) (cond some (e ∷ filter is_used es) (filter is_used es))) row
          → (IsMissing cmp (used_rows es) row → unwrap_or (lookup (is_at (cmp row)) es) 0 ≡ 0) → unwrap_or (cond here (Some e.1) (lookup (is_at (cmp row)) es)) 0 ≡ 0
      by true true at some missing rest = absurd (missing 0 e.0 (omega arith) (total.antisymm e.0 row ∙ ap ordering_reverse (equal (cmp row e.0) at)))
      by true false at none missing rest = zero_by none
      by false true apart some missing rest = rest (λ k d l. missing (suc k) d (omega (arith, l)))
      by false false apart none missing rest = rest missing

  -- of each listed row something is used
  pub used_each : (T : R → ℕ) (entries : List (R × ℕ)) → All (λ e. T e.0 ≡ e.1) entries → All (λ row. 0 < T row) (used_rows entries)
  used_each T [] are = All-nil (λ (row : R). 0 < T row)
  used_each T (e ∷ es) are = by (nat_lt 0 e.1) refl (used_each T es (All-tail (λ (e : R × ℕ). T e.0 ≡ e.1) e es are))
    where
      some_by : nat_lt 0 e.1 ≡ true → 0 < T e.0
      some_by some = let same = All-head (λ (e : R × ℕ). T e.0 ≡ e.1) e es are in let n : 0 < e.1 = grind (arith, nat_tests) in omega (arith, same, n)

      by : (some : Bool) → nat_lt 0 e.1 ≡ some → All (λ row. 0 < T row) (used_rows es) → All (λ row. 0 < T row) (map (λ (e : R × ℕ). e.0) (cond some (e ∷ filter is_used es) (filter is_used es)))
      by true some rest = All-cons (λ (row : R). 0 < T row) e.0 (used_rows es) (some_by some) rest
      by false none rest = rest

-- a row of a leg, and those that come after it
pub used_later : {R : Type 0} (cmp : R → R → Ordering) (used : List R) (k j : ℕ) (row later : R) → Ascends cmp used → slice_get used k ≡ Some row → slice_get used j ≡ Some later → k < j → cmp row later ≡ Less
used_later cmp used k j row later ascending at there l =
    let within = slice_get_within used j later there in
    let a = get_or_from_slice_get used k row row at in
    let b = get_or_from_slice_get used j later row there in
    subst (λ x. cmp x later ≡ Less) a (subst (λ x. cmp (get_or used k row) x ≡ Less) b (ascending_pairs cmp used ascending k j row l within))

-- what a leg uses is a row
pub used_is_row : {R : Type 0} (cmp : R → R → Ordering) (is_row : R → Bool) (uses : R → ℕ) (used : List R) (k : ℕ) (row : R) → ListsRows cmp is_row uses used → slice_get used k ≡ Some row → is_row row ≡ true
used_is_row cmp is_row uses used k row lists at =
    lists.are_rows row ((lists.used row).1 (k, slice_get_within used k row at, get_or_from_slice_get used k row row at))

-- behind the last row there is none
pub no_more : {R : Type 0} (used : List R) (k : ℕ) → ((row : R) → slice_get used k ≡ Some row → ⊥) → length used ≤ k
no_more [] k none = omega arith
no_more (row ∷ rows) k none = elim (cases_lt k (length (row ∷ rows))) as (λ _. length (row ∷ rows) ≤ k) [
  | inl l ↦ absurd (none (get_or (row ∷ rows) k row) (slice_get-get_or (row ∷ rows) k row l))
  | inr past ↦ past
]

module _ {R : Type 0} (cmp : R → R → Ordering) (rows : Rows R) (kind : TypeId) (loaded : List R) (leg : Leg) (used : List R) where
  -- one row more
  pub off_more : (k : ℕ) (row : R) → slice_get used k ≡ Some row → ((j : ℕ) → j < k → KeepsOffAt cmp rows kind loaded leg (slice_get used j))
      → IsMissing cmp loaded row → rows.uses kind leg row ≤ rows.capacity row → (j : ℕ) → j < k + 1 → KeepsOffAt cmp rows kind loaded leg (slice_get used j)
  off_more k row at before missing fits j l =
      elim (cases_lt j k) as (λ _. KeepsOffAt cmp rows kind loaded leg (slice_get used j)) [
        | inl early ↦ before j early
        | inr past ↦
            let same : k ≡ j = omega (arith, l, past) in
            subst (λ n. KeepsOffAt cmp rows kind loaded leg (slice_get used n)) same
            (subst (λ o. KeepsOffAt cmp rows kind loaded leg o) (sym at) (missing, fits))
      ]

  -- all rows of the leg
  pub off_all : (k : ℕ) → ListsRows cmp rows.is_row (rows.uses kind leg) used → length used ≤ k → ((j : ℕ) → j < k → KeepsOffAt cmp rows kind loaded leg (slice_get used j)) → KeepsOff cmp rows kind loaded leg
  off_all k lists past seen = record {
    off = λ row u. (at row u).0;
    fits = λ row u. (at row u).1;
  }
    where
      at : (row : R) → 0 < rows.uses kind leg row → IsMissing cmp loaded row × (rows.uses kind leg row ≤ rows.capacity row)
      at row u =
          let c = (lists.used row).0 u in
          let l = c.1 in
          let e : slice_get used c.0 ≡ Some row = slice_get-get_or used c.0 row c.1 ∙ ap Some c.2 in
          subst (λ o. KeepsOffAt cmp rows kind loaded leg o) e (seen c.0 (omega (arith, past, l)))

  -- a row that the leg uses, which is listed or used above its capacity
  pub on_row : (k : ℕ) (row : R) → ListsRows cmp rows.is_row (rows.uses kind leg) used → slice_get used k ≡ Some row → KeepsOff cmp rows kind loaded leg → IsMissing cmp loaded row × (rows.uses kind leg row ≤ rows.capacity row)
  on_row k row lists at keeps =
      let some = (lists.used row).1 (k, slice_get_within used k row at, get_or_from_slice_get used k row row at) in
      (keeps.off row some, keeps.fits row some)

  -- such a leg is not blocked
  pub off_free : (bids : List Bid) (node : List Decision) (number : ℕ) → AreLoaded cmp rows bids node loaded → KeepsOff cmp rows kind loaded leg → IsBlocked rows bids node number kind leg → ⊥
  off_free bids node number all keeps (row, b) =
      let none = all row (keeps.off row b.used) in
      let fits = keeps.fits row b.used in
      let above = b.above in
      let split = load_split rows bids number row node in
      omega (arith, none, fits, above, split)
