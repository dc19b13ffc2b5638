-- The prices of a leaf, looked up by row, and what they come to.
use Rattle.std.proofs.Common.{◌≡◌, ◌≢◌, ℕ, zero, suc, ◌+◌, ◌*◌, ◌<◌, ◌≤◌, cond, List, [], ◌∷◌, length, get_or, take, sum_by, Some, slice_get, refl, sym, ap, ◌∙◌, subst, arith, inl, inr}
use Rattle.std.specs.Prelude.{All, ◌⊎◌, Result, Ok, Err}
use Rattle.std.specs.Prelude.{ℤ, pos, ◌+ℤ◌, ◌*ℤ◌, ◌≤ℤ◌}
use Rattle.std.specs.Cmp.{IsTotalOrder}
use Rattle.std.specs.List.Sorted.{IsBinarySearchResult, IsNonDecreasingBy, IsSortedBy}
use Rattle.std.specs.Ordering.{is_eq, is_lt, eq_by_cmp, ordering_reverse, ordering_index}
use Rattle.std.specs.declared.cmp.Ordering.{Ordering}
use Rattle.std.specs.declared.cmp.Ordering.TheVariants.{Less, Equal, Greater}
use Rattle.std.proofs.lemmas.Bool.{cases_lt}
use Rattle.std.proofs.lemmas.Int.{ints}
use Rattle.std.proofs.lemmas.Option.{slice_get_within, get_or_from_slice_get}
use Rattle.std.proofs.lemmas.List.{take_more, take_all}
use Rattle.std.proofs.lemmas.List.Sums.{sum_by_more, sum_by_more_le}
use Rattle.optra_network.specs.declared.TypeId.{TypeId}
use Rattle.optra_bid.specs.Specs.{IsBetween}
use Rattle.optra_walk.specs.declared.Leg.{Leg}
use Rattle.optra_walk.specs.Families.{Rows}
use Rattle.std.proofs.lemmas.List.Sorted.{searchable_from_sorted}
use Rattle.optra_node.specs.Duals.{sum_of, PriceList, ArePrices, price_of, capacity_price}
use Rattle.optra_node.specs.Certificates.{AreAscending}
use Rattle.optra_rests.specs.Sizes.{IsLegPrice}
use Rattle.optra_node.proofs.SumLemmas.{sum_of-cons, sum_of-append}

default_same : {X : Type 0} (xs : List X) (k : ℕ) (d e : X) → k < length xs → get_or xs k d ≡ get_or xs k e
default_same [] k d e l = absurd (omega arith)
default_same (x ∷ xs) zero d e l = refl
default_same (x ∷ xs) (suc k) d e l = default_same xs k d e (omega arith)

-- a sum of nothing but zeros
pub none_left : {X : Type 0} (f : X → ℤ) (xs : List X) → ((j : ℕ) (d : X) → j < length xs → f (get_or xs j d) ≡ pos 0) → sum_of f xs ≡ pos 0
none_left f [] h = refl
none_left f (x ∷ xs) h =
    let c = sum_of-cons f x xs in
    let here = h 0 x (omega arith) in
    let i = none_left f xs (λ j d l. h (suc j) d (omega arith)) in
    omega (arith, ints)

-- and one of zeros but at one place
one_left : {X : Type 0} (f : X → ℤ) (xs : List X) (k : ℕ) (d : X) → k < length xs → ((j : ℕ) (e : X) → j < length xs → j ≢ k → f (get_or xs j e) ≡ pos 0) → sum_of f xs ≡ f (get_or xs k d)
one_left f [] k d l h = absurd (omega arith)
one_left f (x ∷ xs) zero d l h =
    let c = sum_of-cons f x xs in
    let i = none_left f xs (λ j e m. h (suc j) e (omega arith) (λ q. omega arith)) in
    omega (arith, ints)
one_left f (x ∷ xs) (suc k) d l h =
    let c = sum_of-cons f x xs in
    let here = h 0 x (omega arith) (λ q. omega arith) in
    let i = one_left f xs k d (omega arith) (λ j e m n. h (suc j) e (omega arith) (λ q. n (omega arith))) in
    omega (arith, ints)

module _ {R : Type 0} (cmp : R → R → Ordering) (total : IsTotalOrder cmp) (prices : PriceList R) (up : AreAscending cmp prices) (row : R) where
  turned : (a b : R) (o : Ordering) → cmp a b ≡ o → cmp b a ≡ ordering_reverse o
  turned a b o e = total.antisymm b a ∙ ap ordering_reverse e

  -- the entry that is found has the price
  pub price_found : (k : ℕ) (d : R × ℤ) → k < length prices → cmp (get_or prices k d).0 row ≡ Equal → price_of (eq_by_cmp cmp) prices row ≡ (get_or prices k d).1
  price_found k d l found =
      let f = λ (e : R × ℤ). cond (eq_by_cmp cmp row e.0) e.1 (pos 0) in
      let here : f (get_or prices k d) ≡ (get_or prices k d).1 = ap (λ o. cond (is_eq o) (get_or prices k d).1 (pos 0)) (turned (get_or prices k d).0 row Equal found) in
      one_left f prices k d l other ∙ here
    where
      other : (j : ℕ) (e : R × ℤ) → j < length prices → j ≢ k → cond (eq_by_cmp cmp row (get_or prices j e).0) (get_or prices j e).1 (pos 0) ≡ pos 0
      other j e m ne =
          let found_e : cmp (get_or prices k e).0 row ≡ Equal = subst (λ (x : R × ℤ). cmp x.0 row ≡ Equal) (default_same prices k d e l) found in
          let as_found : cmp (get_or prices k e).0 (get_or prices j e).0 ≡ cmp row (get_or prices j e).0 = total.congr (get_or prices k e).0 row (get_or prices j e).0 found_e in
          elim (cases_lt j k) as (λ _. cond (eq_by_cmp cmp row (get_or prices j e).0) (get_or prices j e).1 (pos 0) ≡ pos 0) [
            | inl before ↦
                let less = up j k e before l in
                ap (λ o. cond (is_eq o) (get_or prices j e).1 (pos 0)) (sym as_found ∙ turned (get_or prices j e).0 (get_or prices k e).0 Less less)
            | inr after ↦
                let less = up k j e (omega arith) m in
                ap (λ o. cond (is_eq o) (get_or prices j e).1 (pos 0)) (sym as_found ∙ less)
          ]

  -- where each entry is before the row or after it, its price is 0
  pub price_missing : ((j : ℕ) (d : R × ℤ) → j < length prices → (cmp (get_or prices j d).0 row ≡ Less) ⊎ (cmp (get_or prices j d).0 row ≡ Greater)) → price_of (eq_by_cmp cmp) prices row ≡ pos 0
  price_missing apart = none_left (λ (e : R × ℤ). cond (eq_by_cmp cmp row e.0) e.1 (pos 0)) prices each
    where
      each : (j : ℕ) (d : R × ℤ) → j < length prices → cond (eq_by_cmp cmp row (get_or prices j d).0) (get_or prices j d).1 (pos 0) ≡ pos 0
      each j d l = by (apart j d l)
        where
          by : (cmp (get_or prices j d).0 row ≡ Less) ⊎ (cmp (get_or prices j d).0 row ≡ Greater) → cond (eq_by_cmp cmp row (get_or prices j d).0) (get_or prices j d).1 (pos 0) ≡ pos 0
          by (inl e) = ap (λ o. cond (is_eq o) (get_or prices j d).1 (pos 0)) (turned (get_or prices j d).0 row Less e)
          by (inr e) = ap (λ o. cond (is_eq o) (get_or prices j d).1 (pos 0)) (turned (get_or prices j d).0 row Greater e)

  -- the list may be searched
  pub may_search : IsNonDecreasingBy (λ (e : R × ℤ). ordering_index (cmp e.0 row)) prices
  may_search = searchable_from_sorted total (λ (e : R × ℤ). e.0) prices row sorted
    where
      sorted : IsSortedBy (λ (a b : R × ℤ). is_lt (cmp a.0 b.0)) prices
      sorted k d z l = ap is_lt (turned (get_or prices k d).0 (get_or prices (k + 1) d).0 Less (up k (k + 1) d (omega arith) l))

-- what a search by the row finds, and what it misses
pub found_at : {R : Type 0} (cmp : R → R → Ordering) (prices : PriceList R) (row : R) (r : Result ℕ ℕ) (k : ℕ) → r ≡ Ok k → IsBinarySearchResult (λ e. cmp e.0 row) prices r → (d : R × ℤ) → cmp (get_or prices k d).0 row ≡ Equal
found_at cmp prices row (Ok i) k e is d = let same : i ≡ k = cc in subst (λ j. cmp (get_or prices j d).0 row ≡ Equal) same (is d)
found_at cmp prices row (Err i) k e is d = cc

pub missing_at : {R : Type 0} (cmp : R → R → Ordering) (prices : PriceList R) (row : R) (r : Result ℕ ℕ) (i : ℕ) → r ≡ Err i → IsBinarySearchResult (λ e. cmp e.0 row) prices r
    → IsNonDecreasingBy (λ (e : R × ℤ). ordering_index (cmp e.0 row)) prices
    → (j : ℕ) (d : R × ℤ) → j < length prices → (cmp (get_or prices j d).0 row ≡ Less) ⊎ (cmp (get_or prices j d).0 row ≡ Greater)
missing_at cmp prices row (Ok k) i e is up j d l = cc
missing_at cmp prices row (Err k) i e is up j d l = elim (cases_lt j k) as (λ _. (cmp (get_or prices j d).0 row ≡ Less) ⊎ (cmp (get_or prices j d).0 row ≡ Greater)) [
  | inl before ↦ inl ((is up).0 j d (omega arith) before)
  | inr after ↦ inr ((is up).1 j d after l)
]

module _ {R : Type 0} (rows : Rows R) where
  -- proper prices are small
  pub prices_small : (prices : PriceList R) → ArePrices rows prices → All (λ e. IsBetween (pos 0) (pos 2000000000000) e.1) prices
  prices_small prices are k d l = let p = are k d l in (let low = p.least in omega (arith, ints), p.most)

  -- a sum of prices times uses, with one row more
  pub term_more : (cmp : R → R → Ordering) (prices : PriceList R) (kind : TypeId) (leg : Leg) (used : List R) (k : ℕ) (row : R) → slice_get used k ≡ Some row
      → sum_of (λ r. price_of (eq_by_cmp cmp) prices r *ℤ pos (rows.uses kind leg r)) (take (k + 1) used)
      ≡ sum_of (λ r. price_of (eq_by_cmp cmp) prices r *ℤ pos (rows.uses kind leg r)) (take k used) +ℤ price_of (eq_by_cmp cmp) prices row *ℤ pos (rows.uses kind leg row)
  term_more cmp prices kind leg used k row at =
      let f = λ (r : R). price_of (eq_by_cmp cmp) prices r *ℤ pos (rows.uses kind leg r) in
      let l = slice_get_within used k row at in
      let is = get_or_from_slice_get used k row row at in
      ap (sum_of f) (take_more used k row l) ∙ sum_of-append f (take k used) (get_or used k row ∷ []) ∙ (let one = sum_of-cons f (get_or used k row) [] in let same = ap f is in omega (arith, ints))

  -- the sum over all rows, and its bounds
  pub priced_all : (cmp : R → R → Ordering) (prices : PriceList R) (kind : TypeId) (leg : Leg) (used : List R) (k : ℕ) (old total : ℤ) → length used ≤ k → sum_by (rows.uses kind leg) used ≤ 8192 → old ≡ total
      → total ≡ sum_of (λ r. price_of (eq_by_cmp cmp) prices r *ℤ pos (rows.uses kind leg r)) (take k used) → pos 0 ≤ℤ total → total ≤ℤ pos (2000000000000 * sum_by (rows.uses kind leg) (take k used))
      → (old ≡ sum_of (λ r. price_of (eq_by_cmp cmp) prices r *ℤ pos (rows.uses kind leg r)) used) × IsLegPrice old
  priced_all cmp prices kind leg used k old total past few same value least most =
      let all = take_all k used past in
      let uses = ap (sum_by (rows.uses kind leg)) all in
      (same ∙ value ∙ ap (sum_of (λ (r : R). price_of (eq_by_cmp cmp) prices r *ℤ pos (rows.uses kind leg r))) all, (omega (arith, ints, same, least), omega (arith, ints, same, most, uses, few)))

  -- and of what is used
  pub uses_more : (uses : R → ℕ) (used : List R) (k : ℕ) (row : R) → slice_get used k ≡ Some row → (sum_by uses (take (k + 1) used) ≡ sum_by uses (take k used) + uses row) × (sum_by uses (take k used) + uses row ≤ sum_by uses used)
  uses_more uses used k row at =
      let l = slice_get_within used k row at in
      let is = get_or_from_slice_get used k row row at in
      let same = ap uses is in
      let a = sum_by_more uses used k row l in
      let b = sum_by_more_le uses used k row l in
      (omega arith, omega arith)

-- the price of capacity with one listed row more
pub capacity_more : {R : Type 0} (rows : Rows R) (prices : PriceList R) (k : ℕ) (e : R × ℤ) → k < length prices → e ≡ get_or prices k e
    → capacity_price rows (take (k + 1) prices) ≡ capacity_price rows (take k prices) +ℤ e.1 *ℤ pos (rows.capacity e.0)
capacity_more rows prices k e l is =
    let f = λ (x : _ × ℤ). x.1 *ℤ pos (rows.capacity x.0) in
    ap (sum_of f) (take_more prices k e l) ∙ sum_of-append f (take k prices) (get_or prices k e ∷ []) ∙ (let one = sum_of-cons f (get_or prices k e) [] in let same = ap f is in omega (arith, ints))
