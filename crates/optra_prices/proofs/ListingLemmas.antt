-- Price lists by the numbers of rows.
use Rattle.std.proofs.Common.{◌≡◌, ℕ, zero, suc, ◌+◌, Bool, true, false, cond, List, [], ◌∷◌, ◌++◌, length, replicate, append_assoc, get_or, Option, Some, None, slice_get, refl, sym, ap, ◌∙◌, subst, arith, inl, inr}
use Rattle.std.specs.Prelude.{All, Contains, ℤ, pos, ◌+ℤ◌, ◌*ℤ◌, ◌≤ℤ◌, slice_index, slice_index_or}
use Rattle.std.specs.Int.{is_positive}
use Rattle.std.specs.declared.cmp.Ordering.{Ordering}
use Rattle.std.specs.Ordering.{eq_by_cmp}
use Rattle.std.specs.Cmp.{IsTotalOrder}
use Rattle.std.proofs.lemmas.Bool.{cases_Bool}
use Rattle.std.proofs.lemmas.Int.{ints}
use Rattle.std.proofs.lemmas.List.{append-nil}
use Rattle.std.proofs.lemmas.Option.{none-some, slice_get-get_or}
use Rattle.std.proofs.Math.IntN.{zero-*ℤ}
use Rattle.optra_walk.specs.Families.{Rows, TellsApart}
use Rattle.optra_node.specs.Duals.{PriceList, price_of, capacity_price}
use Rattle.optra_node.proofs.LoadLemmas.{all_head, all_tail}
use Rattle.optra_node.proofs.RowLemmas.{equal_is}
use Rattle.optra_node.proofs.SumLemmas.{sum_of-cons}
use Rattle.optra_prices.specs.Steps.{AreProper}
use Rattle.optra_prices.specs.Holdings.{stepped}
use Rattle.optra_prices.specs.Tables.{IsNumbering, IsRowPrice, AreUp, number_in}
use Rattle.optra_prices.specs.Standings.{Agrees}
use Rattle.optra_prices.specs.Courses.{listed, HaveCapacities}
use Rattle.optra_prices.specs.Listings.{price_at, capacity_sum, AddsZeros}
use Rattle.optra_prices.proofs.HoldLemmas.{next_of, stepped_price}
use Rattle.optra_prices.proofs.ListLemmas.{all_at}
use Rattle.optra_prices.proofs.NumberLemmas.{push_at, push_kept, push_cases}
use Rattle.optra_prices.proofs.RankLemmas.{up_place}
use Rattle.optra_prices.proofs.PriceListLemmas.{one_price_list, price_none}
use Rattle.optra_prices.proofs.StepLemmas.{stepped_ascends, stepped_prices}

-- a price of the vector, or 0 past it
pub row_price_or : (prices : List ℤ) (k : ℕ) → All IsRowPrice prices → IsRowPrice (slice_index_or prices k (pos 0))
row_price_or [] k range = (omega (arith, ints), omega (arith, ints))
row_price_or (x ∷ prices) zero range = range 0 (pos 0) (omega arith)
row_price_or (x ∷ prices) (suc k) range = row_price_or prices k (λ j d l. range (suc j) d (omega arith))

no_price : (z : ℤ) → is_positive z ≡ false → pos 0 ≤ℤ z → z ≡ pos 0
no_price z e l = grind (arith, ints)

module _ {R : Type 0} where
  listed_is : (order : List (R × ℕ)) (prices : List ℤ) → listed order prices ≡ stepped (price_at prices) order
  listed_is [] prices = refl
  listed_is (e ∷ order) prices = ap (λ (xs : PriceList R). cond (is_positive (price_at prices e)) ((e.0, price_at prices e) ∷ xs) xs) (listed_is order prices)

  -- zero prices list nothing
  pub listed_none : (order : List (R × ℕ)) (prices : List ℤ) → ((k : ℕ) → slice_index_or prices k (pos 0) ≡ pos 0) → listed order prices ≡ []
  listed_none [] prices nothing = refl
  listed_none (e ∷ order) prices nothing = ap (λ (z : ℤ). cond (is_positive z) ((e.0, z) ∷ listed order prices) (listed order prices)) (nothing e.1) ∙ listed_none order prices nothing

  -- the price of all capacity by number is that of the list
  pub capacity_listed : (rows : Rows R) (prices : List ℤ) (capacities : List ℕ) → All IsRowPrice prices → (order : List (R × ℕ)) → All (λ e. slice_index capacities e.1 ≡ rows.capacity e.0) order
      → capacity_sum order prices capacities ≡ capacity_price rows (listed order prices)
  capacity_listed rows prices capacities range [] all = refl
  capacity_listed rows prices capacities range (e ∷ order) all =
      by (is_positive (price_at prices e)) refl (capacity_listed rows prices capacities range order (all_tail (λ (x : R × ℕ). slice_index capacities x.1 ≡ rows.capacity x.0) e order all))
    where
      split : capacity_sum (e ∷ order) prices capacities ≡ price_at prices e *ℤ pos (slice_index capacities e.1) +ℤ capacity_sum order prices capacities
      split = sum_of-cons (λ (x : R × ℕ). price_at prices x *ℤ pos (slice_index capacities x.1)) e order

      by : (b : Bool) → is_positive (price_at prices e) ≡ b → capacity_sum order prices capacities ≡ capacity_price rows (listed order prices)
          → capacity_sum (e ∷ order) prices capacities ≡ capacity_price rows (cond b ((e.0, price_at prices e) ∷ listed order prices) (listed order prices))
      by true q i =
          let a = split in
          let b = sum_of-cons (λ (x : R × ℤ). x.1 *ℤ pos (rows.capacity x.0)) (e.0, price_at prices e) (listed order prices) in
          let c = ap (λ (n : ℕ). price_at prices e *ℤ pos n) (all_head (λ (x : R × ℕ). slice_index capacities x.1 ≡ rows.capacity x.0) e order all) in
          omega (arith, ints)
      by false q i =
          let a = split in
          let z = no_price (price_at prices e) q (row_price_or prices e.1 range).0 in
          let b = ap (λ (p : ℤ). p *ℤ pos (slice_index capacities e.1)) z in
          let c = zero-*ℤ (pos (slice_index capacities e.1)) in
          omega (arith, ints)

module _ {R : Type 0} (cmp : R → R → Ordering) (total : IsTotalOrder cmp) (apart : TellsApart cmp) (rows : Rows R) (numbers : List (R × ℕ)) (numbered : List R) (is : IsNumbering cmp numbers numbered)
    (are : All (λ row. rows.is_row row ≡ true) numbered) (ordered : AreUp cmp numbers) where
  -- what is true of rows with their numbers is true of all entries
  pub entries_all : (P : R × ℕ → Type 0) → ((e : R × ℕ) → slice_get numbered e.1 ≡ Some e.0 → P e) → All P numbers
  entries_all P h k d l =
      let e = get_or numbers k d in
      let at : slice_get numbers k ≡ Some e = slice_get-get_or numbers k d l in
      h e (is.found e.0 e.1 (up_place cmp total numbers k e.0 e.1 ordered at))

  module _ (prices : List ℤ) (range : All IsRowPrice prices) where
    pub listed_proper : AreProper cmp rows (listed numbers prices)
    listed_proper = subst (AreProper cmp rows) (sym (listed_is numbers prices)) (record {
      ascending = stepped_ascends cmp (price_at prices) numbers ordered;
      each = stepped_prices rows (price_at prices) (λ e. (row_price_or prices e.1 range).1) numbers
          (entries_all (λ (e : R × ℕ). rows.is_row e.0 ≡ true) (λ e at. all_at (λ (row : R). rows.is_row row ≡ true) numbered e.1 e.0 are at));
    })

    listed_price : (row : R) → price_of (eq_by_cmp cmp) (listed numbers prices) row ≡ next_of cmp total apart rows.is_row (price_at prices) row (number_in cmp numbers row)
    listed_price row =
        ap (λ (xs : PriceList R). price_of (eq_by_cmp cmp) xs row) (listed_is numbers prices)
        ∙ stepped_price cmp total apart rows.is_row (price_at prices) (λ e. (row_price_or prices e.1 range).0) numbers ordered row

    -- a row with a number has its price
    pub price_numbered : (n : ℕ) (row : R) → slice_get numbered n ≡ Some row → price_of (eq_by_cmp cmp) (listed numbers prices) row ≡ slice_index_or prices n (pos 0)
    price_numbered n row at = listed_price row ∙ ap (next_of cmp total apart rows.is_row (price_at prices) row) (is.known n row at)

    -- a row without a number has price 0
    pub price_unnumbered : (row : R) → number_in cmp numbers row ≡ None → price_of (eq_by_cmp cmp) (listed numbers prices) row ≡ pos 0
    price_unnumbered row none = listed_price row ∙ ap (next_of cmp total apart rows.is_row (price_at prices) row) none

    pub listed_agrees : Agrees cmp numbered prices (listed numbers prices)
    listed_agrees n row at = price_numbered n row at

    -- the list is any proper list that agrees, all of whose rows have numbers
    pub listed_one : (start : PriceList R) → AreProper cmp rows start → Agrees cmp numbered prices start → All (λ e. Contains numbered e.0) start → listed numbers prices ≡ start
    listed_one start proper agrees all =
        one_price_list cmp total apart rows (listed numbers prices) start listed_proper.ascending listed_proper.each proper.ascending proper.each (λ row is_row. by row (number_in cmp numbers row) refl)
      where
        differ : (row : R) → number_in cmp numbers row ≡ None → All (λ e. eq_by_cmp cmp row e.0 ≡ false) start
        differ row none k d l =
            let e = get_or start k d in
            let c = all k d l in
            elim (cases_Bool (eq_by_cmp cmp row e.0)) as (λ _. eq_by_cmp cmp row e.0 ≡ false) [
              | inl tie ↦
                  let same : row ≡ e.0 = apart row e.0 (equal_is (cmp row e.0) tie) in
                  absurd (none-some c.0 (sym none ∙ ap (number_in cmp numbers) same ∙ is.known c.0 e.0 (slice_get-get_or numbered c.0 e.0 c.1 ∙ ap Some c.2)))
              | inr other ↦ other
            ]

        by : (row : R) (o : Option ℕ) → number_in cmp numbers row ≡ o → price_of (eq_by_cmp cmp) (listed numbers prices) row ≡ price_of (eq_by_cmp cmp) start row
        by row None e = price_unnumbered row e ∙ sym (price_none cmp start row (differ row e))
        by row (Some n) e = price_numbered n row (is.found row n e) ∙ sym (agrees n row (is.found row n e))

-- ---- rows that are added one after the other
-- one more row has its capacity
pub capacities_push : {R : Type 0} (rows : Rows R) (numbered : List R) (capacities : List ℕ) (row : R) (capacity : ℕ) → length capacities ≡ length numbered → HaveCapacities rows numbered capacities → capacity ≡ rows.capacity row
    → HaveCapacities rows (numbered ++ row ∷ []) (capacities ++ capacity ∷ [])
capacities_push rows numbered capacities row capacity count have is n other at = elim (push_cases numbered row n other at) as (λ _. slice_get (capacities ++ capacity ∷ []) n ≡ Some (rows.capacity other)) [
  | inl before ↦ push_kept capacities capacity n (rows.capacity other) (have n other before)
  | inr (last, same) ↦ ap (slice_get (capacities ++ capacity ∷ [])) (last ∙ sym count) ∙ push_at capacities capacity ∙ ap Some (is ∙ ap rows.capacity same)
]

-- one more zero
zeros_push : (n : ℕ) → replicate n (pos 0) ++ pos 0 ∷ [] ≡ replicate (n + 1) (pos 0)
zeros_push zero = refl
zeros_push (suc n) = let one : suc (n + 1) ≡ suc n + 1 = omega arith in ap (λ (zs : List ℤ). pos 0 ∷ zs) (zeros_push n) ∙ ap (λ (k : ℕ). replicate k (pos 0)) one

pub adds_zero : (old mid new : List ℤ) → AddsZeros old mid → new ≡ mid ++ pos 0 ∷ [] → AddsZeros old new
adds_zero old mid new zeros is = (zeros.0 + 1, is ∙ ap (λ (xs : List ℤ). xs ++ pos 0 ∷ []) zeros.1 ∙ append_assoc old (replicate zeros.0 (pos 0)) (pos 0 ∷ []) ∙ ap (λ (xs : List ℤ). old ++ xs) (zeros_push zeros.0))

pub no_zeros : (old : List ℤ) → AddsZeros old old
no_zeros old = (0, sym (append-nil old))
