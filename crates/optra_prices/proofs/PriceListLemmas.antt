-- Lists of prices by the price of each row.
use Rattle.std.proofs.Common.{◌≡◌, zero, suc, Bool, true, false, cond, [], ◌∷◌, refl, ap, ◌∙◌, arith}
use Rattle.std.specs.Prelude.{All, ℤ, pos, ◌+ℤ◌}
use Rattle.std.specs.declared.cmp.Ordering.{Ordering}
use Rattle.std.specs.declared.cmp.Ordering.TheVariants.{Less, Equal, Greater}
use Rattle.std.specs.Ordering.{is_eq, eq_by_cmp, ordering_reverse}
use Rattle.std.specs.Cmp.{IsTotalOrder}
use Rattle.std.proofs.lemmas.Cmp.{tied_itself}
use Rattle.std.proofs.lemmas.Int.{ints}
use Rattle.optra_walk.specs.Families.{Rows, TellsApart}
use Rattle.optra_node.specs.Duals.{PriceList, IsPrice, ArePrices, price_of}
use Rattle.optra_node.specs.Certificates.{AreAscending}
use Rattle.optra_node.proofs.SumLemmas.{sum_of-cons}
use Rattle.optra_node.proofs.LoadLemmas.{all_head, all_tail, pairs_head, pairs_tail}

module _ {R : Type 0} (cmp : R → R → Ordering) where
  pub price_of-cons : (e : R × ℤ) (xs : PriceList R) (row : R)
      → price_of (eq_by_cmp cmp) (e ∷ xs) row ≡ cond (eq_by_cmp cmp row e.0) e.1 (pos 0) +ℤ price_of (eq_by_cmp cmp) xs row
  price_of-cons e xs row = sum_of-cons (λ (x : R × ℤ). cond (eq_by_cmp cmp row x.0) x.1 (pos 0)) e xs

  -- a row that is none of the list's has price 0
  pub price_none : (xs : PriceList R) (row : R) → All (λ e. eq_by_cmp cmp row e.0 ≡ false) xs → price_of (eq_by_cmp cmp) xs row ≡ pos 0
  price_none [] row h = refl
  price_none (e ∷ xs) row h =
      let c = price_of-cons e xs row in
      let i = price_none xs row (all_tail (λ e. eq_by_cmp cmp row e.0 ≡ false) e xs h) in
      let z = ap (λ (b : Bool). cond b e.1 (pos 0)) (all_head (λ e. eq_by_cmp cmp row e.0 ≡ false) e xs h) in
      omega (arith, ints)

  -- a row below all of the list's has price 0
  pub price_below : (xs : PriceList R) (row : R) → All (λ e. cmp row e.0 ≡ Less) xs → price_of (eq_by_cmp cmp) xs row ≡ pos 0
  price_below xs row h = price_none xs row (λ k d l. ap is_eq (h k d l))

  module _ (total : IsTotalOrder cmp) where
    -- the first row has the first price
    pub price_head : (e : R × ℤ) (xs : PriceList R) → AreAscending cmp (e ∷ xs) → price_of (eq_by_cmp cmp) (e ∷ xs) e.0 ≡ e.1
    price_head e xs up =
        let c = price_of-cons e xs e.0 in
        let t = ap (λ (b : Bool). cond b e.1 (pos 0)) (ap is_eq (tied_itself total e.0)) in
        let z = price_below xs e.0 (pairs_head (λ a b. cmp a.0 b.0 ≡ Less) e xs up) in
        omega (arith, ints)

    below_first : (row : R) (e : R × ℤ) (xs : PriceList R) → cmp row e.0 ≡ Less → AreAscending cmp (e ∷ xs) → price_of (eq_by_cmp cmp) (e ∷ xs) row ≡ pos 0
    below_first row e xs less up = price_below (e ∷ xs) row all
      where
        all : All (λ x. cmp row x.0 ≡ Less) (e ∷ xs)
        all zero d l = less
        all (suc k) d l = total.trans row e.0 _ less (pairs_head (λ a b. cmp a.0 b.0 ≡ Less) e xs up k d (omega arith))

    module _ (apart : TellsApart cmp) (rows : Rows R) where
      -- proper prices are determined by the price of each row
      pub one_price_list : (a b : PriceList R) → AreAscending cmp a → ArePrices rows a → AreAscending cmp b → ArePrices rows b
          → ((row : R) → rows.is_row row ≡ true → price_of (eq_by_cmp cmp) a row ≡ price_of (eq_by_cmp cmp) b row) → a ≡ b
      one_price_list [] [] up are up' are' h = refl
      one_price_list [] (e ∷ b) up are up' are' h =
          let first = all_head (IsPrice rows) e b are' in
          let p = price_head e b up' in
          let q = h e.0 first.is_row in
          let l = first.least in
          absurd (omega (arith, ints))
      one_price_list (e ∷ a) [] up are up' are' h =
          let first = all_head (IsPrice rows) e a are in
          let p = price_head e a up in
          let q = h e.0 first.is_row in
          let l = first.least in
          absurd (omega (arith, ints))
      one_price_list (d ∷ a) (e ∷ b) up are up' are' h = by (cmp d.0 e.0) refl
          (λ same. one_price_list a b (pairs_tail (λ x y. cmp x.0 y.0 ≡ Less) d a up) (all_tail (IsPrice rows) d a are)
          (pairs_tail (λ x y. cmp x.0 y.0 ≡ Less) e b up') (all_tail (IsPrice rows) e b are') (rest same))
        where
          first : IsPrice rows d
          first = all_head (IsPrice rows) d a are

          first' : IsPrice rows e
          first' = all_head (IsPrice rows) e b are'

          same_price : d.0 ≡ e.0 → d.1 ≡ e.1
          same_price q =
              let p = price_head d a up in
              let p' = price_head e b up' in
              let at = ap (λ (row : R). price_of (eq_by_cmp cmp) (e ∷ b) row) q in
              let g = h d.0 first.is_row in
              omega (arith, ints)

          rest : d.0 ≡ e.0 → (row : R) → rows.is_row row ≡ true → price_of (eq_by_cmp cmp) a row ≡ price_of (eq_by_cmp cmp) b row
          rest q row is =
              let c = price_of-cons d a row in
              let c' = price_of-cons e b row in
              let one = ap (λ (r : R). cond (eq_by_cmp cmp row r) d.1 (pos 0)) q in
              let two = ap (λ (z : ℤ). cond (eq_by_cmp cmp row e.0) z (pos 0)) (same_price q) in
              let g = h row is in
              omega (arith, ints)

          by : (o : Ordering) → cmp d.0 e.0 ≡ o → (d.0 ≡ e.0 → a ≡ b) → d ∷ a ≡ e ∷ b
          by Less o tails =
              let p = price_head d a up in
              let z = below_first d.0 e b o up' in
              let g = h d.0 first.is_row in
              let l = first.least in
              absurd (omega (arith, ints))
          by Equal o tails =
              let q : d.0 ≡ e.0 = apart d.0 e.0 o in
              let r = same_price q in
              let t = tails q in
              λ i. (q i, r i) ∷ t i
          by Greater o tails =
              let p = price_head e b up' in
              let z = below_first e.0 d a (total.antisymm e.0 d.0 ∙ ap ordering_reverse o) up in
              let g = h e.0 first'.is_row in
              let l = first'.least in
              absurd (omega (arith, ints))
