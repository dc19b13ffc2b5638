-- What a choice earns that serves a bid, or leaves it out: at most what some leaf says.
use Rattle.std.proofs.Common.{◌≡◌, ℕ, zero, suc, List, [], ◌∷◌, set, Option, Some, None, slice_get, IsSomeAnd, refl, sym, ap, ◌∙◌, subst, arith, inl, inr}
use Rattle.std.specs.Prelude.{IfSome, ◌⊎◌}
use Rattle.std.specs.Prelude.{ℤ, pos, ◌+ℤ◌, ◌-ℤ◌, ◌*ℤ◌, ◌≤ℤ◌}
use Rattle.std.proofs.lemmas.Int.{ints}
use Rattle.std.proofs.lemmas.Bool.Decides.{eqb_tells}
use Rattle.std.proofs.lemmas.List.{length-set}
use Rattle.std.proofs.lemmas.List.Elements.{All-contains}
use Rattle.optra_network.specs.Net.{Net}
use Rattle.optra_bid.specs.declared.bids.Bid.{Bid}
use Rattle.optra_walk.specs.declared.Leg.{Leg}
use Rattle.optra_walk.specs.Choices.{IsChoice, revenue_of}
use Rattle.optra_walk.specs.Families.{Rows, FitRows, entries_of}
use Rattle.optra_walk.specs.Walks.{IsWalk}
use Rattle.optra_node.specs.declared.Decision.{Decision}
use Rattle.optra_node.specs.declared.Item.{Item}
use Rattle.optra_node.specs.declared.Item.TheVariants.{Priced}
use Rattle.optra_node.specs.Nodes.{DecidesOnce, IsOfNode, has_yes}
use Rattle.optra_node.specs.Duals.{PriceList, ArePrices, IsDead, sum_of, capacity_price, reduced_value}
use Rattle.optra_node.specs.Trees.{places}
use Rattle.optra_node.specs.Evidence.{IsCounted, IsServedAt, IsLeftAt, IsAtMost, IsSaidWithin, IsMostWith, IsMostWithout, IsCover}
use Rattle.optra_node.proofs.DualLemmas.{gain_of, gains_within, gain_within, walk_allowed, yes_allowed, alive, capacity_above, zip_length}
use Rattle.optra_node.proofs.SumLemmas.{sum_of-cons}
use Rattle.optra_node.proofs.TreeLemmas.{tree_cover, below_whole}

-- a sum with one number in place of another
sum_set : (xs : List ℤ) (k : ℕ) (old new : ℤ) → slice_get xs k ≡ Some old → sum_of (λ x. x) (set xs k new) ≡ sum_of (λ x. x) xs -ℤ old +ℤ new
sum_set [] k old new e = cc
sum_set (x ∷ xs) zero old new e =
    let same : x ≡ old = some_same x old e in
    let a = sum_of-cons (λ (z : ℤ). z) x xs in
    let b = sum_of-cons (λ (z : ℤ). z) new xs in
    omega (arith, ints)
  where
    some_same : (a b : ℤ) → Some a ≡ Some b → a ≡ b
    some_same a b e = cc
sum_set (x ∷ xs) (suc k) old new e =
    let a = sum_of-cons (λ (z : ℤ). z) x xs in
    let b = sum_of-cons (λ (z : ℤ). z) x (set xs k new) in
    let i = sum_set xs k old new e in
    omega (arith, ints)

get_set : (xs : List ℤ) (i j : ℕ) (v : ℤ) → (i ≡ j → ⊥) → slice_get (set xs i v) j ≡ slice_get xs j
get_set [] i j v apart = refl
get_set (x ∷ xs) zero zero v apart = absurd (apart refl)
get_set (x ∷ xs) zero (suc j) v apart = refl
get_set (x ∷ xs) (suc i) zero v apart = refl
get_set (x ∷ xs) (suc i) (suc j) v apart = get_set xs i j v (λ e. apart (ap suc e))

put_set : (xs : List ℤ) (i : ℕ) (old v w : ℤ) → slice_get xs i ≡ Some old → slice_get (set xs i v) i ≡ Some w → w ≡ v
put_set [] i old v w e f = cc
put_set (x ∷ xs) zero old v w e f = cc
put_set (x ∷ xs) (suc i) old v w e f = put_set xs i old v w e f

some_same : {A : Type 0} (o : Option A) (a b : A) → o ≡ Some a → o ≡ Some b → a ≡ b
some_same o a b e f = cc

module _ {R : Type 0} (net : Net) (rows : Rows R) (bids : List Bid) (node : List Decision) (prices : PriceList R) (walks : List (Option (List Leg)))
    (once : DecidesOnce node) (choice : IsChoice net bids walks) (of : IsOfNode walks node) (fit : FitRows rows (entries_of bids walks)) (are : ArePrices rows prices) where
  -- the choice earns at most the dual value with what the bid gains at most in place of its term
  marked : (number : ℕ) (bid : Bid) (walk : Option (List Leg)) (value term mark : ℤ) → slice_get bids number ≡ Some bid → slice_get walks number ≡ Some walk
      → IsCounted net rows bids node prices number value term → gain_of net rows prices bid walk ≤ℤ mark → (pos 1000 *ℤ revenue_of net bids walks) ≤ℤ (value -ℤ term +ℤ mark)
  marked number bid walk value term mark at w counted gain = by counted.dual.total
    where
      marks : List ℤ
      marks = set counted.terms number mark

      each : (n : ℕ) (b : Bid) (o : Option (List Leg)) (t : ℤ) → slice_get bids n ≡ Some b → slice_get walks n ≡ Some o → slice_get marks n ≡ Some t → gain_of net rows prices b o ≤ℤ t
      each n b o t at_n w_n t_n = elim (eqb_tells number n) as (λ _. gain_of net rows prices b o ≤ℤ t) [
        | inl (test, same) ↦
            let here = subst (λ (k : ℕ). slice_get marks k ≡ Some t) (sym same) t_n in
            let t_is : t ≡ mark = put_set counted.terms number term mark t counted.at here in
            let b_is : bid ≡ b = some_same (slice_get bids n) bid b (subst (λ (k : ℕ). slice_get bids k ≡ Some bid) same at) at_n in
            let o_is : walk ≡ o = some_same (slice_get walks n) walk o (subst (λ (k : ℕ). slice_get walks k ≡ Some walk) same w) w_n in
            subst (λ (z : ℤ). gain_of net rows prices b o ≤ℤ z) (sym t_is) (subst (λ (x : Bid). gain_of net rows prices x o ≤ℤ mark) b_is (subst (λ (x : Option (List Leg)). gain_of net rows prices bid x ≤ℤ mark) o_is gain))
        | inr (test, apart) ↦
            let there : slice_get counted.terms n ≡ Some t = sym (get_set counted.terms number n mark apart) ∙ t_n in
            gain_within net rows bids node prices walks once choice of fit n b o t at_n w_n (counted.dual.each n b t at_n there) (has_yes node n) refl
      ]

      by : ((IsDead net rows bids node → ⊥) × (value ≡ capacity_price rows prices +ℤ sum_of (λ t. t) counted.terms)) ⊎ (IsDead net rows bids node × (value ≡ pos 0))
          → (pos 1000 *ℤ revenue_of net bids walks) ≤ℤ (value -ℤ term +ℤ mark)
      by (inl (lives, e)) =
          let g = gains_within net rows prices bids walks marks (zip_length (λ (b : Bid) (o : Option (List Leg)). IfSome o (IsWalk net b.path)) bids walks choice)
          (length-set counted.terms number mark ∙ counted.dual.count) each in
          let s = sum_set counted.terms number term mark counted.at in
          let c = capacity_above rows prices (entries_of bids walks) are fit in
          omega (arith, ints)
      by (inr (dead, e)) = absurd (counted.live dead)

  -- serving the bid
  with_leaf : (number : ℕ) (bid : Bid) (legs : List Leg) (said : Option ℤ) → slice_get bids number ≡ Some bid → slice_get walks number ≡ Some (Some legs) → IsServedAt net rows bids node prices number bid said
      → IsSomeAnd said (λ n. (pos 1000 *ℤ revenue_of net bids walks) ≤ℤ n)
  with_leaf number bid legs None at w (inl dead) = absurd (alive net rows bids node prices walks once choice of fit dead)
  with_leaf number bid legs None at w (inr none) = absurd (none legs (walk_allowed net rows bids node prices walks once choice of fit number bid legs at w))
  with_leaf number bid legs (Some n) at w says =
      let gain = says.greatest.most (reduced_value net rows prices bid legs) (legs, walk_allowed net rows bids node prices walks once choice of fit number bid legs at w, refl) in
      subst (λ (z : ℤ). (pos 1000 *ℤ revenue_of net bids walks) ≤ℤ z) (sym says.is) (marked number bid (Some legs) says.value says.term says.best at w says.counted gain)

  -- leaving it out
  without_leaf : (number : ℕ) (bid : Bid) (said : Option ℤ) → slice_get bids number ≡ Some bid → slice_get walks number ≡ Some None → IsLeftAt net rows bids node prices number said
      → IsSomeAnd said (λ n. (pos 1000 *ℤ revenue_of net bids walks) ≤ℤ n)
  without_leaf number bid None at w (inl dead) = absurd (alive net rows bids node prices walks once choice of fit dead)
  without_leaf number bid None at w (inr forced) =
      let a = yes_allowed net rows bids walks node number bid at forced choice once of fit in
      absurd (no a.0 (sym w ∙ a.1))
    where
      no : (legs : List Leg) → Some None ≡ Some (Some legs) → ⊥
      no legs e = cc
  without_leaf number bid (Some n) at w says =
      let m = marked number bid None says.value says.term (pos 0) at w says.counted (omega (arith, ints)) in
      let is = says.is in
      omega (arith, ints)

-- what a leaf says is at most so many cents
said_cents : (revenue : ℤ) (said most : Option ℤ) → IsSomeAnd said (λ n. (pos 1000 *ℤ revenue) ≤ℤ n) → IsAtMost said most → IsSomeAnd most (λ cents. revenue ≤ℤ cents)
said_cents revenue None most none within = absurd none
said_cents revenue (Some n) None above within = within
said_cents revenue (Some n) (Some cents) above within = let f = below_whole revenue n above in omega (arith, ints, f, within)

module _ {R : Type 0} (net : Net) (rows : Rows R) (bids : List Bid) (walks : List (Option (List Leg))) (choice : IsChoice net bids walks) (fit : FitRows rows (entries_of bids walks))
    (tree : List (Item R)) (prices_at : List Decision → PriceList R) (cover : IsCover net rows bids tree) (are : (node : List Decision) → ArePrices rows (prices_at node)) (number : ℕ) (bid : Bid) (at : slice_get bids number ≡ Some bid) where
  pub with_holds : (most : Option ℤ) (legs : List Leg) → IsMostWith net rows bids tree prices_at number bid most → slice_get walks number ≡ Some (Some legs) → IsSomeAnd most (λ cents. revenue_of net bids walks ≤ℤ cents)
  with_holds most legs is w =
      let Says = λ (node : List Decision) (said : Option ℤ). IsServedAt net rows bids node (prices_at node) number bid said in
      let t = tree_cover net rows bids walks choice fit tree cover.whole cover.splits cover.dead in
      let leaf : List Decision × Item R = (t.0, Priced t.1) in
      let within : IsSaidWithin Says most t.0 (Priced t.1) = All-contains (λ (p : List Decision × Item R). IsSaidWithin Says most p.0 p.1) (places tree) leaf is.each t.2.among in
      said_cents (revenue_of net bids walks) within.0 most (with_leaf net rows bids t.0 (prices_at t.0) walks t.2.once choice t.2.of fit (are t.0) number bid legs within.0 at w within.1) within.2

  pub without_holds : (most : Option ℤ) → IsMostWithout net rows bids tree prices_at number most → slice_get walks number ≡ Some None → IsSomeAnd most (λ cents. revenue_of net bids walks ≤ℤ cents)
  without_holds most is w =
      let Says = λ (node : List Decision) (said : Option ℤ). IsLeftAt net rows bids node (prices_at node) number said in
      let t = tree_cover net rows bids walks choice fit tree cover.whole cover.splits cover.dead in
      let leaf : List Decision × Item R = (t.0, Priced t.1) in
      let within : IsSaidWithin Says most t.0 (Priced t.1) = All-contains (λ (p : List Decision × Item R). IsSaidWithin Says most p.0 p.1) (places tree) leaf is.each t.2.among in
      said_cents (revenue_of net bids walks) within.0 most (without_leaf net rows bids t.0 (prices_at t.0) walks t.2.once choice t.2.of fit (are t.0) number bid within.0 at w within.1) within.2
