-- A node has one dual value at prices, and a tree has one bound.
use Rattle.std.proofs.Common.{◌≡◌, ℕ, zero, suc, true, false, List, [], ◌∷◌, length, Some, slice_get, refl, sym, ap, ◌∙◌, subst, arith, inl, inr}
use Rattle.std.specs.Prelude.{◌⊎◌}
use Rattle.std.specs.Prelude.{ℤ, pos, ◌+ℤ◌, ◌≤ℤ◌}
use Rattle.std.proofs.lemmas.Int.{ints}
use Rattle.std.proofs.lemmas.List.Elements.{All-contains}
use Rattle.optra_network.specs.Net.{Net}
use Rattle.optra_bid.specs.declared.bids.Bid.{Bid}
use Rattle.optra_walk.specs.Families.{Rows}
use Rattle.optra_node.specs.declared.Decision.{Decision}
use Rattle.optra_node.specs.declared.Item.{Item}
use Rattle.optra_node.specs.declared.Item.TheVariants.{Priced}
use Rattle.optra_node.specs.Duals.{sum_of, PriceList, capacity_price, IsGreatest, IsOffer, IsStuck, IsTerm, IsDead, IsDual, whole_cents}
use Rattle.optra_node.specs.Trees.{places}
use Rattle.optra_node.specs.Certificates.{IsBoundOf, IsWithin, IsGreatestBound}
use Rattle.optra_node.proofs.ChildLemmas.{some_at, within_at}

between : (m n : ℤ) → m ≤ℤ n → n ≤ℤ m → m ≡ n
between m n a b = omega (arith, ints)

greatest_unique : (C : ℤ → Type 0) (m n : ℤ) → IsGreatest C m → IsGreatest C n → m ≡ n
greatest_unique C m n a b = between m n (b.most m a.reached) (a.most n b.reached)

same_list : (xs ys : List ℤ) → length xs ≡ length ys → ((k : ℕ) (x y : ℤ) → slice_get xs k ≡ Some x → slice_get ys k ≡ Some y → x ≡ y) → xs ≡ ys
same_list [] [] l h = refl
same_list [] (y ∷ ys) l h = absurd (omega arith)
same_list (x ∷ xs) [] l h = absurd (omega arith)
same_list (x ∷ xs) (y ∷ ys) l h =
    let e : x ≡ y = h zero x y refl refl in
    let t : xs ≡ ys = same_list xs ys (omega arith) (λ k. h (suc k)) in
    λ i. e i ∷ t i

module _ {R : Type 0} (net : Net) (rows : Rows R) (bids : List Bid) (node : List Decision) (prices : PriceList R) where
  not_both : (number : ℕ) (bid : Bid) (n : ℤ) → IsStuck net rows bids node number bid → IsOffer net rows bids node prices number bid n → ⊥
  not_both number bid n stuck (inl (e, z)) = clash (sym stuck.yes ∙ e)
    where
      clash : true ≡ false → ⊥
      clash e = cc
  not_both number bid n stuck (inr (legs, allowed, z)) = stuck.none legs allowed

  term_unique : (number : ℕ) (bid : Bid) (m n : ℤ) → IsTerm net rows bids node prices number bid m → IsTerm net rows bids node prices number bid n → m ≡ n
  term_unique number bid m n (inl a) (inl b) = greatest_unique (IsOffer net rows bids node prices number bid) m n a b
  term_unique number bid m n (inl a) (inr b) = absurd (not_both number bid m b.0 a.reached)
  term_unique number bid m n (inr a) (inl b) = absurd (not_both number bid n a.0 b.reached)
  term_unique number bid m n (inr a) (inr b) = a.1 ∙ sym b.1

  pub terms_unique : (terms terms' : List ℤ) (value value' : ℤ) → IsDual net rows bids node prices terms value → IsDual net rows bids node prices terms' value' → terms ≡ terms'
  terms_unique terms terms' value value' a b =
      same_list terms terms' (a.count ∙ sym b.count) (λ k x y at_x at_y.
      let w = within_at terms k x at_x in
      let n = a.count in
      let bid = some_at bids k (length bids) refl (omega arith) in
      term_unique k bid.0 x y (a.each k bid.0 x bid.1 at_x) (b.each k bid.0 y bid.1 at_y))

  pub dual_unique : (terms terms' : List ℤ) (value value' : ℤ) → IsDual net rows bids node prices terms value → IsDual net rows bids node prices terms' value' → value ≡ value'
  dual_unique terms terms' value value' a b = by a.total b.total
    where
      by : ((IsDead net rows bids node → ⊥) × (value ≡ capacity_price rows prices +ℤ sum_of (λ t. t) terms)) ⊎ (IsDead net rows bids node × (value ≡ pos 0))
          → ((IsDead net rows bids node → ⊥) × (value' ≡ capacity_price rows prices +ℤ sum_of (λ t. t) terms')) ⊎ (IsDead net rows bids node × (value' ≡ pos 0)) → value ≡ value'
      by (inl (l, e)) (inl (l', e')) = e ∙ ap (λ ts. capacity_price rows prices +ℤ sum_of (λ t. t) ts) (terms_unique terms terms' value value' a b) ∙ sym e'
      by (inl (l, e)) (inr (d, e')) = absurd (l d)
      by (inr (d, e)) (inl (l, e')) = absurd (l d)
      by (inr (d, e)) (inr (d', e')) = e ∙ sym e'

  pub bound_of_unique : (m n : ℤ) → IsBoundOf net rows bids node prices m → IsBoundOf net rows bids node prices n → m ≡ n
  bound_of_unique m n a b = a.cents_is ∙ ap whole_cents (dual_unique a.terms b.terms a.value b.value a.dual b.dual) ∙ sym b.cents_is

module _ {R : Type 0} (net : Net) (rows : Rows R) (bids : List Bid) (tree : List (Item R)) where
  bound_below : (m n : ℤ) → IsGreatestBound net rows bids tree m → IsGreatestBound net rows bids tree n → m ≤ℤ n
  bound_below m n a b =
      let leaf : List Decision × Item R = (a.reached.0, Priced a.reached.1) in
      let within : IsWithin net rows bids n a.reached.0 (Priced a.reached.1) = All-contains (λ (p : List Decision × Item R). IsWithin net rows bids n p.0 p.1) (places tree) leaf b.each a.reached.2 in
      let same = bound_of_unique net rows bids a.reached.0 a.reached.1 m within.0 a.reached.3 within.1 in
      subst (λ c. c ≤ℤ n) (sym same) within.2

  pub bound_unique : (m n : ℤ) → IsGreatestBound net rows bids tree m → IsGreatestBound net rows bids tree n → m ≡ n
  bound_unique m n a b = between m n (bound_below m n a b) (bound_below n m b a)
