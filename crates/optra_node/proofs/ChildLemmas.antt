-- More decisions allow fewer walks, so the dual value does not rise; the empty choice; zero prices.
use Rattle.std.proofs.Common.{◌≡◌, ℕ, zero, suc, ◌-◌, ◌<◌, Bool, true, false, not, List, [], ◌∷◌, ◌++◌, map, length, Option, Some, None, slice_get, refl, sym, ◌∙◌, subst, arith, inl, inr}
use Rattle.std.specs.Prelude.{All, ◌⊎◌, ◌&&◌, ◌||◌, nat_eq, cond}
use Rattle.std.specs.Prelude.{ℤ, pos, ◌+ℤ◌, ◌≤ℤ◌}
use Rattle.std.proofs.lemmas.Int.{ints}
use Rattle.std.proofs.lemmas.List.Sums.{sum_by-append}
use Rattle.std.proofs.Math.ListN.{get_or-append, length-append}
use Rattle.optra_network.specs.Net.{Net}
use Rattle.optra_bid.specs.declared.bids.Bid.{Bid}
use Rattle.optra_walk.specs.declared.Leg.{Leg}
use Rattle.optra_walk.specs.Choices.{IsChoice, revenue_of}
use Rattle.optra_walk.specs.Families.{Rows, FitRows, entries_of}
use Rattle.optra_node.specs.declared.Decision.{Decision}
use Rattle.optra_node.specs.declared.Item.{Item}
use Rattle.optra_node.specs.Nodes.{Follows, has_yes, is_yes_for, uses_at, IsAllowed}
use Rattle.optra_node.specs.Duals.{sum_of, PriceList, capacity_price, reduced_value, IsOffer, IsStuck, IsTerm, IsDead, IsDual}
use Rattle.optra_node.specs.Trees.{IsTree, places}
use Rattle.optra_node.specs.Certificates.{SplitsUndecided, EndsDead, HasPrices, IsGreatestBound}
use Rattle.optra_node.proofs.SumLemmas.{sum_of-cons}
use Rattle.optra_node.proofs.TreeLemmas.{bound_above}

all_front : {X : Type 0} (P : X → Type 0) (xs ys : List X) → All P (xs ++ ys) → All P xs
all_front P xs ys h k d l = let n = length-append xs ys in subst P (get_or-append xs ys d k l) (h k d (omega arith))

no_yes_front : (node more : List Decision) (number : ℕ) → has_yes (node ++ more) number ≡ false → has_yes node number ≡ false
no_yes_front [] more number e = refl
no_yes_front (d ∷ node) more number e =
    let i = no_yes_front node more number in
    by (is_yes_for number d) (has_yes (node ++ more) number) (has_yes node number) e i
  where
    by : (a b c : Bool) → (a || b) ≡ false → (b ≡ false → c ≡ false) → (a || c) ≡ false
    by true b c e i = cc
    by false b c e i = i e

module _ {R : Type 0} (net : Net) (rows : Rows R) (bids : List Bid) (node more : List Decision) where
  -- what is allowed with more decisions is allowed without them
  pub allowed_before : (number : ℕ) (bid : Bid) (legs : List Leg) → IsAllowed net rows bids (node ++ more) number bid legs → IsAllowed net rows bids node number bid legs
  allowed_before number bid legs allowed = record {
    walk = allowed.walk;
    decided = all_front (λ (d : Decision). d.bid ≡ number → Follows legs d) node more allowed.decided;
    free = λ k d l blocked. allowed.free k d l (
      blocked.0,
      record {
        is_row = blocked.1.is_row;
        used = blocked.1.used;
        above =
            let s = sum_by-append (λ (d : Decision). cond (d.yes && not (nat_eq d.bid number)) (uses_at rows bids blocked.0 d.bid d.leg) 0) node more in
            let a = blocked.1.above in
            omega arith;
      },
    );
  }

  term_below : (prices : PriceList R) (number : ℕ) (bid : Bid) (term later : ℤ) → (IsStuck net rows bids node number bid → ⊥) → (IsStuck net rows bids (node ++ more) number bid → ⊥)
      → IsTerm net rows bids node prices number bid term → IsTerm net rows bids (node ++ more) prices number bid later → later ≤ℤ term
  term_below prices number bid term later lives lives' (inr stuck) t = absurd (lives stuck.0)
  term_below prices number bid term later lives lives' (inl greatest) (inr stuck) = absurd (lives' stuck.0)
  term_below prices number bid term later lives lives' (inl greatest) (inl next) = by next.reached
    where
      by : IsOffer net rows bids (node ++ more) prices number bid later → later ≤ℤ term
      by (inl (e, z)) = let m = greatest.most (pos 0) (inl (no_yes_front node more number e, refl)) in omega (arith, ints)
      by (inr (legs, allowed, z)) = let m = greatest.most (reduced_value net rows prices bid legs) (inr (legs, allowed_before number bid legs allowed, refl)) in omega (arith, ints)

sums_below : (xs ys : List ℤ) → length xs ≡ length ys → ((k : ℕ) (x y : ℤ) → slice_get xs k ≡ Some x → slice_get ys k ≡ Some y → x ≤ℤ y) → sum_of (λ t. t) xs ≤ℤ sum_of (λ t. t) ys
sums_below [] [] l h = omega (arith, ints)
sums_below [] (y ∷ ys) l h = absurd (omega arith)
sums_below (x ∷ xs) [] l h = absurd (omega arith)
sums_below (x ∷ xs) (y ∷ ys) l h =
    let a = sum_of-cons (λ (t : ℤ). t) x xs in
    let b = sum_of-cons (λ (t : ℤ). t) y ys in
    let c = h zero x y refl refl in
    let i = sums_below xs ys (omega arith) (λ k. h (suc k)) in
    omega (arith, ints)

pub some_at : {X : Type 0} (xs : List X) (k n : ℕ) → length xs ≡ n → k < n → (x : X) × (slice_get xs k ≡ Some x)
some_at [] k n e l = absurd (omega arith)
some_at (x ∷ xs) zero n e l = (x, refl)
some_at (x ∷ xs) (suc k) n e l = some_at xs k (n - 1) (omega arith) (omega arith)

pub within_at : {X : Type 0} (xs : List X) (k : ℕ) (x : X) → slice_get xs k ≡ Some x → k < length xs
within_at [] k x e = cc
within_at (y ∷ xs) zero x e = omega arith
within_at (y ∷ xs) (suc k) x e = let i = within_at xs k x e in omega arith

-- at the same prices the dual value below a live node is no greater
pub dual_below : {R : Type 0} (net : Net) (rows : Rows R) (bids : List Bid) (node more : List Decision) (prices : PriceList R) (terms later : List ℤ) (value value' : ℤ)
    → IsDual net rows bids node prices terms value → IsDual net rows bids (node ++ more) prices later value' → (IsDead net rows bids node → ⊥) → pos 0 ≤ℤ value → value' ≤ℤ value
dual_below net rows bids node more prices terms later value value' dual dual' lives positive = by dual.total dual'.total
  where
    by : ((IsDead net rows bids node → ⊥) × (value ≡ capacity_price rows prices +ℤ sum_of (λ t. t) terms)) ⊎ (IsDead net rows bids node × (value ≡ pos 0))
        → ((IsDead net rows bids (node ++ more) → ⊥) × (value' ≡ capacity_price rows prices +ℤ sum_of (λ t. t) later)) ⊎ (IsDead net rows bids (node ++ more) × (value' ≡ pos 0)) → value' ≤ℤ value
    by (inr (dead, e)) t = absurd (lives dead)
    by (inl (l, e)) (inr (dead, e')) = omega (arith, ints)
    by (inl (l, e)) (inl (l', e')) =
        let s = sums_below later terms (dual'.count ∙ sym dual.count) (λ k x y at_x at_y.
        let w = within_at later k x at_x in
        let n = dual'.count in
        let b = some_at bids k (length bids) refl (omega arith) in
        term_below net rows bids node more prices k b.0 y x (λ stuck. lives (k, b.0, b.1, stuck)) (λ stuck. l' (k, b.0, b.1, stuck)) (dual.each k b.0 y b.1 at_y) (dual'.each k b.0 x b.1 at_x)) in
        omega (arith, ints)

-- the choice without walks
abbrev pub no_walks : List Bid → List (Option (List Leg))
no_walks bids = map (λ _. None) bids

no_walks_choice : (net : Net) (bids : List Bid) → IsChoice net bids (no_walks bids)
no_walks_choice net [] = tt
no_walks_choice net (bid ∷ bids) = (tt, no_walks_choice net bids)

no_entries : (bids : List Bid) → entries_of bids (no_walks bids) ≡ []
no_entries [] = refl
no_entries (bid ∷ bids) = no_entries bids

no_revenue : (net : Net) (bids : List Bid) → revenue_of net bids (no_walks bids) ≡ pos 0
no_revenue net [] = refl
no_revenue net (bid ∷ bids) = no_revenue net bids

no_load : {R : Type 0} (rows : Rows R) → FitRows rows []
no_load rows row e = omega arith

-- the bound of a valid certificate is not negative
pub bound_not_negative : {R : Type 0} (net : Net) (rows : Rows R) (bids : List Bid) (tree : List (Item R)) (bound : ℤ) → IsTree tree → All (λ p. SplitsUndecided p.0 p.1) (places tree)
    → All (λ p. EndsDead net rows bids p.0 p.1) (places tree) → All (HasPrices rows) tree → IsGreatestBound net rows bids tree bound → pos 0 ≤ℤ bound
bound_not_negative net rows bids tree bound whole splits dead prices greatest =
    let b = bound_above net rows bids (no_walks bids) (no_walks_choice net bids) (subst (FitRows rows) (sym (no_entries bids)) (no_load rows)) tree bound whole splits dead prices greatest in
    let z = no_revenue net bids in
    omega (arith, ints)
