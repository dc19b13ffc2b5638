-- The greatest bound of the priced leaves so far; and a node without a free leg closes.
use Rattle.std.proofs.Common.{◌≡◌, ℕ, ◌<◌, List, [], ◌∷◌, ◌++◌, Option, None, Some, refl, sym, ap, subst, arith, inl, inr}
use Rattle.std.specs.Prelude.{All, Contains, ◌⊎◌}
use Rattle.std.specs.Prelude.{ℤ, pos, ◌≤ℤ◌, ◌<ℤ◌}
use Rattle.std.specs.Int.{int_max}
use Rattle.std.specs.declared.cmp.Ordering.{Ordering}
use Rattle.std.proofs.lemmas.Int.{ints, clamps}
use Rattle.std.proofs.Math.IntN.{negsuc}
use Rattle.std.proofs.lemmas.List.Elements.{All-nil, All-push, All-weaker, All-contains, Contains-append_left, Contains-append_right}
use Rattle.optra_network.specs.Net.{Net, IsProper}
use Rattle.optra_bid.specs.declared.bids.Bid.{Bid}
use Rattle.optra_walk.specs.declared.Leg.{Leg}
use Rattle.optra_walk.specs.Choices.{revenue_of}
use Rattle.optra_walk.specs.Families.{Rows}
use Rattle.optra_node.specs.declared.Decision.{Decision}
use Rattle.optra_node.specs.declared.Item.{Item}
use Rattle.optra_node.specs.declared.Item.TheVariants.{Split, NoWalk, Forced, Priced}
use Rattle.optra_node.specs.Duals.{PriceList, ArePrices, whole_cents}
use Rattle.optra_node.specs.Trees.{IsTree, places}
use Rattle.optra_node.specs.Certificates.{SplitsUndecided, EndsDead, HasPrices, IsBoundOf, IsWithin, IsGreatestBound}
use Rattle.optra_node.proofs.LoadLemmas.{contains_head}
use Rattle.optra_node.proofs.DualLemmas.{weak_duality}
use Rattle.optra_node.proofs.TreeLemmas.{tree_cover, below_whole, placed_in}
use Rattle.optra_node.specs.Trees.{root}
use Rattle.optra_prices.specs.declared.Priced.{Priced as PathResult}
use Rattle.optra_prices.specs.Deads.{IsDeadAs}
use Rattle.optra_prices.specs.Paths.{IsPathResult}
use Rattle.optra_prices.specs.Repairs.{IsRepair, empty_choice}
use Rattle.optra_prices.proofs.RepairLemmas.{between, empty_is_choice, empty_fits}
use Rattle.optra_search.specs.Planner.{IsBetter}
use Rattle.optra_prices.specs.Replies.{Valuation}
use Rattle.optra_search.specs.Marks.{AreSettled, IsSplitLegOrNone}
use Rattle.optra_search.specs.Openings.{IsBoundSoFar, IsOutcome}
use Rattle.optra_search.proofs.FirstLemmas.{compare}
use Rattle.optra_search.proofs.ResultLemmas.{whole_below, zero_candidate}
use Rattle.optra_search.proofs.SettledLemmas.{zero_earned}

le_or : (a b : ℤ) → (b ≤ℤ a) ⊎ (a ≤ℤ b)
le_or (pos m) (pos n) = by (compare m n)
  where
    by : (m < n) ⊎ ((m ≡ n) ⊎ (n < m)) → (pos n ≤ℤ pos m) ⊎ (pos m ≤ℤ pos n)
    by (inl l) = inr (omega (arith, ints))
    by (inr (inl e)) = inl (omega (arith, ints))
    by (inr (inr l)) = inl (omega (arith, ints))
le_or (pos m) (negsuc n) = inl (omega (arith, ints))
le_or (negsuc m) (pos n) = inr (omega (arith, ints))
le_or (negsuc m) (negsuc n) = by (compare m n)
  where
    by : (m < n) ⊎ ((m ≡ n) ⊎ (n < m)) → (negsuc n ≤ℤ negsuc m) ⊎ (negsuc m ≤ℤ negsuc n)
    by (inl l) = inl (omega (arith, ints))
    by (inr (inl e)) = inl (omega (arith, ints))
    by (inr (inr l)) = inr (omega (arith, ints))

-- the greater of two numbers is the one that is not below the other
max_sides : (a b : ℤ) → ((b ≤ℤ a) × (int_max a b ≡ a)) ⊎ ((a ≤ℤ b) × (int_max a b ≡ b))
max_sides a b = by (le_or a b)
  where
    by : (b ≤ℤ a) ⊎ (a ≤ℤ b) → ((b ≤ℤ a) × (int_max a b ≡ a)) ⊎ ((a ≤ℤ b) × (int_max a b ≡ b))
    by (inl l) = inl (l, omega (arith, ints, clamps))
    by (inr l) = inr (l, omega (arith, ints, clamps))

within_more : {R : Type 0} (net : Net) (rows : Rows R) (bids : List Bid) (b c : ℤ) → b ≤ℤ c → (node : List Decision) (item : Item R) → IsWithin net rows bids b node item → IsWithin net rows bids c node item
within_more net rows bids b c l node (Split bid leg) h = tt
within_more net rows bids b c l node (NoWalk bid) h = tt
within_more net rows bids b c l node (Forced row) h = tt
within_more net rows bids b c l node (Priced prices) h = let k = h.2 in (h.0, h.1, omega (arith, ints))

-- the choice that serves no bid earns nothing
pub empty_earns : (net : Net) (bids : List Bid) → revenue_of net bids (empty_choice bids) ≡ pos 0
empty_earns net [] = refl
empty_earns net (bid ∷ bids) = empty_earns net bids

module _ {R : Type 0} (net : Net) (rows : Rows R) (bids : List Bid) where
  -- of no leaf the bound so far is 0
  pub first_bound : IsBoundSoFar {R = R} net rows bids [] (pos 0)
  first_bound = record { least = omega (arith, ints); each = All-nil (λ (p : List Decision × Item R). IsWithin net rows bids (pos 0) p.0 p.1); reached = inl refl }

  -- an item without prices leaves it as it is
  pub same_bound : (ps : List (List Decision × Item R)) (b : ℤ) (node : List Decision) (item : Item R) → IsWithin net rows bids b node item → IsBoundSoFar net rows bids ps b → IsBoundSoFar net rows bids (ps ++ (node, item) ∷ []) b
  same_bound ps b node item here so_far = record {
    least = so_far.least;
    each = All-push (λ (p : List Decision × Item R). IsWithin net rows bids b p.0 p.1) ps (node, item) so_far.each here;
    reached = by so_far.reached;
  }
    where
      by : (b ≡ pos 0) ⊎ ((at : List Decision) × (prices : PriceList R) × Contains ps (at, Priced prices) × IsBoundOf net rows bids at prices b)
          → (b ≡ pos 0) ⊎ ((at : List Decision) × (prices : PriceList R) × Contains (ps ++ (node, item) ∷ []) (at, Priced prices) × IsBoundOf net rows bids at prices b)
      by (inl e) = inl e
      by (inr r) = inr (r.0, r.1, Contains-append_left ps ((node, item) ∷ []) (r.0, Priced r.1) r.2, r.3)

  -- a priced leaf within it leaves it as it is, and one above it is the next bound
  pub next_bound : (ps : List (List Decision × Item R)) (b : ℤ) (node : List Decision) (prices : PriceList R) (cents : ℤ) → IsBoundOf net rows bids node prices cents → IsBoundSoFar net rows bids ps b
      → (cents ≤ℤ b → IsBoundSoFar net rows bids (ps ++ (node, Priced prices) ∷ []) b) × (b ≤ℤ cents → IsBoundSoFar net rows bids (ps ++ (node, Priced prices) ∷ []) cents)
  next_bound ps b node prices cents is so_far = (
    (λ l. same_bound ps b node (Priced prices) (cents, is, l) so_far),
    (λ l. record {
      least = let z = so_far.least in omega (arith, ints);
      each =
          All-push (λ (p : List Decision × Item R). IsWithin net rows bids cents p.0 p.1) ps (node, Priced prices)
          (All-weaker (λ (p : List Decision × Item R). IsWithin net rows bids b p.0 p.1) (λ (p : List Decision × Item R). IsWithin net rows bids cents p.0 p.1) (λ p h. within_more net rows bids b cents l p.0 p.1 h) ps so_far.each)
          (cents, is, (omega (arith, ints)));
      reached = inr (node, prices, Contains-append_right ps ((node, Priced prices) ∷ []) (node, Priced prices) (contains_head (node, Priced prices) [] (node, Priced prices) refl), is);
    }),
  )

  -- the greater of the bound so far and the leaf's own is the next bound
  pub max_bound : (ps : List (List Decision × Item R)) (b : ℤ) (node : List Decision) (prices : PriceList R) (cents : ℤ) → IsBoundOf net rows bids node prices cents → IsBoundSoFar net rows bids ps b
      → IsBoundSoFar net rows bids (ps ++ (node, Priced prices) ∷ []) (int_max b cents)
  max_bound ps b node prices cents is so_far = by (max_sides b cents) (next_bound ps b node prices cents is so_far)
    where
      by : ((cents ≤ℤ b) × (int_max b cents ≡ b)) ⊎ ((b ≤ℤ cents) × (int_max b cents ≡ cents))
          → (cents ≤ℤ b → IsBoundSoFar net rows bids (ps ++ (node, Priced prices) ∷ []) b) × (b ≤ℤ cents → IsBoundSoFar net rows bids (ps ++ (node, Priced prices) ∷ []) cents)
          → IsBoundSoFar net rows bids (ps ++ (node, Priced prices) ∷ []) (int_max b cents)
      by (inl p) n = subst (IsBoundSoFar net rows bids (ps ++ (node, Priced prices) ∷ [])) (sym p.1) (n.0 p.0)
      by (inr p) n = subst (IsBoundSoFar net rows bids (ps ++ (node, Priced prices) ∷ [])) (sym p.1) (n.1 p.0)

  -- of a whole tree it is the greatest bound: some leaf is not below 0, since it is one of the choice that serves no bid
  pub whole_bound : (tree : List (Item R)) (b : ℤ) → IsTree tree → All (λ p. SplitsUndecided p.0 p.1) (places tree) → All (λ p. EndsDead net rows bids p.0 p.1) (places tree) → All (HasPrices rows) tree
      → IsBoundSoFar net rows bids (places tree) b → IsGreatestBound net rows bids tree b
  whole_bound tree b whole splits dead prices so_far = record { each = so_far.each; reached = by so_far.reached }
    where
      by : (b ≡ pos 0) ⊎ ((at : List Decision) × (ps : PriceList R) × Contains (places tree) (at, Priced ps) × IsBoundOf net rows bids at ps b)
          → (at : List Decision) × (ps : PriceList R) × Contains (places tree) (at, Priced ps) × IsBoundOf net rows bids at ps b
      by (inr r) = r
      by (inl e) =
          let choice = empty_is_choice net bids in
          let fit = empty_fits rows bids in
          let t = tree_cover net rows bids (empty_choice bids) choice fit tree whole splits dead in
          let leaf : List Decision × Item R = (t.0, Priced t.1) in
          let within : IsWithin net rows bids b t.0 (Priced t.1) = All-contains (λ (p : List Decision × Item R). IsWithin net rows bids b p.0 p.1) (places tree) leaf so_far.each t.2.among in
          let are : ArePrices rows t.1 = All-contains (HasPrices rows) tree (Priced t.1) prices (placed_in root tree leaf t.2.among) in
          let own = within.1 in
          let w = weak_duality net rows bids t.0 t.1 own.terms own.value (empty_choice bids) are t.2.once own.dual choice t.2.of fit in
          let f = below_whole (revenue_of net bids (empty_choice bids)) own.value w in
          let z = empty_earns net bids in
          let c = own.cents_is in
          let l = within.2 in
          let same : within.0 ≡ b = between within.0 b l (omega (arith, ints)) in
          (t.0, t.1, t.2.among, subst (IsBoundOf net rows bids t.0 t.1) same own)

-- a node where all bids are settled closes at the result of its price path, after repair
pub closes : {R : Type 0} (cmp : R → R → Ordering) (net : Net) → IsProper net → (rows : Rows R) (bids : List Bid) (node : List Decision) (start : PriceList R) (steps : ℕ) (incumbent : ℤ) (result : PathResult R)
    (old repaired new : List (Option (List Leg))) → IsDeadAs cmp net rows bids node None → AreSettled net rows bids node → IsPathResult cmp net rows bids node start steps incumbent result
    → IsRepair net rows bids node result.dual repaired → IsBetter net bids old repaired new → whole_cents result.dual.value ≤ℤ revenue_of net bids new
closes cmp net proper rows bids node start steps incumbent result old repaired new lives settled is repair better =
    let z = zero_candidate cmp net rows bids node start steps incumbent result is in
    let e = zero_earned net proper rows bids node settled lives.0 lives.1 z.0 z.1 z.2 result.dual repaired repair in
    let l = z.3 in
    let w = whole_below result.dual.value (revenue_of net bids repaired) (omega (arith, ints)) in
    let b = no_less better in
    omega (arith, ints)
  where
    no_less : IsBetter net bids old repaired new → revenue_of net bids repaired ≤ℤ revenue_of net bids new
    no_less (inl p) = let e = ap (revenue_of net bids) p.1 in omega (arith, ints)
    no_less (inr p) = let e = ap (revenue_of net bids) p.1 in let l = p.0 in omega (arith, ints)

-- a node that is not low has a split leg
pub outcome_of : {R : Type 0} (net : Net) (rows : Rows R) (bids : List Bid) (node : List Decision) (v : Valuation) (revenue : ℤ) (split : Option (ℕ × Leg)) → (AreSettled net rows bids node → whole_cents v.value ≤ℤ revenue)
    → revenue <ℤ whole_cents v.value → IsSplitLegOrNone net rows bids node v.replies split → IsOutcome net rows bids node v revenue split
outcome_of net rows bids node v revenue None settles above settled = settles settled
outcome_of net rows bids node v revenue (Some found) settles above split = (above, split)
