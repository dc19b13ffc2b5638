-- A plan makes a formed and valid certificate, and its numbers are within each other.
use Rattle.std.proofs.Common.{◌≡◌, ℕ, ◌≤◌, ◌<◌, List, [], ◌∷◌, ◌++◌, map, length, Option, None, Some, refl, sym, ap, ◌∙◌, subst, arith, inl, inr}
use Rattle.std.specs.Prelude.{All, ◌⊎◌, IfSome, IsSomeAnd}
use Rattle.std.specs.Prelude.{ℤ, ◌≤ℤ◌, ◌<ℤ◌}
use Rattle.std.specs.declared.cmp.Ordering.{Ordering}
use Rattle.std.proofs.lemmas.Int.{ints}
use Rattle.std.proofs.lemmas.List.{length-append}
use Rattle.std.proofs.lemmas.List.Elements.{All-nil, All-cons, All-append, All-map, All-weaker, All-contains}
use Rattle.optra_network.specs.Net.{Net, IsProper}
use Rattle.optra_network.proofs.HeadwayLemmas.{below_types}
use Rattle.optra_bid.specs.declared.bids.Bid.{Bid}
use Rattle.optra_walk.specs.declared.Leg.{Leg}
use Rattle.optra_walk.specs.Walks.{IsWalk, IsStart, first_leg}
use Rattle.optra_walk.specs.Choices.{IsChoice, revenue_of}
use Rattle.optra_walk.specs.Families.{Rows, Entry, IsUsable, FitRows, entries_of}
use Rattle.optra_walk.proofs.UsableLemmas.{walk_usable}
use Rattle.optra_node.specs.declared.Decision.{Decision}
use Rattle.optra_node.specs.declared.Item.{Item}
use Rattle.optra_node.specs.declared.Item.TheVariants.{Priced}
use Rattle.optra_node.specs.Nodes.{IsFormedLeg}
use Rattle.optra_node.specs.Trees.{places, root, IsTree}
use Rattle.optra_node.specs.Certificates.{IsFormedWalk, IsFormedItem, SplitsUndecided, EndsDead, HasPrices}
use Rattle.optra_node.proofs.DualLemmas.{zip_length}
use Rattle.optra_node.proofs.TreeLemmas.{bound_above}
use Rattle.optra_prices.proofs.RepairLemmas.{FitChoice}
use Rattle.optra_search.specs.Planner.{OpenNode, State, first_state, Turns, priced_open, Planned, IsPlainPlan}
use Rattle.optra_search.specs.Laws.{IsCertified, HasNumbers}
use Rattle.optra_search.proofs.PlacedLemmas.{leaf_of, open_at_end, placed_at_end}
use Rattle.optra_search.proofs.ResultLemmas.{whole_below}
use Rattle.optra_search.proofs.SoundLemmas.{all_bases, IsSoundOpen, IsSoundItem, IsSoundPlace, IsClosedBelow, IsSound, first_sound, turns_sound}

walk_formed : (net : Net) → IsProper net → (bid : Bid) (legs : List Leg) → IsWalk net bid.path legs → IsFormedWalk net legs
walk_formed net proper bid legs walk = record {
  some = some legs walk.start;
  formed =
      All-weaker (IsUsable net bid.path.kind) (IsFormedLeg net) (λ leg usable. record { track = (below_types net leg.track bid.path.kind proper usable.may_use).2; depart = usable.depart; dwell = usable.dwell })
      legs (walk_usable net proper bid legs walk);
}
  where
    some : (legs : List Leg) → IsSomeAnd (first_leg legs) (IsStart net bid.path) → 0 < length legs
    some [] h = absurd h
    some (leg ∷ legs) h = omega arith

choice_formed : (net : Net) → IsProper net → (bids : List Bid) (choice : List (Option (List Leg))) → IsChoice net bids choice → All (λ walk. IfSome walk (IsFormedWalk net)) choice
choice_formed net proper [] [] h = All-nil (λ (walk : Option (List Leg)). IfSome walk (IsFormedWalk net))
choice_formed net proper [] (walk ∷ choice) h = absurd h
choice_formed net proper (bid ∷ bids) [] h = absurd h
choice_formed net proper (bid ∷ bids) (walk ∷ choice) h =
    All-cons (λ (walk : Option (List Leg)). IfSome walk (IsFormedWalk net)) walk choice (by walk h.0) (choice_formed net proper bids choice h.1)
  where
    by : (walk : Option (List Leg)) → IfSome walk (IsWalk net bid.path) → IfSome walk (IsFormedWalk net)
    by None h = tt
    by (Some legs) h = walk_formed net proper bid legs h

-- a tree made of the items of a last state, with a priced leaf for each node that is still open
module _ {R : Type 0} (cmp : R → R → Ordering) (net : Net) (proper : IsProper net) (rows : Rows R) (bids : List Bid) (steps budget : ℕ) (last : State R)
    (turns : Turns cmp net rows bids steps budget last.count (first_state bids) last) (tree : List (Item R)) (tree_is : tree ≡ last.items ++ map priced_open last.open_nodes) where
  pub last_sound : IsSound cmp net rows bids budget last
  last_sound = turns_sound cmp net proper rows bids steps budget last.count (first_state bids) last turns (first_sound cmp net rows bids budget)

  -- what holds of each item at its node, and of each leaf of an open node, holds of the tree
  pub tree_places : (P : List Decision × Item R → Type 0) → All P (places last.items) → All (λ w. P (leaf_of w)) last.open_nodes → All P (places tree)
  tree_places P a b =
      subst (λ (tree : List (Item R)). All P (places tree)) (sym tree_is)
      (subst (All P) (sym (placed_at_end root last.items last.open_nodes last_sound.nodes))
      (All-append P (places last.items) (map leaf_of last.open_nodes) a (All-map P leaf_of last.open_nodes b)))

  tree_items : (P : Item R → Type 0) → All P last.items → All (λ w. P (priced_open w)) last.open_nodes → All P tree
  tree_items P a b =
      subst (All P) (sym tree_is) (All-append P last.items (map priced_open last.open_nodes) a (All-map P priced_open last.open_nodes b))

  pub last_places : (P : List Decision × Item R → Type 0) → ((p : List Decision × Item R) → IsSoundPlace net rows bids (revenue_of net bids last.incumbent) p.0 p.1 → P p) → All P (places last.items)
  last_places P f = All-weaker (λ (p : List Decision × Item R). IsSoundPlace net rows bids (revenue_of net bids last.incumbent) p.0 p.1) P f (places last.items) last_sound.placed_items

  pub tree_splits : All (λ p. SplitsUndecided p.0 p.1) (places tree)
  tree_splits = tree_places (λ p. SplitsUndecided p.0 p.1) (last_places (λ p. SplitsUndecided p.0 p.1) (λ p h. h.splits)) (λ k d l. tt)

  pub tree_dead : All (λ p. EndsDead net rows bids p.0 p.1) (places tree)
  tree_dead = tree_places (λ p. EndsDead net rows bids p.0 p.1) (last_places (λ p. EndsDead net rows bids p.0 p.1) (λ p h. h.dead)) (λ k d l. tt)

  pub tree_prices : All (HasPrices rows) tree
  tree_prices =
      tree_items (HasPrices rows) (All-weaker (IsSoundItem cmp net rows bids) (HasPrices rows) (λ item h. h.prices) last.items last_sound.items)
      (All-weaker (IsSoundOpen cmp net rows bids) (λ w. HasPrices rows (priced_open w)) (λ w h. h.proper.each) last.open_nodes last_sound.waiting)

  pub tree_formed : All (IsFormedItem cmp net (length bids)) tree
  tree_formed =
      tree_items (IsFormedItem cmp net (length bids)) (All-weaker (IsSoundItem cmp net rows bids) (IsFormedItem cmp net (length bids)) (λ item h. h.formed) last.items last_sound.items)
      (All-weaker (IsSoundOpen cmp net rows bids) (λ w. IsFormedItem cmp net (length bids) (priced_open w)) (λ w h. h.proper.ascending) last.open_nodes last_sound.waiting)

  pub tree_whole : IsTree tree
  tree_whole = subst IsTree (sym tree_is) (record {
    each =
        let a = ap (λ (ps : List (List Decision × Item R)). length ps) (placed_at_end root last.items last.open_nodes last_sound.nodes) in
        let b = length-append (places last.items) (map leaf_of last.open_nodes) in
        let c = length-append last.items (map priced_open last.open_nodes) in
        let d = same_length last.open_nodes in
        let e = last_sound.each in
        omega arith;
    whole = open_at_end root last.items last.open_nodes last_sound.nodes;
  })
    where
      same_length : (ws : List (OpenNode R)) → length (map leaf_of ws) ≡ length (map priced_open ws)
      same_length [] = refl
      same_length (w ∷ ws) = let i = same_length ws in omega arith

module _ {R : Type 0} (cmp : R → R → Ordering) (net : Net) (proper : IsProper net) (rows : Rows R) (bids : List Bid) (steps budget : ℕ) (plan : Planned R)
    (is : IsPlainPlan cmp net rows bids steps budget plan) where
  sound : IsSound cmp net rows bids budget is.last
  sound = last_sound cmp net proper rows bids steps budget is.last is.turns plan.tree is.tree

  all_places : (P : List Decision × Item R → Type 0) → All P (places is.last.items) → All (λ w. P (leaf_of w)) is.last.open_nodes → All P (places plan.tree)
  all_places = tree_places cmp net proper rows bids steps budget is.last is.turns plan.tree is.tree

  weaken : (P : List Decision × Item R → Type 0) → ((p : List Decision × Item R) → IsSoundPlace net rows bids (revenue_of net bids is.last.incumbent) p.0 p.1 → P p) → All P (places is.last.items)
  weaken = last_places cmp net proper rows bids steps budget is.last is.turns plan.tree is.tree

  whole : IsTree plan.tree
  whole = tree_whole cmp net proper rows bids steps budget is.last is.turns plan.tree is.tree

  splits : All (λ p. SplitsUndecided p.0 p.1) (places plan.tree)
  splits = tree_splits cmp net proper rows bids steps budget is.last is.turns plan.tree is.tree

  dead : All (λ p. EndsDead net rows bids p.0 p.1) (places plan.tree)
  dead = tree_dead cmp net proper rows bids steps budget is.last is.turns plan.tree is.tree

  prices : All (HasPrices rows) plan.tree
  prices = tree_prices cmp net proper rows bids steps budget is.last is.turns plan.tree is.tree

  fit : FitChoice net rows bids plan.choice
  fit = subst (FitChoice net rows bids) (sym is.choice) sound.choice

  revenue_is : plan.revenue ≡ revenue_of net bids plan.choice
  revenue_is = is.revenue ∙ ap (revenue_of net bids) (sym is.choice)

  -- a plan makes a formed and valid certificate
  pub certified : (Keeps : List Entry → Type 0) → (IsChoice net bids plan.choice → FitRows rows (entries_of bids plan.choice) → Keeps (entries_of bids plan.choice)) → IsCertified cmp net rows Keeps bids plan
  certified Keeps keep = record {
    formed = record {
      entries = sym (zip_length (λ (bid : Bid) (walk : Option (List Leg)). IfSome walk (IsWalk net bid.path)) bids plan.choice fit.is_choice);
      walks = choice_formed net proper bids plan.choice fit.is_choice;
      whole = whole;
      items = tree_formed cmp net proper rows bids steps budget is.last is.turns plan.tree is.tree;
    };
    valid = record {
      walks = fit.is_choice;
      rule = keep fit.is_choice fit.fits;
      revenue_is = revenue_is;
      splits = splits;
      dead = dead;
      prices = prices;
      bound_is = is.bound;
    };
  }

  -- where each priced leaf is within an amount, the bound is
  bound_within : (most : ℤ) → All (λ p. IsClosedBelow net rows bids most p.0 p.1) (places plan.tree) → plan.bound ≤ℤ most
  bound_within most all =
      let r = is.bound.reached in
      let leaf : List Decision × Item R = (r.0, Priced r.1) in
      let closed : IsClosedBelow net rows bids most r.0 (Priced r.1) = All-contains (λ (p : List Decision × Item R). IsClosedBelow net rows bids most p.0 p.1) (places plan.tree) leaf all r.2 in
      closed plan.bound r.3

  bases : plan.bound ≤ℤ all_bases bids
  bases =
      bound_within (all_bases bids)
      (all_places (λ p. IsClosedBelow net rows bids (all_bases bids) p.0 p.1) (weaken (λ p. IsClosedBelow net rows bids (all_bases bids) p.0 p.1) (λ p h. h.bases))
      (All-weaker (IsSoundOpen cmp net rows bids) (λ w. IsClosedBelow net rows bids (all_bases bids) w.node (priced_open w))
      (λ w h cents b. subst (λ (c : ℤ). c ≤ℤ all_bases bids) (sym b.cents_is) (whole_below b.value (all_bases bids) (h.bases b.terms b.value b.dual)))
      is.last.open_nodes sound.waiting))

  -- where no node is open, the bound is at most the revenue
  pub closed : is.last.open_nodes ≡ [] → plan.bound ≤ℤ plan.revenue
  closed none =
      let revenue = revenue_of net bids is.last.incumbent in
      subst (λ (r : ℤ). plan.bound ≤ℤ r) (sym is.revenue)
      (bound_within revenue
      (all_places (λ p. IsClosedBelow net rows bids revenue p.0 p.1) (weaken (λ p. IsClosedBelow net rows bids revenue p.0 p.1) (λ p h. h.closed))
      (subst (All (λ (w : OpenNode R). IsClosedBelow net rows bids revenue w.node (priced_open w))) (sym none) (All-nil (λ (w : OpenNode R). IsClosedBelow net rows bids revenue w.node (priced_open w))))))

  -- the revenue is 0 to the bound, the bound is at most the bases, and a gap means that the budget was spent
  pub numbered : HasNumbers bids budget plan
  numbered = record {
    least = let e = is.revenue in let s = sound.earns in omega (arith, ints);
    within =
        subst (λ (r : ℤ). r ≤ℤ plan.bound) (sym revenue_is)
        (bound_above net rows bids plan.choice fit.is_choice fit.fits plan.tree plan.bound whole splits dead prices is.bound);
    bases = bases;
    gap = gap is.over;
  }
    where
      gap : (is.last.open_nodes ≡ []) ⊎ (budget ≤ is.last.count) → plan.revenue <ℤ plan.bound → plan.nodes ≡ budget
      gap (inl none) above = let c = closed none in absurd (omega (arith, ints))
      gap (inr spent) above = let n = is.nodes in let s = sound.count in omega arith
