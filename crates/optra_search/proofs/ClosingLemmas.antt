-- The end of a search: nodes that wait become leaves, and then the search is a plan.
use Rattle.std.proofs.Common.{◌≡◌, ℕ, ◌*◌, ◌≤◌, List, [], ◌∷◌, ◌++◌, map, length, None, unwrap_or, refl, sym, ap, ◌∙◌, subst, arith, append_assoc}
use Rattle.std.specs.Prelude.{All}
use Rattle.std.specs.Prelude.{pos, ◌≤ℤ◌}
use Rattle.std.specs.Int.{int_max}
use Rattle.std.specs.declared.cmp.Ordering.{Ordering}
use Rattle.std.proofs.lemmas.Int.{ints}
use Rattle.std.proofs.lemmas.List.Elements.{All-weaker}
use Rattle.optra_network.specs.Net.{Net, IsProper}
use Rattle.optra_bid.specs.Specs.{IsBetween}
use Rattle.optra_bid.specs.declared.bids.Bid.{Bid}
use Rattle.optra_walk.specs.Families.{Rows}
use Rattle.optra_node.specs.declared.Decision.{Decision}
use Rattle.optra_node.specs.declared.Item.{Item}
use Rattle.optra_node.specs.declared.Item.TheVariants.{Priced}
use Rattle.optra_node.specs.Nodes.{IsNode}
use Rattle.optra_node.specs.Duals.{PriceList, whole_cents}
use Rattle.optra_node.specs.Trees.{root, places, open_after}
use Rattle.optra_node.proofs.SumLemmas.{sum_of-cons}
use Rattle.optra_node.proofs.LoadLemmas.{all_head, all_tail}
use Rattle.optra_prices.specs.Replies.{Valuation, IsValuation}
use Rattle.optra_prices.specs.Steps.{AreProper}
use Rattle.optra_search.specs.declared.waiting.Waiting.{Waiting}
use Rattle.optra_search.specs.Planner.{OpenNode, State, IsOver, priced_open, IsPlainPlan}
use Rattle.optra_search.specs.Openings.{front, decisions_of, start_below, open_from, Nested, state_of, IsBoundSoFar}
use Rattle.optra_search.specs.Searches.{Parts, IsReached}
use Rattle.optra_search.specs.Reached.{settled_as}
use Rattle.optra_search.specs.Closings.{waiting_of, MayBePriced, MayClose, HasClosed, plan_of}
use Rattle.optra_search.proofs.PlacedLemmas.{open_more, placed_more}
use Rattle.optra_search.proofs.BoundLemmas.{max_bound, whole_bound}
use Rattle.optra_search.proofs.WaitingLemmas.{taken_is, rest_stays, rest_nested}
use Rattle.optra_search.proofs.SoundLemmas.{IsSoundOpen, all_bases}
use Rattle.optra_search.proofs.SearchLemmas.{reached_sound}
use Rattle.optra_search.proofs.PlanLemmas.{tree_whole, tree_splits, tree_dead, tree_prices, numbered}

module _ {R : Type 0} (cmp : R → R → Ordering) (net : Net) (rows : Rows R) (bids : List Bid) (s : Parts R) (top : Waiting R) (node : List Decision)
    (may : MayClose cmp net rows bids (record s { waiting = s.waiting ++ top ∷ [] })) (entered : node ≡ decisions_of s.node top) where
  abbrev before : Parts R
  before = record s { waiting = s.waiting ++ top ∷ [] }

  abbrev start : PriceList R
  start = unwrap_or top.start (start_below (front s.waiting))

  abbrev first : OpenNode R
  first = record { node = node; start = start }

  -- the node that was on top waits first
  opens_are : waiting_of before ≡ first ∷ open_from node (front s.waiting)
  opens_are =
      taken_is s.node s.waiting top may.nested
      ∙ (λ i. record { node = sym entered i; start = start } ∷ (sym (rest_stays s.node s.waiting top may.nested) ∙ ap (λ (p : List Decision). open_from p (front s.waiting)) (sym entered)) i)

  first_may : MayBePriced cmp net rows bids first
  first_may = all_head (MayBePriced cmp net rows bids) first (open_from node (front s.waiting)) (subst (All (MayBePriced cmp net rows bids)) opens_are may.each)

  -- the entered node may be asked of
  pub closing_node : IsNode net (length bids) node
  closing_node = first_may.is_node

  -- and its start prices are proper
  pub closing_start : AreProper cmp rows start
  closing_start = first_may.proper

  are : map (λ w. w.node) (first ∷ open_from node (front s.waiting)) ≡ open_after root s.items
  are = ap (map (λ (w : OpenNode R). w.node)) (sym opens_are) ∙ may.nodes

  module _ (v : Valuation) (is : IsValuation net rows bids node start v) where
    abbrev after : Parts R
    after = settled_as (record s { node = node }) None start (whole_cents v.value)

    -- as a leaf with its start prices, it leaves the rest to become leaves
    pub closing_next : MayClose cmp net rows bids after
    closing_next = record {
      nested = subst (λ (p : List Decision). Nested (length p) (front s.waiting)) (sym entered) (rest_nested s.node s.waiting top may.nested);
      nodes = open_more root s.items first (open_from node (front s.waiting)) are (Priced start) start;
      each = all_tail (MayBePriced cmp net rows bids) first (open_from node (front s.waiting)) (subst (All (MayBePriced cmp net rows bids)) opens_are may.each);
      bound_is =
          subst (λ ps. IsBoundSoFar net rows bids ps (int_max s.bound (whole_cents v.value))) (sym (placed_more root s.items first (open_from node (front s.waiting)) are (Priced start)))
          (max_bound net rows bids (places s.items) s.bound node start (whole_cents v.value) (record { terms = v.terms; value = v.value; dual = is.dual; cents_is = refl }) may.bound_is);
    }

    -- and the tree stays the same
    pub closing_same : HasClosed before after
    closing_same = record {
      incumbent = refl;
      revenue = refl;
      count = refl;
      tree =
          append_assoc s.items (Priced start ∷ []) (map priced_open (open_from node (front s.waiting)))
          ∙ ap (λ (ws : List (OpenNode R)). s.items ++ map priced_open ws) (sym opens_are);
    }

-- a base is at most 1,000,000,000 cents
bases_below : (bids : List Bid) → all_bases bids ≤ℤ pos (1000000000 * length bids)
bases_below [] = omega (arith, ints)
bases_below (bid ∷ bids) =
    let s = sum_of-cons (λ (b : Bid). b.money.base) bid bids in
    let b = bid.bounds.amounts.base.1 in
    let i = bases_below bids in
    omega (arith, ints)

module _ {R : Type 0} (cmp : R → R → Ordering) (net : Net) (proper : IsProper net) (rows : Rows R) (bids : List Bid) (steps budget : ℕ) (s : Parts R) (is : IsReached cmp net rows bids steps budget s) where
  -- the nodes that wait when the turns end may become leaves
  pub closing_first : MayClose cmp net rows bids s
  closing_first =
      let w = reached_sound cmp net proper rows bids steps budget s is in
      record {
        nested = is.nested;
        nodes = w.nodes;
        each =
            All-weaker (IsSoundOpen cmp net rows bids) (MayBePriced cmp net rows bids) (λ o h. record { is_node = h.is_node; proper = h.proper }) (waiting_of s) w.waiting;
        bound_is = is.bound_is;
      }

  -- the state in which they end
  abbrev last : State R
  last = state_of s.node s.waiting s.items s.incumbent s.count

  -- and once none waits, the search is the plan
  pub closed_plan : IsOver budget last → (c : Parts R) → MayClose cmp net rows bids c → HasClosed s c → c.waiting ≡ [] → IsPlainPlan cmp net rows bids steps budget (plan_of c)
  closed_plan over c may has none =
      record {
        last = last;
        turns = is.turns;
        over = over;
        choice = has.incumbent;
        revenue = has.revenue ∙ is.earned;
        nodes = has.count;
        tree = tree_is;
        bound =
            whole_bound net rows bids c.items c.bound (tree_whole cmp net proper rows bids steps budget last is.turns c.items tree_is) (tree_splits cmp net proper rows bids steps budget last is.turns c.items tree_is)
            (tree_dead cmp net proper rows bids steps budget last is.turns c.items tree_is) (tree_prices cmp net proper rows bids steps budget last is.turns c.items tree_is) may.bound_is;
      }
    where
      no_more : (xs : List (Item R)) → xs ≡ xs ++ []
      no_more [] = refl
      no_more (x ∷ xs) = ap (λ ys. x ∷ ys) (no_more xs)

      tree_is : c.items ≡ s.items ++ map priced_open (waiting_of s)
      tree_is = no_more c.items ∙ ap (λ (ws : List (Waiting R)). c.items ++ map priced_open (open_from c.node (front ws))) (sym none) ∙ has.tree

  -- its bound is within the bases
  pub closed_range : length bids ≤ 1000 → IsOver budget last → (c : Parts R) → MayClose cmp net rows bids c → HasClosed s c → c.waiting ≡ [] → IsBetween (pos 0) (pos 1000000000000) c.bound
  closed_range few over c may has none =
      let n = numbered cmp net proper rows bids steps budget (plan_of c) (closed_plan over c may has none) in
      let most = n.bases in
      let all = bases_below bids in
      (may.bound_is.least, omega (arith, ints))
