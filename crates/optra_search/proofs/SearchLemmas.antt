-- From an entered node to the next state.
use Rattle.std.proofs.Common.{◌≡◌, ℕ, ◌+◌, ◌≤◌, ◌<◌, List, [], ◌∷◌, ◌++◌, map, length, Option, None, Some, unwrap_or, refl, sym, ap, ◌∙◌, subst, arith, inl, inr}
use Rattle.std.specs.Prelude.{All, ◌⊎◌}
use Rattle.std.specs.Prelude.{ℤ, pos, ◌≤ℤ◌, ◌<ℤ◌}
use Rattle.std.specs.Int.{int_max}
use Rattle.std.specs.declared.cmp.Ordering.{Ordering}
use Rattle.optra_network.specs.Net.{Net, IsProper}
use Rattle.optra_bid.specs.declared.bids.Bid.{Bid}
use Rattle.optra_walk.specs.declared.Leg.{Leg}
use Rattle.optra_walk.specs.Choices.{revenue_of}
use Rattle.optra_walk.specs.Families.{Rows}
use Rattle.optra_node.specs.declared.Decision.{Decision}
use Rattle.optra_node.specs.declared.Item.{Item}
use Rattle.optra_node.specs.declared.Item.TheVariants.{Split, Priced}
use Rattle.optra_node.specs.Nodes.{IsNode}
use Rattle.optra_node.specs.Duals.{PriceList, whole_cents}
use Rattle.optra_node.specs.Trees.{root, places, open_after}
use Rattle.optra_node.specs.Certificates.{IsBoundOf, IsWithin}
use Rattle.optra_node.proofs.LoadLemmas.{all_head}
use Rattle.optra_prices.specs.declared.Dead.{Dead}
use Rattle.optra_prices.specs.declared.Dead.TheVariants.{Forced as DeadForced, NoWalk as DeadNoWalk}
use Rattle.optra_prices.specs.declared.Priced.{Priced as PathResult}
use Rattle.optra_prices.specs.Deads.{IsDeadAs}
use Rattle.optra_prices.specs.Paths.{IsPathResult}
use Rattle.optra_prices.specs.Steps.{AreProper}
use Rattle.optra_prices.specs.Repairs.{IsRepair, empty_choice}
use Rattle.optra_search.specs.declared.waiting.Waiting.{Waiting}
use Rattle.optra_search.specs.Planner.{OpenNode, first_state, dead_item, IsBetter, IsDeadTurn, IsPricedTurn, opened}
use Rattle.optra_search.specs.Marks.{AreSettled}
use Rattle.optra_search.specs.Openings.{front, decisions_of, start_below, open_from, Nested, state_of, IsBoundSoFar, IsOutcome, yes_child, no_child}
use Rattle.optra_search.specs.Searches.{Parts, IsReached, IsEntered}
use Rattle.optra_search.specs.Reached.{settled_as}
use Rattle.optra_search.proofs.ResultLemmas.{result_valued}
use Rattle.optra_search.proofs.TurnLemmas.{dead_opens}
use Rattle.optra_search.proofs.PlacedLemmas.{node_of, placed_more}
use Rattle.optra_search.proofs.SoundLemmas.{IsSoundOpen, IsSound, first_sound, turns_sound}
use Rattle.optra_search.proofs.BoundLemmas.{first_bound, same_bound, max_bound, closes}
use Rattle.optra_search.proofs.WaitingLemmas.{taken_is, top_within, rest_nested, stack_turn, one_turn, split_opens, split_nested}

module _ {R : Type 0} (cmp : R → R → Ordering) (net : Net) (proper : IsProper net) (rows : Rows R) (bids : List Bid) (steps budget : ℕ) where
  -- what is reached is sound
  pub reached_sound : (s : Parts R) → IsReached cmp net rows bids steps budget s → IsSound cmp net rows bids budget (state_of s.node s.waiting s.items s.incumbent s.count)
  reached_sound s is = turns_sound cmp net proper rows bids steps budget s.count (first_state bids) (state_of s.node s.waiting s.items s.incumbent s.count) is.turns (first_sound cmp net rows bids budget)

  module _ (start : Option (PriceList R)) (s : Parts R) (is : IsEntered cmp net rows bids steps budget start s) where
    abbrev old : Parts R
    old = record s { node = is.before; waiting = s.waiting ++ is.top ∷ [] }

    abbrev first : OpenNode R
    first = record { node = s.node; start = unwrap_or is.top.start (start_below (front s.waiting)) }

    opens_are : open_from is.before (front (s.waiting ++ is.top ∷ [])) ≡ first ∷ open_from is.before (front s.waiting)
    opens_are =
        taken_is is.before s.waiting is.top is.reached.nested
        ∙ (λ i. record { node = sym is.entered i; start = unwrap_or is.top.start (start_below (front s.waiting)) } ∷ open_from is.before (front s.waiting))

    first_is_sound : IsSoundOpen cmp net rows bids first
    first_is_sound =
        let w = reached_sound old is.reached in
        all_head (IsSoundOpen cmp net rows bids) first (open_from is.before (front s.waiting)) (subst (All (IsSoundOpen cmp net rows bids)) opens_are w.waiting)

    -- the entered node may be asked of
    pub entered_node : IsNode net (length bids) s.node
    entered_node = first_is_sound.is_node

    -- and it starts at proper prices
    pub entered_start : AreProper cmp rows (unwrap_or start (start_below (front s.waiting)))
    entered_start = subst (λ (o : Option (PriceList R)). AreProper cmp rows (unwrap_or o (start_below (front s.waiting)))) is.start_is first_is_sound.proper

    are_placed : map node_of (first ∷ open_from is.before (front s.waiting)) ≡ open_after root s.items
    are_placed = let w = reached_sound old is.reached in ap (map node_of) (sym opens_are) ∙ w.nodes

    -- the next state, by what becomes of the entered node
    next_reached : (item : Item R) (prices : PriceList R) (waiting : List (Waiting R)) (new : List (Option (List Leg))) (revenue bound : ℤ)
        → IsDeadTurn cmp net rows bids s.node s.incumbent new item ⊎ IsPricedTurn cmp net rows bids steps first s.incumbent new item prices
        → open_from s.node (front waiting) ≡ opened s.node item prices ++ open_from s.node (front s.waiting) → Nested (length s.node) (front waiting) → revenue ≡ revenue_of net bids new
        → IsBoundSoFar net rows bids (places s.items ++ (s.node, item) ∷ []) bound
        → IsReached cmp net rows bids steps budget (record { node = s.node; waiting = waiting; items = s.items ++ item ∷ []; incumbent = new; revenue = revenue; bound = bound; count = s.count + 1 })
    next_reached item prices waiting new revenue bound becomes opens nested earned bound_is = record {
      nested = nested;
      turns =
          one_turn cmp net rows bids steps budget s.count (first_state bids) (state_of is.before (s.waiting ++ is.top ∷ []) s.items s.incumbent s.count) (state_of s.node waiting (s.items ++ item ∷ []) new (s.count + 1)) is.reached.turns
          (stack_turn cmp net rows bids steps budget is.before s.node s.waiting waiting is.top s.items item prices s.incumbent new s.count is.reached.nested is.entered is.below becomes opens);
      earned = earned;
      bound_is = subst (λ ps. IsBoundSoFar net rows bids ps bound) (sym (placed_more root s.items first (open_from is.before (front s.waiting)) are_placed item)) bound_is;
    }

    nested_rest : Nested (length s.node) (front s.waiting)
    nested_rest = subst (λ (p : List Decision). Nested (length p) (front s.waiting)) (sym is.entered) (rest_nested is.before s.waiting is.top is.reached.nested)

    -- a dead node becomes a leaf
    pub dead_next : (reason : Dead R) → IsDeadAs cmp net rows bids s.node (Some reason)
        → IsReached cmp net rows bids steps budget (record { node = s.node; waiting = s.waiting; items = s.items ++ dead_item reason ∷ []; incumbent = s.incumbent; revenue = s.revenue; bound = s.bound; count = s.count + 1 })
    dead_next reason dead =
        next_reached (dead_item reason) [] s.waiting s.incumbent s.revenue s.bound (inl (record { reason = reason; dead = dead; item_is = refl; stays = refl }))
        (ap (λ nodes. nodes ++ open_from s.node (front s.waiting)) (sym (dead_opens s.node reason (dead_item reason) [] refl))) nested_rest is.reached.earned
        (same_bound net rows bids (places s.items) s.bound s.node (dead_item reason) (within reason) is.reached.bound_is)
      where
        within : (reason : Dead R) → IsWithin net rows bids s.bound s.node (dead_item reason)
        within (DeadForced row) = tt
        within (DeadNoWalk bid) = tt

    module _ (lives : IsDeadAs cmp net rows bids s.node None) (result : PathResult R) (repaired new : List (Option (List Leg))) (revenue : ℤ)
        (path : IsPathResult cmp net rows bids s.node (unwrap_or start (start_below (front s.waiting))) steps s.revenue result) (repair : IsRepair net rows bids s.node result.dual repaired)
        (better : IsBetter net bids s.incumbent repaired new) (earned : revenue ≡ revenue_of net bids new) where
      own_path : IsPathResult cmp net rows bids s.node (unwrap_or is.top.start (start_below (front s.waiting))) steps (revenue_of net bids s.incumbent) result
      own_path =
          subst (λ (o : Option (PriceList R)). IsPathResult cmp net rows bids s.node (unwrap_or o (start_below (front s.waiting))) steps (revenue_of net bids s.incumbent) result) (sym is.start_is)
          (subst (λ (z : ℤ). IsPathResult cmp net rows bids s.node (unwrap_or start (start_below (front s.waiting))) steps z result) is.reached.earned path)

      -- where all bids are settled it closes
      pub settled_closes : AreSettled net rows bids s.node → whole_cents result.dual.value ≤ℤ revenue
      settled_closes settled =
          subst (λ (z : ℤ). whole_cents result.dual.value ≤ℤ z) (sym earned)
          (closes cmp net proper rows bids s.node (unwrap_or start (start_below (front s.waiting))) steps s.revenue result s.incumbent repaired new lives settled path repair better)

      -- a node that closes becomes a leaf with the result's prices
      pub closed_next : whole_cents result.dual.value ≤ℤ revenue
          → IsReached cmp net rows bids steps budget (record { node = s.node; waiting = s.waiting; items = s.items ++ Priced result.prices ∷ []; incumbent = new; revenue = revenue; bound = int_max s.bound (whole_cents result.dual.value); count = s.count + 1 })
      closed_next low =
          next_reached (Priced result.prices) result.prices s.waiting new revenue (int_max s.bound (whole_cents result.dual.value))
          (inr (record { lives = lives; result = result; is_result = own_path; repaired = repaired; is_repaired = repair; better = better; item_is = (subst (λ (z : ℤ). whole_cents result.dual.value ≤ℤ z) earned low, refl); prices_are = refl }))
          refl nested_rest earned (max_bound net rows bids (places s.items) s.bound s.node result.prices (whole_cents result.dual.value) own is.reached.bound_is)
        where
          own : IsBoundOf net rows bids s.node result.prices (whole_cents result.dual.value)
          own = let v = result_valued cmp net rows bids s.node (unwrap_or start (start_below (front s.waiting))) steps s.revenue result path in record { terms = result.dual.terms; value = result.dual.value; dual = v.dual; cents_is = refl }

      -- a node that does not close is split
      pub split_next : (bid : ℕ) (leg : Leg) → IsOutcome net rows bids s.node result.dual revenue (Some (bid, leg))
          → IsReached cmp net rows bids steps budget (record {
            node = s.node;
            waiting = (s.waiting ++ no_child (length s.node) bid leg result.prices ∷ []) ++ yes_child (length s.node) bid leg ∷ [];
            items = s.items ++ Split bid leg ∷ [];
            incumbent = new;
            revenue = revenue;
            bound = s.bound;
            count = s.count + 1;
          })
      split_next bid leg split =
          next_reached (Split bid leg) result.prices ((s.waiting ++ no_child (length s.node) bid leg result.prices ∷ []) ++ yes_child (length s.node) bid leg ∷ []) new revenue s.bound
          (inr (record { lives = lives; result = result; is_result = own_path; repaired = repaired; is_repaired = repair; better = better; item_is = (subst (λ (z : ℤ). z <ℤ whole_cents result.dual.value) earned split.0, split.1); prices_are = refl }))
          (split_opens s.node s.waiting bid leg result.prices) (split_nested s.node s.waiting bid leg result.prices nested_rest) earned
          (same_bound net rows bids (places s.items) s.bound s.node (Split bid leg) tt is.reached.bound_is)

      -- what becomes of the node leads to the next state
      pub settled_next : (split : Option (ℕ × Leg)) → IsOutcome net rows bids s.node result.dual revenue split
          → IsReached cmp net rows bids steps budget (settled_as (record s { incumbent = new; revenue = revenue; count = s.count + 1 }) split result.prices (whole_cents result.dual.value))
      settled_next None low = closed_next low
      settled_next (Some found) split = split_next found.0 found.1 split

-- the top was taken off and entered
pub entered_top : {R : Type 0} (cmp : R → R → Ordering) (net : Net) (rows : Rows R) (bids : List Bid) (steps budget : ℕ) (s : Parts R) (top : Waiting R) (node : List Decision)
    → IsReached cmp net rows bids steps budget (record s { waiting = s.waiting ++ top ∷ [] }) → node ≡ decisions_of s.node top → s.count < budget → IsEntered cmp net rows bids steps budget top.start (record s { node = node })
entered_top cmp net rows bids steps budget s top node reached entered below = record { before = s.node; top = top; start_is = refl; entered = entered; below = below; reached = reached }

-- the top shares no more than there is
pub top_depth : {R : Type 0} (cmp : R → R → Ordering) (net : Net) (rows : Rows R) (bids : List Bid) (steps budget : ℕ) (s : Parts R) (top : Waiting R)
    → IsReached cmp net rows bids steps budget (record s { waiting = s.waiting ++ top ∷ [] }) → top.depth ≤ length s.node
top_depth cmp net rows bids steps budget s top reached = top_within s.node s.waiting top reached.nested

-- at first the root waits
pub first_reached_is : {R : Type 0} (cmp : R → R → Ordering) (net : Net) (rows : Rows R) (bids : List Bid) (steps budget : ℕ) (revenue : ℤ) → revenue ≡ revenue_of net bids (empty_choice bids)
    → IsReached cmp net rows bids steps budget (record { node = []; waiting = record { depth = 0; decision = None; start = None } ∷ []; items = []; incumbent = empty_choice bids; revenue = revenue; bound = pos 0; count = 0 })
first_reached_is cmp net rows bids steps budget revenue e = record { nested = (omega arith, tt); turns = refl; earned = e; bound_is = first_bound net rows bids }
