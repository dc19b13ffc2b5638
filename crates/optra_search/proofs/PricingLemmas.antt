-- The parts of a priced turn.
use Rattle.std.proofs.Common.{◌≡◌, ℕ, ◌+◌, List, length, Option, None, Some, unwrap_or, refl, sym, ap, ◌∙◌, subst}
use Rattle.std.specs.Prelude.{ℤ, ◌≤ℤ◌}
use Rattle.std.specs.declared.cmp.Ordering.{Ordering}
use Rattle.optra_network.specs.Net.{Net, IsProper}
use Rattle.optra_bid.specs.declared.bids.Bid.{Bid}
use Rattle.optra_walk.specs.declared.Leg.{Leg}
use Rattle.optra_walk.specs.Choices.{IsChoice, revenue_of}
use Rattle.optra_walk.specs.Families.{Rows}
use Rattle.optra_node.specs.declared.Decision.{Decision}
use Rattle.optra_node.specs.Duals.{PriceList, whole_cents}
use Rattle.optra_prices.specs.declared.Priced.{Priced as PathResult}
use Rattle.optra_prices.specs.Deads.{IsDeadAs}
use Rattle.optra_prices.specs.Paths.{IsPathResult}
use Rattle.optra_prices.specs.Repairs.{IsRepair}
use Rattle.optra_prices.proofs.ChoiceLemmas.{replies_are_choice}
use Rattle.optra_prices.proofs.RepairLemmas.{repair_fits}
use Rattle.optra_search.specs.Planner.{IsBetter}
use Rattle.optra_search.specs.Marks.{AreSettled}
use Rattle.optra_search.specs.Openings.{front, start_below, IsOutcome}
use Rattle.optra_search.specs.Searches.{Parts, IsReached, IsEntered}
use Rattle.optra_search.specs.Reached.{settled_as}
use Rattle.optra_search.proofs.ResultLemmas.{result_valued}
use Rattle.optra_search.proofs.SearchLemmas.{settled_closes, settled_next}

-- the search with another incumbent and one more node counted
abbrev pub improved : {R : Type 0} → Parts R → List (Option (List Leg)) → ℤ → Parts R
improved s new revenue = record s { incumbent = new; revenue = revenue; count = s.count + 1 }

pub settled_count : {R : Type 0} (s : Parts R) (split : Option (ℕ × Leg)) (prices : PriceList R) (cents : ℤ) → (settled_as s split prices cents).count ≡ s.count
settled_count s None prices cents = refl
settled_count s (Some found) prices cents = refl

module _ {R : Type 0} (cmp : R → R → Ordering) (net : Net) (proper : IsProper net) (rows : Rows R) (bids : List Bid) (steps budget : ℕ) (start : Option (PriceList R)) (s : Parts R)
    (is : IsEntered cmp net rows bids steps budget start s) (lives : IsDeadAs cmp net rows bids s.node None) (result : PathResult R)
    (path : IsPathResult cmp net rows bids s.node (unwrap_or start (start_below (front s.waiting))) steps s.revenue result) where
  -- a term for each bid
  pub priced_terms : length result.dual.terms ≡ length bids
  priced_terms = (result_valued cmp net rows bids s.node (unwrap_or start (start_below (front s.waiting))) steps s.revenue result path).dual.count

  -- the replies are walks of their bids
  pub priced_replies : IsChoice net bids result.dual.replies
  priced_replies =
      replies_are_choice net rows bids s.node result.prices result.dual.replies (result_valued cmp net rows bids s.node (unwrap_or start (start_below (front s.waiting))) steps s.revenue result path).replies

  module _ (repaired : List (Option (List Leg))) (repair : IsRepair net rows bids s.node result.dual repaired) where
    -- so are those of the repaired choice
    pub repaired_choice : IsChoice net bids repaired
    repaired_choice = (repair_fits net rows bids s.node result.dual repaired repair).is_choice

    module _ (more : Parts R) (more_is : more ≡ improved s more.incumbent more.revenue) (better : IsBetter net bids s.incumbent repaired more.incumbent) (earned : more.revenue ≡ revenue_of net bids more.incumbent) where
      same_node : more.node ≡ s.node
      same_node = ap (λ (p : Parts R). p.node) more_is

      -- where all bids are settled the node closes
      pub priced_closes : AreSettled net rows bids more.node → whole_cents result.dual.value ≤ℤ more.revenue
      priced_closes settled =
          settled_closes cmp net proper rows bids steps budget start s is lives result repaired more.incumbent more.revenue path repair better earned
          (subst (AreSettled net rows bids) same_node settled)

      -- and what becomes of it leads to the next state
      pub priced_next : (split : Option (ℕ × Leg)) → IsOutcome net rows bids more.node result.dual more.revenue split → (after : Parts R) → after ≡ settled_as more split result.prices (whole_cents result.dual.value)
          → IsReached cmp net rows bids steps budget after × (after.count ≡ s.count + 1)
      priced_next split outcome after after_is =
          let e : after ≡ settled_as (improved s more.incumbent more.revenue) split result.prices (whole_cents result.dual.value) =
          after_is ∙ ap (λ (p : Parts R). settled_as p split result.prices (whole_cents result.dual.value)) more_is in (
            subst (IsReached cmp net rows bids steps budget) (sym e)
                (settled_next cmp net proper rows bids steps budget start s is lives result repaired more.incumbent more.revenue path repair better earned split
                (subst (λ (node : List Decision). IsOutcome net rows bids node result.dual more.revenue split) same_node outcome)),
            ap (λ (p : Parts R). p.count) e ∙ settled_count (improved s more.incumbent more.revenue) split result.prices (whole_cents result.dual.value),
          )
