-- The first bid that is stuck.
use Rattle.std.proofs.Common.{◌≡◌, ℕ, ◌≤◌, ◌<◌, List, Some, slice_get, arith, inl, inr}
use Rattle.std.proofs.lemmas.Bool.{cases_lt}
use Rattle.optra_network.specs.Net.{Net}
use Rattle.optra_bid.specs.declared.bids.Bid.{Bid}
use Rattle.optra_walk.specs.Families.{Rows}
use Rattle.optra_node.specs.declared.Decision.{Decision}
use Rattle.optra_node.specs.Duals.{IsStuck}
use Rattle.optra_prices.specs.Deads.{IsFirstStuck}

module _ {R : Type 0} (net : Net) (rows : Rows R) (bids : List Bid) (node : List Decision) (n : ℕ) (bid : Bid) (at : slice_get bids n ≡ Some bid) where
  -- no bid before is stuck, and this one is
  pub first_of_stuck : IsStuck net rows bids node n bid → ((k : ℕ) (b : Bid) → k < n → slice_get bids k ≡ Some b → IsStuck net rows bids node k b → ⊥) → IsFirstStuck net rows bids node n
  first_of_stuck stuck none = record {
    bid = bid;
    at = at;
    stuck = stuck;
    first = λ other b there is. elim (cases_lt other n) as (λ _. n ≤ other) [
      | inl l ↦ absurd (none other b l there is)
      | inr past ↦ omega arith
    ];
  }
