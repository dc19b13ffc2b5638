-- Where a bid is stuck nothing is offered to it.
use Rattle.std.proofs.Common.{◌≡◌, ◌↔◌, Bool, true, false, not, ap, ℕ, ◌<◌, List, length, Option, None, Some, is_none, slice_get, refl, sym, ◌∙◌, subst, inl, inr}
use Rattle.std.specs.Prelude.{ℤ, IsTrue, IsSomeAnd}
use Rattle.std.proofs.lemmas.Bool.{false≢true}
use Rattle.optra_network.specs.Net.{Net}
use Rattle.optra_bid.specs.declared.bids.Bid.{Bid}
use Rattle.optra_walk.specs.Families.{Rows}
use Rattle.optra_node.specs.declared.Decision.{Decision}
use Rattle.optra_node.specs.Duals.{PriceList, IsOffer, IsStuck}
use Rattle.optra_node.proofs.ChildLemmas.{some_at}
use Rattle.optra_checker.specs.Leaves.{IsBestOffer}
use Rattle.optra_open.proofs.AtLemmas.{no_true}

pub flip : (r s : Bool) → s ≡ not r → r ≡ not s
flip true s e = sym (ap not e)
flip false s e = sym (ap not e)

module _ {R : Type 0} (net : Net) (rows : Rows R) (bids : List Bid) (node : List Decision) (prices : PriceList R) (number : ℕ) where
  not_offered : (bid : Bid) (n : ℤ) → IsStuck net rows bids node number bid → IsOffer net rows bids node prices number bid n → ⊥
  not_offered bid n stuck (inl (none, zero)) = false≢true (sym none ∙ stuck.yes)
  not_offered bid n stuck (inr (legs, allowed, is)) = stuck.none legs allowed

  told : (bid : Bid) (best : Option ℤ) → IsBestOffer net rows bids node prices number bid best → IsTrue (is_none best) ↔ IsStuck net rows bids node number bid
  told bid None stuck = ((λ _. stuck), (λ _. refl))
  told bid (Some n) most = ((λ t. absurd (no_true t)), (λ stuck. absurd (not_offered bid n stuck most.reached)))

  pub stuck_at : (best : Option ℤ) → number < length bids → ((bid : Bid) → slice_get bids number ≡ Some bid → IsBestOffer net rows bids node prices number bid best)
      → IsTrue (is_none best) ↔ IsSomeAnd (slice_get bids number) (IsStuck net rows bids node number)
  stuck_at best l each =
      let there = some_at bids number (length bids) refl l in
      subst (λ o. IsTrue (is_none best) ↔ IsSomeAnd o (IsStuck net rows bids node number)) (sym there.1) (told there.0 best (each there.0 there.1))
