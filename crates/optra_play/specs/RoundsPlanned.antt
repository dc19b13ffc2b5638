-- The plan of a round is one, and so are its values.
use Rattle.std.proofs.Common.{◌≡◌, ◌∙◌, ℤ, List, Option, ap, sym, subst}
use Rattle.std.specs.declared.cmp.Ordering.{Ordering}
use Rattle.optra_network.specs.Net.{Net}
use Rattle.optra_bid.specs.declared.bids.Bid.{Bid}
use Rattle.optra_walk.specs.Families.{Rows, Entry}
use Rattle.optra_auction.specs.Machine.{Offer}
use Rattle.optra_rounds.specs.Rounds.{values_of}
use Rattle.optra_search.specs.Planner.{IsPlainPlan, Planned}
use Rattle.optra_verdict.proofs.BidLemmas.{bids-from_offers}
use Rattle.optra_play.specs.HouseRounds.{AreRoundValues}
use Rattle.optra_play.specs.Play.{round_budget, round_steps}

pub one_values : {R : Type 0} (cmp : R → R → Ordering) (net : Net) (rows : Rows R) (Keeps : List Entry → Type 0) (offers : List Offer) (a b : List (Option ℤ))
    → AreRoundValues cmp net rows Keeps offers a → AreRoundValues cmp net rows Keeps offers b → a ≡ b
one_values {R} cmp net rows Keeps offers a b first second =
    let bids : first.bids ≡ second.bids = bids-from_offers first.bids second.bids (first.offers_are ∙ sym second.offers_are) in
    let searched = subst (λ (xs : List Bid). IsPlainPlan cmp net rows xs round_steps round_budget first.plan) bids first.is_plan.by_search in
    let plan : first.plan ≡ second.plan = second.is_plan.only first.plan searched in
    first.values_are ∙ ap (λ (xs : List Bid). values_of net xs first.plan.choice) bids ∙ ap (λ (p : Planned R). values_of net second.bids p.choice) plan ∙ sym second.values_are
