-- The replies of the bids are a choice.
use Rattle.std.proofs.Common.{ℕ, List, Option, Some, None, sym}
use Rattle.std.specs.Prelude.{IfSome}
use Rattle.optra_network.specs.Net.{Net}
use Rattle.optra_bid.specs.declared.bids.Bid.{Bid}
use Rattle.optra_walk.specs.declared.Leg.{Leg}
use Rattle.optra_walk.specs.Choices.{IsChoice}
use Rattle.optra_walk.specs.Families.{Rows}
use Rattle.optra_walk.specs.Walks.{IsWalk}
use Rattle.optra_node.specs.declared.Decision.{Decision}
use Rattle.optra_node.specs.Duals.{PriceList}
use Rattle.optra_prices.specs.Replies.{IsReply, AreReplies}
use Rattle.optra_prices.proofs.ListLemmas.{zip_each}

pub replies_are_choice : {R : Type 0} (net : Net) (rows : Rows R) (bids : List Bid) (node : List Decision) (prices : PriceList R) (replies : List (Option (List Leg))) → AreReplies net rows bids node prices replies → IsChoice net bids replies
replies_are_choice net rows bids node prices replies are =
    zip_each (λ (bid : Bid) (reply : Option (List Leg)). IfSome reply (IsWalk net bid.path)) bids replies (sym are.count) (λ n b w at_b at_w. by n b w (are.each n b w at_b at_w))
  where
    by : (n : ℕ) (b : Bid) (w : Option (List Leg)) → IsReply net rows bids node prices n b w → IfSome w (IsWalk net b.path)
    by n b None is = tt
    by n b (Some legs) is = is.0.allowed.walk
