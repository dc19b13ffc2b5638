use Rattle.std.proofs.Common.{map, take}
use Rattle.optra_node.specs.OwnDecisions.{AreByBid}
use Rattle.optra_node.proofs.own_decisions.by_bid.Given as goal

abbrev pub invariant-loop-place : goal.invariant-loop-place
invariant-loop-place l = AreByBid l.bids (take l.place l.decisions) (map (λ v. v.items) l.lists.items)
