use Rattle.std.proofs.Common.{map, take}
use Rattle.optra_node.specs.OwnDecisions.{ArePlacesByBid}
use Rattle.optra_node.proofs.own_decisions.places_by_bid.Given as goal

abbrev pub invariant-loop-place : goal.invariant-loop-place
invariant-loop-place l = ArePlacesByBid l.bids l.decisions (take l.place l.decisions) (map (λ v. v.items) l.lists.items)
