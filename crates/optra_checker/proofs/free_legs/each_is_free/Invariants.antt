-- The legs so far are allowed, at no price.
use Rattle.std.proofs.Common.{take}
use Rattle.std.specs.Prelude.{All}
use Rattle.optra_node.specs.Nodes.{kind_at}
use Rattle.optra_checker.specs.Frees.{IsFreeLeg}
use Rattle.optra_open.specs.NodeWeights.{leaf_weights}
use Rattle.optra_checker.proofs.free_legs.each_is_free.Given as goal

abbrev pub invariant-legs : goal.invariant-legs
invariant-legs g l =
    let rows = g.F.RowFamily.rows_of l.node.family l.node.net in
    let used = g.F.RowFamily.rows_used l.node.family l.node.net in
    All (IsFreeLeg (leaf_weights l.node.net rows used l.node.bids l.node.node l.bid l.prices (kind_at l.node.bids l.bid))) (take l.leg-index l.legs)
