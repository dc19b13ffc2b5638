use Rattle.std.proofs.Common.{◌<◌, take}
use Rattle.optra_node.specs.Nodes.{yes_load, IsOverfull, IsLeastOrNone}
use Rattle.optra_node.proofs.blocking.least_overfull.Given as goal

abbrev pub invariant-loop-decision : goal.invariant-loop-decision
invariant-loop-decision g l =
    let rows = g.F.RowFamily.rows_of l.rows l.inst.net.now in
    IsLeastOrNone g.F.Row.Ord.cmp (λ row. (0 < yes_load rows l.inst.bids.now (take l.decision-index l.decisions) row) × IsOverfull rows l.inst.bids.now l.decisions row) l.least
