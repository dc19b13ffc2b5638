use Rattle.std.proofs.Common.{ℕ, ◌<◌, ◌≤◌, IfSome, slice_get}
use Rattle.optra_node.specs.Nodes.{yes_load}
use Rattle.optra_node.proofs.blocking.least_used.Given as goal

abbrev pub invariant-loop-k : goal.invariant-loop-k
invariant-loop-k g l =
    let rows = g.F.RowFamily.rows_of l.rows l.inst.net.now in
    (j : ℕ) → j < l.k → IfSome (slice_get (g.F.RowFamily.rows_used l.rows l.inst.net.now l.kind l.leg) j)
    (λ row. yes_load rows l.inst.bids.now l.decisions row ≤ rows.capacity row)
