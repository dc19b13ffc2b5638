use Rattle.std.proofs.Common.{ℕ, ◌+◌, ◌<◌, ◌≤◌, IfSome, slice_get}
use Rattle.optra_node.specs.Nodes.{kind_at, others_load}
use Rattle.optra_node.proofs.blocking.is_usable_blocked.Given as goal

abbrev pub invariant-loop-k : goal.invariant-loop-k
invariant-loop-k g l =
    let rows = g.F.RowFamily.rows_of l.rows l.inst.net.now in
    let kind = kind_at l.inst.bids.now l.bid in
    (j : ℕ) → j < l.k → IfSome (slice_get (g.F.RowFamily.rows_used l.rows l.inst.net.now kind l.leg) j)
    (λ row. rows.uses kind l.leg row + others_load rows l.inst.bids.now l.decisions l.bid row ≤ rows.capacity row)
