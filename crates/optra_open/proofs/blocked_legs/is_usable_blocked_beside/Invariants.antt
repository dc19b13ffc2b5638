use Rattle.std.proofs.Common.{ℕ, ◌+◌, ◌<◌, ◌≤◌, IfSome, slice_get}
use Rattle.optra_open.specs.Beside.{load_beside}
use Rattle.optra_open.proofs.blocked_legs.is_usable_blocked_beside.Given as goal

abbrev pub invariant-loop-k : goal.invariant-loop-k
invariant-loop-k g l =
    let rows = g.F.RowFamily.rows_of l.rows l.inst.net.now in
    (j : ℕ) → j < l.k → IfSome (slice_get (g.F.RowFamily.rows_used l.rows l.inst.net.now l.kind l.leg) j)
    (λ row. rows.uses l.kind l.leg row + load_beside g.F.Row.Ord.cmp rows l.inst.bids.now l.totals.sums l.own row ≤ rows.capacity row)
