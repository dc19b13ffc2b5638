use Rattle.std.proofs.Common.{◌≡◌, ◌++◌, drop}
use Rattle.optra_walk.proofs.families.RowFamily.list_touched.Given as goal

abbrev pub invariant-loop-k : goal.invariant-loop-k
invariant-loop-k g l =
    l.list.items ++ drop l.k (g.Self.RowFamily.rows_used l.self l.net l.kind l.leg) ≡ l.initial.list.items ++ drop l.from (g.Self.RowFamily.rows_used l.self l.net l.kind l.leg)
