use Rattle.std.proofs.Common.{◌↔◌, IsTrue}
use Rattle.optra_walk.specs.Families.{total_of}
use Rattle.optra_walk.specs.Raises.{IsRaised}
use Rattle.optra_walk.proofs.RoomLemmas.{HaveRoomBelow}
use Rattle.optra_walk.proofs.totals.add_tested.Given as goal

abbrev pub invariant-loop-k : goal.invariant-loop-k
invariant-loop-k g l = record {
  raised : IsRaised g.F.Row.Ord.cmp (g.F.RowFamily.rows_used l.rows l.net l.kind l.leg) ((g.F.RowFamily.rows_of l.rows l.net).uses l.kind l.leg)
      (total_of g.F.Row.Ord.cmp l.fn.sums) (total_of g.F.Row.Ord.cmp l.sums) l.k;
  tested : IsTrue l.fitted ↔ HaveRoomBelow (g.F.RowFamily.rows_used l.rows l.net l.kind l.leg) (total_of g.F.Row.Ord.cmp l.fn.sums)
      ((g.F.RowFamily.rows_of l.rows l.net).uses l.kind l.leg) (g.F.RowFamily.rows_of l.rows l.net).capacity l.k;
}
