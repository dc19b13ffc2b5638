use Rattle.std.proofs.Common.{take}
use Rattle.optra_node.specs.Trees.{placed, root}
use Rattle.optra_checker.specs.BestOnWay.{AreAllBest}
use Rattle.optra_checker.specs.Bounds.{IsGreatestOf}
use Rattle.optra_open.specs.Opens.{IsRoom}
use Rattle.optra_open.specs.ToCome.{IsAt}
use Rattle.optra_checker.proofs.bounding.greatest_from.Given as goal

abbrev pub invariant-items : goal.invariant-items
invariant-items g l = record {
  kept : IsRoom g.F.Row.Ord.cmp l.inst.net.now (g.F.RowFamily.rows_of l.rows l.inst.net.now) l.inst.bids.now l.room;
  walks : AreAllBest l.inst.net.now (g.F.RowFamily.rows_of l.rows l.inst.net.now) (g.F.RowFamily.rows_used l.rows l.inst.net.now) l.inst.bids.now l.room.decisions.items l.walks;
  at : IsAt l.tree l.item-index l.room.decisions.items;
  so_far : IsGreatestOf l.inst.net.now (g.F.RowFamily.rows_of l.rows l.inst.net.now) l.inst.bids.now (placed root (take l.item-index l.tree)) l.greatest;
}
