use Rattle.std.proofs.Common.{◌≡◌, List, length, take}
use Rattle.optra_node.specs.declared.Decision.{Decision}
use Rattle.optra_node.specs.Duals.{PriceList}
use Rattle.optra_node.specs.Trees.{placed, root}
use Rattle.optra_checker.specs.BestOnWay.{AreAllBest}
use Rattle.optra_open.specs.Opens.{IsRoom}
use Rattle.optra_open.specs.ToCome.{IsAt}
use Rattle.optra_evidence.specs.Figures.{AreAllMostOf}
use Rattle.optra_evidence.specs.Listed.{AreListed}
use Rattle.optra_evidence.proofs.hearing.hear_tree.Given as goal

abbrev pub invariant-items : goal.invariant-items
invariant-items g l = record {
  kept : IsRoom g.F.Row.Ord.cmp l.inst.net.now (g.F.RowFamily.rows_of l.rows l.inst.net.now) l.inst.bids.now l.room;
  walks : AreAllBest l.inst.net.now (g.F.RowFamily.rows_of l.rows l.inst.net.now) (g.F.RowFamily.rows_used l.rows l.inst.net.now) l.inst.bids.now l.room.decisions.items l.walks;
  at : IsAt l.tree l.item-index l.room.decisions.items;
  count : length l.figures.items ≡ length l.inst.bids.now;
  so_far : (prices_at : List Decision → PriceList g.row.F-Row.Denot) → AreListed (g.F.RowFamily.rows_of l.rows l.inst.net.now) l.tree prices_at
      → AreAllMostOf l.inst.net.now (g.F.RowFamily.rows_of l.rows l.inst.net.now) l.inst.bids.now (placed root (take l.item-index l.tree)) prices_at l.figures.items;
}
