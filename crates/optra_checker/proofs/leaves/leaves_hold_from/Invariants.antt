use Rattle.std.proofs.Common.{take}
use Rattle.std.specs.Prelude.{All}
use Rattle.optra_node.specs.Trees.{placed, root}
use Rattle.optra_node.specs.Certificates.{EndsDead}
use Rattle.optra_open.specs.Opens.{IsRoom}
use Rattle.optra_open.specs.ToCome.{IsAt}
use Rattle.optra_checker.proofs.leaves.leaves_hold_from.Given as goal

abbrev pub invariant-items : goal.invariant-items
invariant-items g l = record {
  kept : IsRoom g.F.Row.Ord.cmp l.inst.net.now (g.F.RowFamily.rows_of l.rows l.inst.net.now) l.inst.bids.now l.room;
  at : IsAt l.tree l.item-index l.room.decisions.items;
  so_far : All (λ p. EndsDead l.inst.net.now (g.F.RowFamily.rows_of l.rows l.inst.net.now) l.inst.bids.now p.0 p.1) (placed root (take l.item-index l.tree));
}
