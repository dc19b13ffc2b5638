use Rattle.std.proofs.Common.{false, length, replicate}
use Rattle.optra_prices.specs.Holders.{AreToldTo}
use Rattle.optra_prices.proofs.HolderLemmas.{TellsBelow}
use Rattle.optra_prices.proofs.holders.tell_fallen.Given as goal

abbrev pub invariant-loop-g : goal.invariant-loop-g
invariant-loop-g l = record {
  told : AreToldTo l.first l.fallen.items;
  below : TellsBelow l.g-index l.columns.marks.items l.columns.due.items l.holders (replicate (length l.tables) false) l.fallen.items;
}
