-- The arcs so far have their parts, and what was told last is so.
use Rattle.optra_prices.specs.Parts.{ArePartsOf}
use Rattle.optra_prices.specs.Rooms.{IsTold}
use Rattle.optra_prices.proofs.parts.tell_table.Given as goal

abbrev pub invariant-loop-k : goal.invariant-loop-k
invariant-loop-k l = record {
  told : ArePartsOf l.room l.groups.starts.items l.groups.touches l.table.arcs l.k l.parts.items;
  last : IsTold l.room l.groups l.last;
}
