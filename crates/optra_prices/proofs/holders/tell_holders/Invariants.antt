use Rattle.std.proofs.Common.{◌-◌, ◌≤◌}
use Rattle.std.specs.Prelude.{slice_index}
use Rattle.optra_prices.specs.Indexes.{items_at}
use Rattle.optra_prices.proofs.HolderLemmas.{TellsFirst}
use Rattle.optra_prices.proofs.holders.tell_holders.Given as goal

abbrev pub invariant-loop-place : goal.invariant-loop-place
invariant-loop-place l = record {
  low : slice_index l.holders.starts.items l.g ≤ l.place;
  first : TellsFirst (l.place - slice_index l.holders.starts.items l.g) (items_at l.holders l.g) l.fn.fallen.items l.fallen.items;
}
