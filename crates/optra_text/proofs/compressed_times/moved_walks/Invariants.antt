-- The walks so far are moved.
use Rattle.std.proofs.Common.{◌≡◌, take}
use Rattle.optra_text.specs.CompressedTexts.{moved_walks}
use Rattle.optra_text.proofs.compressed_times.moved_walks.Given as goal

abbrev pub invariant-walks : goal.invariant-walks
invariant-walks l = l.moved.items ≡ take l.i (moved_walks l.starts l.walks)
