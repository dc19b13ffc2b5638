-- the ranges so far are filled
use Rattle.std.proofs.Common.{◌≡◌, length, map, take, vec_capacity}
use Rattle.std.specs.List.{fold}
use Rattle.optra_outside.specs.MemoryDisk.{range_of, filled}
use Rattle.optra_outside.proofs.memory_disk.fill_all.Given as goal

abbrev pub invariant-loop-span : goal.invariant-loop-span
invariant-loop-span l = record {
  so_far : l.bytes.items ≡ fold (filled l.byte) l.fn.bytes.items (map range_of (take l.span-index l.written));
  long : length l.bytes.items ≡ length l.fn.bytes.items;
  capacity : vec_capacity l.bytes ≡ vec_capacity l.fn.bytes;
}
