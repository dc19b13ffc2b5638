-- The legs so far are moved.
use Rattle.std.proofs.Common.{◌≡◌, map, take}
use Rattle.optra_text.specs.CompressedTexts.{moved_leg}
use Rattle.optra_text.proofs.compressed_times.moved_legs.Given as goal

abbrev pub invariant-legs : goal.invariant-legs
invariant-legs l = l.moved.items ≡ map (moved_leg l.first l.start) (take l.leg-index l.legs)
