-- the search along the chain of places that have the name's hash
use Rattle.std.proofs.Common.{map}
use Rattle.optra_outside.specs.HeldFiles.{file_at}
use Rattle.optra_outside.proofs.Chains.{IsSought}
use Rattle.optra_outside.proofs.held_files.HeldFiles.get.Given as goal

abbrev pub invariant-chain : goal.invariant-chain
invariant-chain l = IsSought (map (file_at l.self-inside.buffer.items) l.self-inside.places.items) l.name l.count

abbrev pub decreases-chain : goal.decreases-chain
decreases-chain l = l.count
