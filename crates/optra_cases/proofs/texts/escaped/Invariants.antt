use Rattle.std.proofs.Common.{length}
use Rattle.optra_cases.proofs.texts.escaped.Given as goal

abbrev pub decreases-bytes : goal.decreases-bytes
decreases-bytes l = length l.rest
