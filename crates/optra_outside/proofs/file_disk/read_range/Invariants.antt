use Rattle.optra_outside.proofs.file_disk.read_range.Given as goal

abbrev pub decreases-loop-rest : goal.decreases-loop-rest
decreases-loop-rest g l = l.rest
