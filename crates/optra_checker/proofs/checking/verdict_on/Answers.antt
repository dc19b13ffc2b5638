use Rattle.optra_checker.proofs.checking.verdict_on.Goals as goal

pub choice_fault-requires : goal.choice_fault-requires
choice_fault-requires g c = c.requires

pub tree_fault-fault-requires-clause-formed : goal.tree_fault-fault-requires-clause-formed
tree_fault-fault-requires-clause-formed g c = c.requires.formed
