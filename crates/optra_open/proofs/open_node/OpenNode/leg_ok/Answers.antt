use Rattle.optra_open.proofs.open_node.OpenNode.leg_ok.Goals as goal

pub blocked-requires-clause-leg : goal.blocked-requires-clause-leg
blocked-requires-clause-leg g c = c.requires.leg
