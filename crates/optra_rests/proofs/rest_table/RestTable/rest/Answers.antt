use Rattle.optra_rests.proofs.rest_table.RestTable.rest.Goals as goal

pub is_early-requires-clause-table : goal.is_early-requires-clause-table
is_early-requires-clause-table c = c.requires.table

pub is_early-requires-clause-placed : goal.is_early-requires-clause-placed
is_early-requires-clause-placed c = c.requires.placed
