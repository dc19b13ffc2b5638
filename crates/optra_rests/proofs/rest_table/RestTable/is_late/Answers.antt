use Rattle.optra_rests.proofs.rest_table.RestTable.is_late.Goals as goal

pub end-requires : goal.end-requires
end-requires c = c.requires.table
