use Rattle.optra_rests.proofs.rest_table.RestTable.turn_to.Goals as goal

pub places-places-requires : goal.places-places-requires
places-places-requires c = c.requires.small
