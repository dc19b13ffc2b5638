use Rattle.std.proofs.Common.{◌∙◌, ap, map, rules, slice_set}
use Rattle.std.specs.Prelude.{FitsSigned}
use Rattle.std.specs.Int.{w128}
use Rattle.std.proofs.lemmas.Int.{to_z-of_z}
use Rattle.std.proofs.lemmas.List.{map-set}
use Rattle.optra_rests.specs.Tables.{rest_in}
use Rattle.optra_rests.proofs.rest_table.RestTable.put.Goals as goal

pub returns-clause-rests : goal.returns-clause-rests
returns-clause-rests c =
    let items = c.args.self.now.rests.items in
    let fits : FitsSigned w128 c.cell_of.result = search rules in
    map-set rest_in items c.args.place _ ∙ ap (slice_set (map rest_in items) c.args.place) (ap rest_in (to_z-of_z w128 c.cell_of.result fits) ∙ c.cell_of.ensures)
