use Rattle.std.proofs.Common.{◌∷◌, [], ◌++◌, ap, ◌∙◌}
use Rattle.std.specs.Prelude.{codes}
use Rattle.optra_records.specs.Reading.{Record}
use Rattle.optra_demo.specs.Names.{named}
use Rattle.optra_demo.proofs.RowLemmas.{station_shown}
use Rattle.optra_demo.proofs.network_tables.print_station.Goals as goal

pub print-requires : goal.print-requires
print-requires c =
    station_shown c.put_name.new.fields c.args.i
    (c.in_ok-put_name.ensures ∙ ap (λ (fields : Record). fields ++ named (codes "S") c.args.i ∷ []) c.clear.ensures)
