use Rattle.optra_demo.specs.Networks.{headway_rows}
use Rattle.optra_demo.proofs.RowLemmas.{rows_kept}
use Rattle.optra_demo.proofs.network_tables.print_all_headways.Goals as goal

pub segments-preserved : goal.segments-preserved
segments-preserved c = rows_kept headway_rows c.segments.k c.args.printer.now c.segments.printer c.print_headways_of.new.printer c.segments.invariant c.in_ok-print_headways_of.ensures
