use Rattle.optra_demo.specs.Networks.{track_rows}
use Rattle.optra_demo.proofs.RowLemmas.{rows_kept}
use Rattle.optra_demo.proofs.network_tables.print_segments.Goals as goal

pub segments-preserved : goal.segments-preserved
segments-preserved c = rows_kept track_rows c.segments.k c.args.printer.now c.segments.printer c.print_tracks.new.printer c.segments.invariant c.in_ok-print_tracks.ensures
