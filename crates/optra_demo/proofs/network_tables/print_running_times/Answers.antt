use Rattle.std.proofs.Common.{◌≡◌, ℕ, ◌+◌, ◌-◌, ◌++◌, sym, ap, ◌∙◌, arith, slice_index}
use Rattle.optra_records.specs.Texts.{records_text}
use Rattle.optra_demo.specs.Networks.{running_rows, segment_running}
use Rattle.optra_demo.proofs.RowLemmas.{rows_kept}
use Rattle.optra_demo.proofs.network_tables.print_running_times.Goals as goal

pub segments-preserved : goal.segments-preserved
segments-preserved c =
    let e : c.segments.k + 1 - 1 ≡ c.segments.k = omega arith in
    let m : c.from.result ≡ slice_index c.args.minutes.now (c.segments.k + 1 - 1) = c.from.ensures ∙ ap (slice_index c.args.minutes.now) (sym e) in
    rows_kept (running_rows c.args.minutes.now) c.segments.k c.args.printer.now c.segments.printer c.print_running_of.new.printer c.segments.invariant
    (c.in_ok-print_running_of.ensures ∙ ap (λ (n : ℕ). c.segments.printer ++ records_text (segment_running (c.segments.k + 1) n)) m)
