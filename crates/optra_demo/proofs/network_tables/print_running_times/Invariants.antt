use Rattle.std.proofs.Common.{◌≡◌, ◌++◌}
use Rattle.std.specs.List.{flat_map, range_with_len}
use Rattle.optra_records.specs.Texts.{records_text}
use Rattle.optra_demo.specs.Networks.{running_rows}
use Rattle.optra_demo.proofs.network_tables.print_running_times.Given as goal

abbrev pub invariant-segments : goal.invariant-segments
invariant-segments l = l.printer ≡ l.initial.printer ++ records_text (flat_map (running_rows l.minutes) (range_with_len 1 l.k))
