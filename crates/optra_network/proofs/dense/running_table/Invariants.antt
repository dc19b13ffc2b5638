use Rattle.std.proofs.Common.{take}
use Rattle.optra_network.specs.Tables.{HoldsPairs, found_times}
use Rattle.optra_network.proofs.dense.running_table.Given as goal

abbrev pub invariant-loop-i : goal.invariant-loop-i
invariant-loop-i l = HoldsPairs (found_times (take l.i l.rows.entries)) l.tracks l.table.items
