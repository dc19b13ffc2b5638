use Rattle.std.proofs.Common.{take}
use Rattle.optra_network.specs.Tables.{HoldsTriples, found_headway}
use Rattle.optra_network.proofs.dense.headway_table.Given as goal

abbrev pub invariant-loop-i : goal.invariant-loop-i
invariant-loop-i l = HoldsTriples (found_headway (take l.i l.rows.entries)) l.tracks l.table.items
