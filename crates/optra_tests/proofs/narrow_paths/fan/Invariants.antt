-- The graph stays.
use Rattle.std.proofs.Common.{◌≡◌, ◌≤◌, length}
use Rattle.optra_tests.proofs.narrow_paths.fan.Given as goal

abbrev pub invariant-loop-node : goal.invariant-loop-node
invariant-loop-node l = record { arcs : length l.dag.arcs ≤ 10; ends : length l.dag.ends ≡ 5 }
