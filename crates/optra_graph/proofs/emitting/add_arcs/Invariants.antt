-- The arcs of the steps so far stand there.
use Rattle.std.proofs.Common.{◌≡◌, ◌+◌, ◌≤◌, ◌++◌, All, length, map, filter, take}
use Rattle.optra_graph.specs.Arcs.{arc_of, is_kept, leg_of_step}
use Rattle.optra_graph.proofs.emitting.add_arcs.Given as goal

abbrev pub invariant-loop-step : goal.invariant-loop-step
invariant-loop-step l = record {
  arcs : l.dag.arcs ≡ l.initial.dag.arcs ++ map (arc_of l.kept.flags.now l.from) (filter (is_kept l.kept.flags.now) (take l.step-index l.steps));
  legs : l.legs ≡ l.initial.legs ++ map leg_of_step (filter (is_kept l.kept.flags.now) (take l.step-index l.steps));
  ends : l.dag.ends ≡ l.initial.dag.ends;
  sorted : All (λ before. before.from ≤ l.from) l.dag.arcs;
  room : length l.dag.arcs ≤ length l.initial.dag.arcs + l.step-index;
}
