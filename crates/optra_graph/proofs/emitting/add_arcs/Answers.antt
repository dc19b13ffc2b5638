-- The arc of one more step.
use Rattle.std.proofs.Common.{arith, ◌≤◌, ◌∙◌, ap, get_or, length, le_refl, length-append, ◌++◌, ◌∷◌, []}
use Rattle.std.proofs.lemmas.List.Elements.{All-push}
use Rattle.optra_dag.specs.declared.Arc.{Arc}
use Rattle.optra_graph.specs.Arcs.{arc_of, is_kept, leg_of_step}
use Rattle.optra_graph.specs.Steps.{no_step}
use Rattle.optra_graph.proofs.ListLemmas.{keep_step}
use Rattle.optra_graph.proofs.emitting.add_arcs.Goals as goal

pub loop-step-preserved : goal.loop-step-preserved
loop-step-preserved c = record {
  arcs = keep_step (arc_of c.args.kept.flags.now c.args.from) (is_kept c.args.kept.flags.now) c.args.steps.now c.loop-step.step-index no_step _ c.loop-step.dag.arcs _ c.loop-step-test.true c.if-not-kept-to.false c.loop-step.invariant.arcs
      (c.in_ok-arc.ensures.ok ∙ ap (λ n. c.loop-step.dag.arcs ++ record { from = c.args.from; to = n } ∷ []) (c.args.kept.numbered.each (get_or c.args.steps.now c.loop-step.step-index no_step).to c.if-not-kept-to.false));
  legs = keep_step leg_of_step (is_kept c.args.kept.flags.now) c.args.steps.now c.loop-step.step-index no_step _ c.loop-step.legs _ c.loop-step-test.true c.if-not-kept-to.false c.loop-step.invariant.legs c.in_ok-push.ensures;
  ends = c.in_ok-arc.ensures.ends ∙ c.loop-step.invariant.ends;
  sorted = rw c.in_ok-arc.ensures.ok (All-push (λ (before : Arc). before.from ≤ c.args.from) c.loop-step.dag.arcs _ c.loop-step.invariant.sorted (le_refl c.args.from));
  room = let e = ap length c.in_ok-arc.ensures.ok in let r = c.loop-step.invariant.room in omega (arith, length-append {A = Arc});
}
