-- One more step.
use Rattle.std.proofs.Common.{arith}
use Rattle.optra_graph.proofs.FlagLemmas.{marks_more}
use Rattle.optra_graph.specs.Steps.{no_step}
use Rattle.optra_graph.proofs.reaching.mark.Goals as goal

pub loop-step-preserved : goal.loop-step-preserved
loop-step-preserved c =
    let n = c.loop-step.invariant.len in
    marks_more c.args.steps.now c.loop-step.step-index no_step c.args.flags.now.items c.loop-step.flags.items c.loop-step-test.true
    (omega (arith, n, c.requires c.loop-step.step-index no_step c.loop-step-test.true)) c.loop-step.invariant
