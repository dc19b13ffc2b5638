-- One step that passes, where it departs before the deadline.
use Rattle.std.proofs.Common.{arith}
use Rattle.optra_graph.proofs.StepLemmas.{pass_none, pass_push, passed_at}
use Rattle.optra_graph.proofs.stepping.add_pass.Goals as goal

pub returns-then-way-clause-steps : goal.returns-then-way-clause-steps
returns-then-way-clause-steps c = pass_none c.args.net.now c.args.bid.now.path c.args.layout c.requires.setting c.args.state c.requires.placed c.args.way c.requires.way c.args.steps.now.items c.requires.before (omega arith)

pub make_step-requires-clause-placed : goal.make_step-requires-clause-placed
make_step-requires-clause-placed c = let t = passed_at c.args.net.now c.args.bid.now.path c.args.layout c.requires.setting c.args.state c.requires.placed c.args.way c.requires.way (omega arith) in t.placed

pub returns-clause-steps : goal.returns-clause-steps
returns-clause-steps c =
    let p = pass_push c.args.net.now c.args.bid.now.path c.args.layout c.requires.setting c.args.state c.requires.placed c.args.way c.requires.way c.args.steps.now.items c.requires.before (passed_at c.args.net.now c.args.bid.now.path c.args.layout c.requires.setting c.args.state c.requires.placed c.args.way c.requires.way (omega arith)) in
    rw (c.in_ok-push.ensures.items, c.make_step.ensures) p
