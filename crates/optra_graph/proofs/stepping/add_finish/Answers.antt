-- One step that finishes, where the walk may end.
use Rattle.std.proofs.Common.{rules}
use Rattle.optra_graph.proofs.StepLemmas.{finish_none, finish_push}
use Rattle.optra_graph.proofs.stepping.add_finish.Goals as goal

pub returns-then-not-may_finish-clause-steps : goal.returns-then-not-may_finish-clause-steps
returns-then-not-may_finish-clause-steps c = finish_none c.args.net.now c.args.bid.now.path c.args.layout c.requires.setting c.args.state c.requires.placed c.args.way c.requires.way c.args.steps.now.items c.requires.before (λ h. let t = c.may_finish.ensures.1 h in cc)

pub returns-clause-steps : goal.returns-clause-steps
returns-clause-steps c =
    let p = finish_push c.args.net.now c.args.bid.now.path c.args.layout c.requires.setting c.args.state c.requires.placed c.args.way c.requires.way c.args.steps.now.items c.requires.before (search rules) in
    rw (c.in_ok-push.ensures.items, c.make_leg.ensures, c.places.ensures.value) p
