-- A wait for each dwell, ascending.
use Rattle.std.proofs.Common.{arith, length, length-append, ap, ◌∷◌, []}
use Rattle.optra_graph.proofs.StepLemmas.{wait_start, wait_push, wait_end, waited_at, dwell_over}
use Rattle.optra_graph.proofs.stepping.add_waits.Goals as goal

pub loop-dwell-init : goal.loop-dwell-init
loop-dwell-init c = record { few = omega arith; count = omega arith; below = wait_start c.args.net.now c.args.bid.now.path c.args.layout c.requires.setting c.args.state c.requires.placed c.args.way c.requires.way c.args.steps.now.items c.requires.before }

pub make_step-requires-clause-placed : goal.make_step-requires-clause-placed
make_step-requires-clause-placed c =
    let t = waited_at c.args.net.now c.args.bid.now.path c.args.layout c.requires.setting c.args.state c.requires.placed c.args.way c.requires.way c.loop-dwell.dwell (omega arith) in
    rw c.stand-after.ensures t.placed

pub loop-dwell-preserved : goal.loop-dwell-preserved
loop-dwell-preserved c =
    let p = wait_push c.args.net.now c.args.bid.now.path c.args.layout c.requires.setting c.args.state c.requires.placed c.args.way c.requires.way c.loop-dwell.steps.items c.loop-dwell.dwell (omega arith) (omega arith) (waited_at c.args.net.now c.args.bid.now.path c.args.layout c.requires.setting c.args.state c.requires.placed c.args.way c.requires.way c.loop-dwell.dwell (omega arith)) c.loop-dwell.invariant.below in
    record { few = omega arith; count = let k = c.loop-dwell.invariant.count in let l = ap length c.in_ok-push.ensures.items in omega (arith, k, l, length-append c.loop-dwell.steps.items (c.make_step.result ∷ [])); below = rw (c.in_ok-push.ensures.items, c.make_step.ensures, c.stand-after.ensures) p }

pub returns-clause-steps : goal.returns-clause-steps
returns-clause-steps c = wait_end c.args.net.now c.args.bid.now.path c.args.layout c.requires.setting c.args.state c.requires.placed c.args.way c.requires.way c.loop-dwell.steps.items c.loop-dwell.dwell (let f = c.loop-dwell.invariant.few in let m = c.requires.setting.wait_max in omega (arith, f, m)) (dwell_over c.args.bid.now.path.wait_max c.args.way.deadline c.args.way.halt c.loop-dwell.dwell (omega arith)) c.loop-dwell.invariant.below

pub returns-clause-few : goal.returns-clause-few
returns-clause-few c = let f = c.loop-dwell.invariant.few in let k = c.loop-dwell.invariant.count in let m = c.requires.setting.wait_max in omega (arith, f, k, m)
