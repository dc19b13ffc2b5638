-- A halt for each dwell in the range of the next stop, ascending.
use Rattle.std.proofs.Common.{arith, ℕ, ◌+◌, ◌<◌, ◌≤◌, ◌⊎◌, subst, length, length-append, sym, ap, ◌∷◌, []}
use Rattle.optra_graph.proofs.StepLemmas.{halt_no_stop, halt_none, halt_start, halt_push, halt_end, halted_at, stop_small, dwell_over}
use Rattle.optra_graph.proofs.stepping.add_halts.Goals as goal

pub returns-in_default-clause-steps : goal.returns-in_default-clause-steps
returns-in_default-clause-steps c = halt_no_stop c.args.net.now c.args.bid.now.path c.args.layout c.requires.setting c.args.state c.requires.placed c.args.way c.requires.way c.args.steps.now.items c.requires.before (sym c.in_default.ensures)

pub returns-then-not-may_halt-clause-steps : goal.returns-then-not-may_halt-clause-steps
returns-then-not-may_halt-clause-steps c = halt_none c.args.net.now c.args.bid.now.path c.args.layout c.requires.setting c.args.state c.requires.placed c.args.way c.requires.way c.args.steps.now.items c.requires.before c.in-Some.stop (sym c.in-Some.ensures) (λ h. let t = c.may_halt.ensures.1 h in cc)

pub dwell_end-before-requires : goal.dwell_end-before-requires
dwell_end-before-requires c = let s = stop_small c.args.net.now c.args.bid.now.path c.args.layout c.requires.setting c.args.state c.requires.placed c.in-Some.stop (sym c.in-Some.ensures) in s.1

pub loop-dwell-init : goal.loop-dwell-init
loop-dwell-init c =
    let s = stop_small c.args.net.now c.args.bid.now.path c.args.layout c.requires.setting c.args.state c.requires.placed c.in-Some.stop (sym c.in-Some.ensures) in
    record { few = omega (arith, s.0, s.1); spread = omega arith; count = omega arith; below = halt_start c.args.net.now c.args.bid.now.path c.args.layout c.requires.setting c.args.state c.requires.placed c.args.way c.requires.way c.args.steps.now.items c.requires.before c.in-Some.stop (sym c.in-Some.ensures) (omega (arith, s.0, s.1)) }

pub make_step-requires-clause-placed : goal.make_step-requires-clause-placed
make_step-requires-clause-placed c =
    let s = stop_small c.args.net.now c.args.bid.now.path c.args.layout c.requires.setting c.args.state c.requires.placed c.in-Some.stop (sym c.in-Some.ensures) in
    let t = halted_at c.args.net.now c.args.bid.now.path c.args.layout c.requires.setting c.args.state c.requires.placed c.args.way c.requires.way c.loop-dwell.dwell s.2 (omega arith) in
    rw c.stand-after.ensures t.placed

pub loop-dwell-preserved : goal.loop-dwell-preserved
loop-dwell-preserved c =
    let s = stop_small c.args.net.now c.args.bid.now.path c.args.layout c.requires.setting c.args.state c.requires.placed c.in-Some.stop (sym c.in-Some.ensures) in
    let fits = c.may_halt.ensures.0 c.if-not-may_halt.false in
    let p = halt_push c.args.net.now c.args.bid.now.path c.args.layout c.requires.setting c.args.state c.requires.placed c.args.way c.requires.way c.loop-dwell.steps.items c.in-Some.stop c.loop-dwell.dwell (sym c.in-Some.ensures) fits (omega arith) (omega arith) s.1
    (halted_at c.args.net.now c.args.bid.now.path c.args.layout c.requires.setting c.args.state c.requires.placed c.args.way c.requires.way c.loop-dwell.dwell s.2 (omega arith)) c.loop-dwell.invariant.below in
    record { few = omega (arith, s.1); spread = omega (arith, s.3, s.0); count = let k = c.loop-dwell.invariant.count in let l = ap length c.in_ok-push.ensures.items in omega (arith, k, l, length-append c.loop-dwell.steps.items (c.make_step.result ∷ [])); below = rw (c.in_ok-push.ensures.items, c.make_step.ensures, c.stand-after.ensures) p }

pub returns-clause-steps : goal.returns-clause-steps
returns-clause-steps c =
    let s = stop_small c.args.net.now c.args.bid.now.path c.args.layout c.requires.setting c.args.state c.requires.placed c.in-Some.stop (sym c.in-Some.ensures) in
    halt_end c.args.net.now c.args.bid.now.path c.args.layout c.requires.setting c.args.state c.requires.placed c.args.way c.requires.way c.loop-dwell.steps.items c.in-Some.stop c.loop-dwell.dwell (sym c.in-Some.ensures) s.1 (let f = c.loop-dwell.invariant.few in omega (arith, f, s.1))
    (let t = c.deadline-deadline.ensures in subst (λ (n : ℕ). (c.in-Some.stop.max_dwell < c.loop-dwell.dwell) ⊎ (n ≤ c.args.way.halt + c.loop-dwell.dwell)) t (dwell_over c.in-Some.stop.max_dwell c.deadline-deadline.result c.args.way.halt c.loop-dwell.dwell (omega arith))) c.loop-dwell.invariant.below

pub returns-clause-few : goal.returns-clause-few
returns-clause-few c =
    let s = stop_small c.args.net.now c.args.bid.now.path c.args.layout c.requires.setting c.args.state c.requires.placed c.in-Some.stop (sym c.in-Some.ensures) in
    let f = c.loop-dwell.invariant.spread in
    let k = c.loop-dwell.invariant.count in
    omega (arith, f, k, s.0, s.1, s.3)
