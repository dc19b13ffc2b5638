-- A way, by the running times of its track.
use Rattle.std.proofs.Common.{rules, arith, refl, ◌≡◌, Some, true, false}
use Rattle.std.specs.Option.{option_map}
use Rattle.optra_network.specs.Net.{times_of, minutes_by}
use Rattle.optra_rests.proofs.WayLemmas.{run_within, run_some, run_arrival, head_within}
use Rattle.optra_rests.proofs.ways.find_way.Goals as goal

pub overflow_add-result : goal.overflow_add-result
overflow_add-result c =
    let e : option_map (minutes_by c.args.state.halted false) (times_of c.args.net.now c.args.track c.args.bid.now.path.kind) ≡ Some c.in_ok-pass.pass = search rules in
    let w = run_within c.args.net.now c.args.track c.args.bid.now.path.kind c.args.state.halted false c.in_ok-pass.pass c.requires.proper e in
    omega (arith, w.1)

pub overflow_add-result-2 : goal.overflow_add-result-2
overflow_add-result-2 c =
    let e : option_map (minutes_by c.args.state.halted true) (times_of c.args.net.now c.args.track c.args.bid.now.path.kind) ≡ Some c.in_ok-halt.halt = search rules in
    let w = run_within c.args.net.now c.args.track c.args.bid.now.path.kind c.args.state.halted true c.in_ok-halt.halt c.requires.proper e in
    omega (arith, w.1)

pub returns : goal.returns
returns c =
    let e : option_map (minutes_by c.args.state.halted false) (times_of c.args.net.now c.args.track c.args.bid.now.path.kind) ≡ Some c.in_ok-pass.pass = search rules in
    let f : option_map (minutes_by c.args.state.halted true) (times_of c.args.net.now c.args.track c.args.bid.now.path.kind) ≡ Some c.in_ok-halt.halt = search rules in
    let w = run_within c.args.net.now c.args.track c.args.bid.now.path.kind c.args.state.halted false c.in_ok-pass.pass c.requires.proper e in
    let v = run_within c.args.net.now c.args.track c.args.bid.now.path.kind c.args.state.halted true c.in_ok-halt.halt c.requires.proper f in (
      refl,
      refl,
      record {
        tail = c.requires.tail;
        head = c.head.ensures.head;
        station = head_within c.args.net.now c.args.track.0 c.head.result c.requires.proper c.head.ensures.head;
        may_use = run_some (times_of c.args.net.now c.args.track c.args.bid.now.path.kind) c.args.state.halted false c.in_ok-pass.pass e;
        pass = run_arrival (times_of c.args.net.now c.args.track c.args.bid.now.path.kind) c.args.state.halted false c.in_ok-pass.pass c.args.state.minute e;
        halt = run_arrival (times_of c.args.net.now c.args.track c.args.bid.now.path.kind) c.args.state.halted true c.in_ok-halt.halt c.args.state.minute f;
        pass_later = omega (arith, w.0);
        halt_later = omega (arith, v.0);
        pass_bound = omega (arith, w.1);
        halt_bound = omega (arith, v.1);
      },
    )
