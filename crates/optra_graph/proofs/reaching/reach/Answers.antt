-- One more place.
use Rattle.std.proofs.Common.{rules, arith, ◌+◌, ◌*◌, ◌<◌, ◌≤◌, subst, length}
use Rattle.optra_walk.specs.declared.state.State.{State}
use Rattle.optra_graph.specs.Flags.{IsNext, Marks}
use Rattle.optra_graph.specs.Places.{places_of, state_of}
use Rattle.optra_network.specs.Net.{out_tracks_of}
use Rattle.optra_graph.specs.Steps.{AreSteps}
use Rattle.optra_graph.specs.StepTables.{IsGrown}
use Rattle.optra_graph.proofs.ReachLemmas.{marks_later, reached_start, reached_to, reached_more, reached_all, steps_within}
use Rattle.optra_graph.proofs.TableLemmas.{table_start, table_more, table_to}
use Rattle.optra_graph.proofs.reaching.reach.Goals as goal

pub loop-place-init : goal.loop-place-init
loop-place-init c =
    let v = c.places-end.ensures.value in
    let next : IsNext c.mark_starts.new.flags.items 0 c.places-end.result c.next_set-place.result = rw c.deref.ensures.value at c.next_set-place.ensures in
    let within = next.within in
    record {
      reached = reached_to c.args.net.now c.args.bid.now.path c.args.layout c.requires.setting 0 c.next_set-place.result c.mark_starts.new.flags.items next.passed
          (reached_start c.args.net.now c.args.bid.now.path c.args.layout c.requires.setting c.resize.new.self.items c.mark_starts.new.flags.items (search rules) (search rules) c.mark_starts.ensures);
      steps = table_to c.args.net.now c.args.bid.now.path c.args.layout 0 c.next_set-place.result c.mark_starts.new.flags.items c.clear.new.self next.later next.passed
          (table_start c.args.net.now c.args.bid.now.path c.args.layout c.mark_starts.new.flags.items c.clear.new.self c.in_ok-clear.ensures);
      strip = c.first-strip.ensures.strip;
      before = omega (arith, c.first-strip.ensures.start);
      within = omega (arith, v, within);
      set = λ l. next.set (omega (arith, v, l));
    }

pub mark-requires : goal.mark-requires
mark-requires c =
    let all : AreSteps c.args.net.now c.args.bid.now.path c.args.layout (state_of c.args.layout c.loop-place.place) c.fill_steps.new.steps.items =
    subst (λ (s : State). AreSteps c.args.net.now c.args.bid.now.path c.args.layout s c.fill_steps.new.steps.items) c.state.ensures.value c.in_ok-fill_steps.ensures.steps in
    rw c.deref-in-loop-place.ensures.value (steps_within c.args.net.now c.args.bid.now.path c.args.layout c.requires.setting c.loop-place.place c.loop-place.flags.items c.fill_steps.new.steps.items (omega (arith, c.places-end.ensures.value, c.loop-place-test.true)) c.loop-place.invariant.reached.len all)

pub loop-place-preserved : goal.loop-place-preserved
loop-place-preserved c =
    let v = c.places-end.ensures.value in
    let l : c.loop-place.place < places_of c.args.layout = omega (arith, v, c.loop-place-test.true) in
    let all : AreSteps c.args.net.now c.args.bid.now.path c.args.layout (state_of c.args.layout c.loop-place.place) c.fill_steps.new.steps.items =
    subst (λ (s : State). AreSteps c.args.net.now c.args.bid.now.path c.args.layout s c.fill_steps.new.steps.items) c.state.ensures.value c.in_ok-fill_steps.ensures.steps in
    let few = subst (λ (s : State). length c.fill_steps.new.steps.items ≤ 63 * length (out_tracks_of c.args.net.now.tracks s.station)) c.state.ensures.value c.in_ok-fill_steps.ensures.few in
    let marks : Marks c.fill_steps.new.steps.items c.loop-place.flags.items c.mark.new.flags.items = rw c.deref-in-loop-place.ensures.value at c.mark.ensures in
    let grown : IsGrown c.loop-place.table c.loop-place.place c.fill_steps.new.steps.items c.add.new.self = rw c.deref-in-loop-place-2.ensures.value at c.in_ok-add.ensures in
    let next : IsNext c.mark.new.flags.items (c.loop-place.place + 1) c.places-end.result c.next_set-place-in-loop-place.result = rw c.deref-in-loop-place-3.ensures.value at c.next_set-place-in-loop-place.ensures in
    let within = next.within in
    record {
      reached = reached_to c.args.net.now c.args.bid.now.path c.args.layout c.requires.setting (c.loop-place.place + 1) c.next_set-place-in-loop-place.result c.mark.new.flags.items next.passed
          (reached_more c.args.net.now c.args.bid.now.path c.args.layout c.requires.setting c.loop-place.place c.fill_steps.new.steps.items c.loop-place.flags.items c.mark.new.flags.items l (c.loop-place.invariant.set l) all marks c.loop-place.invariant.reached);
      steps = table_to c.args.net.now c.args.bid.now.path c.args.layout (c.loop-place.place + 1) c.next_set-place-in-loop-place.result c.mark.new.flags.items c.add.new.self next.later next.passed
          (table_more c.args.net.now c.args.bid.now.path c.args.layout c.loop-place.place c.loop-place.flags.items c.mark.new.flags.items c.loop-place.table c.add.new.self c.fill_steps.new.steps.items
          (marks_later c.args.net.now c.args.bid.now.path c.args.layout c.requires.setting c.loop-place.place c.fill_steps.new.steps.items c.loop-place.flags.items c.mark.new.flags.items l all marks)
          c.loop-place.invariant.steps grown all few);
      strip = c.at-strip.ensures.strip;
      before = let here = c.at-strip.ensures.within.from in let later = next.later in omega (arith, here, later);
      within = omega (arith, v, within);
      set = λ m. next.set (omega (arith, v, m));
    }

pub returns-clause-flags : goal.returns-clause-flags
returns-clause-flags c = reached_all c.args.net.now c.args.bid.now.path c.args.layout c.requires.setting c.loop-place.flags.items c.loop-place.place (omega (arith, c.places-end.ensures.value, c.loop-place-test.false)) c.loop-place.invariant.reached
