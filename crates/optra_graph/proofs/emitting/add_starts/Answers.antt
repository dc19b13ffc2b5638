-- One more minute.
use Rattle.std.proofs.Common.{arith, refl, ◌≡◌, ◌∙◌, ◌+◌, ◌∷◌, [], ap, sym, length, length-append}
use Rattle.std.proofs.lemmas.List.{length-map}
use Rattle.optra_graph.specs.Arcs.{IsKeptStart, start_arc}
use Rattle.optra_graph.specs.Flags.{is_set}
use Rattle.optra_walk.specs.Moves.{start_state}
use Rattle.optra_graph.specs.Nodes.{node_of}
use Rattle.optra_graph.specs.Places.{deadline_of, place_of, places_of}
use Rattle.optra_graph.proofs.EmitLemmas.{starts_nil, starts_skip, starts_push, starts_end, starts_from}
use Rattle.optra_graph.proofs.FlagLemmas.{far_start}
use Rattle.optra_graph.proofs.NodeLemmas.{kept_up}
use Rattle.optra_graph.proofs.ReachLemmas.{start_timely}
use Rattle.optra_graph.proofs.emitting.add_starts.Goals as goal

pub loop-minute-init : goal.loop-minute-init
loop-minute-init c = record {
  starts = rw (c.requires.arcs, c.requires.minutes) (starts_nil c.args.bid.now.path c.args.layout c.args.kept.flags.now c.requires.setting.laid.first);
  ends = refl;
  few = let e = ap length c.requires.minutes in omega arith;
  end = omega arith;
}

pub place-place-requires-clause-placed : goal.place-place-requires-clause-placed
place-place-requires-clause-placed c = let t = start_timely c.args.net.now c.args.bid.now.path c.args.layout c.requires.setting c.loop-minute.minute (omega arith) (omega arith) in rw c.make_start.ensures t.placed

pub loop-minute-preserved-then-not-kept-place : goal.loop-minute-preserved-then-not-kept-place
loop-minute-preserved-then-not-kept-place c =
    let e : c.place-place.result ≡ place_of c.args.layout (start_state c.args.bid.now.path c.loop-minute.minute) = c.place-place.ensures.value ∙ ap (place_of c.args.layout) c.make_start.ensures in
    let i = c.loop-minute.invariant in
    let t = start_timely c.args.net.now c.args.bid.now.path c.args.layout c.requires.setting c.loop-minute.minute (omega arith) (omega arith) in
    let late = t.placed.late in
    record {
      starts = starts_skip c.args.bid.now.path c.args.layout c.args.kept.flags.now c.loop-minute.minute c.loop-minute.dag.arcs c.loop-minute.minutes.items (ap (is_set c.args.kept.flags.now) (sym e) ∙ c.if-not-kept-place.true) i.starts;
      ends = i.ends;
      few = let f = i.few in omega arith;
      end = omega (arith, late);
    }

pub arc-requires-clause-node : goal.arc-requires-clause-node
arc-requires-clause-node c =
    let b = c.place-place.ensures.within in
    let f = c.requires.flags in
    let n = c.args.kept.numbered.each c.place-place.result c.if-not-kept-place.false in
    let u = kept_up c.args.kept.flags.now c.place-place.result (places_of c.args.layout) (omega (arith, b)) in
    let e = ap length c.loop-minute.invariant.ends in
    let g = c.requires.ends in
    omega (arith, n, u, e, g)

pub arc-requires-clause-sorted : goal.arc-requires-clause-sorted
arc-requires-clause-sorted c = λ k d l. let z = starts_from c.args.bid.now.path c.args.layout c.args.kept.flags.now c.loop-minute.minute c.loop-minute.dag.arcs c.loop-minute.minutes.items c.loop-minute.invariant.starts k d l in omega (arith, z)

pub arc-requires-clause-room : goal.arc-requires-clause-room
arc-requires-clause-room c =
    let i = c.loop-minute.invariant in
    let f = i.few in
    let end = i.end in
    let small = c.requires.setting.small.end in
    let m = ap length i.starts.made in
    omega (arith, f, end, small, m, length-map c.loop-minute.minutes.items (start_arc c.args.bid.now.path c.args.layout c.args.kept.flags.now))

pub loop-minute-preserved : goal.loop-minute-preserved
loop-minute-preserved c =
    let e : c.place-place.result ≡ place_of c.args.layout (start_state c.args.bid.now.path c.loop-minute.minute) = c.place-place.ensures.value ∙ ap (place_of c.args.layout) c.make_start.ensures in
    let i = c.loop-minute.invariant in
    let b = c.place-place.ensures.within in
    let f = c.requires.flags in
    let n = c.args.kept.numbered.each c.place-place.result c.if-not-kept-place.false ∙ ap (node_of c.args.kept.flags.now) e in
    let first = c.requires.setting.laid.first in
    let is : IsKeptStart c.args.bid.now.path c.args.layout c.args.kept.flags.now c.loop-minute.minute = record {
      within = (omega arith, omega arith);
      timely = start_timely c.args.net.now c.args.bid.now.path c.args.layout c.requires.setting c.loop-minute.minute (omega arith) (omega arith);
      kept = ap (is_set c.args.kept.flags.now) (sym e) ∙ c.if-not-kept-place.false;
    } in
    let p = starts_push c.args.bid.now.path c.args.layout c.args.kept.flags.now c.loop-minute.minute c.loop-minute.dag.arcs c.loop-minute.minutes.items is i.starts in
    record {
      starts = rw (c.in_ok-arc.ensures.ok, c.in_ok-push.ensures.items, n) p;
      ends = c.in_ok-arc.ensures.ends ∙ i.ends;
      few = let g = i.few in let l = ap length c.in_ok-push.ensures.items in omega (arith, g, l, length-append c.loop-minute.minutes.items (c.loop-minute.minute ∷ []));
      end = omega arith;
    }

pub returns-clause-starts : goal.returns-clause-starts
returns-clause-starts c = starts_end c.args.bid.now.path c.args.layout c.args.kept.flags.now c.loop-minute.minute (c.args.layout.first + c.args.layout.minutes) c.loop-minute.dag.arcs c.loop-minute.minutes.items c.loop-minute.invariant.end
    (far_start c.args.bid.now.path.depart.to (deadline_of c.args.layout 0 c.args.bid.now.path.origin) c.loop-minute.minute (omega arith)) c.loop-minute.invariant.starts
