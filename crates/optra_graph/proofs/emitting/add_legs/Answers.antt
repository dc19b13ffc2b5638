-- One more row.
use Rattle.std.proofs.Common.{arith, refl, ◌≡◌, ◌∙◌, ◌+◌, ◌<◌, ap, sym, length, get_or}
use Rattle.optra_dag.specs.Paths.{no_arc}
use Rattle.optra_graph.specs.Nodes.{node_of}
use Rattle.optra_graph.specs.Places.{places_of}
use Rattle.optra_graph.specs.StepTables.{place_or, rows_of}
use Rattle.optra_graph.proofs.BlockLemmas.{emits_start, emits_to, emits_skip, emits_more}
use Rattle.optra_graph.proofs.BoundLemmas.{few_start}
use Rattle.optra_graph.proofs.LegLemmas.{steps_forward, steps_nodes, steps_short, arcs_sorted, legs_few, legs_same, few_to, arcs_room}
use Rattle.optra_graph.proofs.ReachLemmas.{steps_within}
use Rattle.optra_graph.proofs.TableLemmas.{steps_of, few_of, place_end, place_here, place_most, place_next, gap_first, gap_next}
use Rattle.optra_graph.proofs.emitting.add_legs.Goals as goal

pub loop-row-init : goal.loop-row-init
loop-row-init c = record {
  emits = rw c.requires.legs (emits_to c.args.net.now c.args.bid.now.path c.args.layout c.requires.setting c.args.kept.flags.now c.args.dag.now.arcs 0 (place_or c.args.table.now 0 (places_of c.args.layout)) _ _ (omega arith)
      (gap_first c.args.net.now c.args.bid.now.path c.args.layout (places_of c.args.layout) c.args.kept.flags.now c.args.table.now c.requires.steps) (emits_start c.args.net.now c.args.bid.now.path c.args.layout c.requires.setting c.args.kept.flags.now c.args.dag.now.arcs));
  ends = refl;
  few = rw c.requires.legs (few_to c.args.net.now c.args.bid.now.path c.args.layout c.requires.setting c.args.kept.flags.now 0 (place_or c.args.table.now 0 (places_of c.args.layout)) 0 (omega arith)
      (place_most c.args.net.now c.args.bid.now.path c.args.layout (places_of c.args.layout) c.args.kept.flags.now c.args.table.now c.requires.steps 0) (0, 0, few_start c.args.net.now.tracks c.args.layout));
}

pub place-place-requires : goal.place-place-requires
place-place-requires c = omega (arith, c.rows-row-end.ensures, c.loop-row-test.true)

pub of-requires : goal.of-requires
of-requires c = c.requires.steps.ranges c.loop-row.row (omega (arith, c.rows-row-end.ensures, c.loop-row-test.true))

pub loop-row-preserved-then-not-kept-place : goal.loop-row-preserved-then-not-kept-place
loop-row-preserved-then-not-kept-place c =
    let row = c.loop-row-test.true in
    let rows = c.rows-row-end.ensures in
    let r : c.loop-row.row < rows_of c.args.table.now = omega (arith, row, rows) in
    let w = c.requires.steps.within c.loop-row.row r in
    let l : c.place-place.result < places_of c.args.layout = omega (arith, w, c.place-place.ensures) in
    let here = place_here c.args.net.now c.args.bid.now.path c.args.layout (places_of c.args.layout) c.args.kept.flags.now c.args.table.now c.requires.steps c.loop-row.row r ∙ sym c.place-place.ensures in
    let next = rw (sym c.place-place.ensures) at (place_next c.args.net.now c.args.bid.now.path c.args.layout (places_of c.args.layout) c.args.kept.flags.now c.args.table.now c.requires.steps c.loop-row.row r) in
    let most = place_most c.args.net.now c.args.bid.now.path c.args.layout (places_of c.args.layout) c.args.kept.flags.now c.args.table.now c.requires.steps (c.loop-row.row + 1) in
    let none = rw (sym c.place-place.ensures) at (gap_next c.args.net.now c.args.bid.now.path c.args.layout (places_of c.args.layout) c.args.kept.flags.now c.args.table.now c.requires.steps c.loop-row.row r) in
    let i = c.loop-row.invariant in
    record {
      emits = emits_to c.args.net.now c.args.bid.now.path c.args.layout c.requires.setting c.args.kept.flags.now c.args.dag.now.arcs (c.place-place.result + 1) (place_or c.args.table.now (c.loop-row.row + 1) (places_of c.args.layout)) c.loop-row.dag.arcs c.loop-row.legs next none
          (emits_skip c.args.net.now c.args.bid.now.path c.args.layout c.requires.setting c.args.kept.flags.now c.args.dag.now.arcs c.place-place.result c.loop-row.dag.arcs c.loop-row.legs c.if-not-kept-place.true (rw here at i.emits));
      ends = i.ends;
      few = let count = rw here at i.few in few_to c.args.net.now c.args.bid.now.path c.args.layout c.requires.setting c.args.kept.flags.now (c.place-place.result + 1) (place_or c.args.table.now (c.loop-row.row + 1) (places_of c.args.layout)) (length c.loop-row.legs) next most
          (legs_same c.args.net.now c.args.bid.now.path c.args.layout c.requires.setting c.args.kept.flags.now c.place-place.result l count.0 count.1 (length c.loop-row.legs) count.2);
    }

pub add_arcs-requires-clause-within : goal.add_arcs-requires-clause-within
add_arcs-requires-clause-within c =
    let row = c.loop-row-test.true in
    let rows = c.rows-row-end.ensures in
    let r : c.loop-row.row < rows_of c.args.table.now = omega (arith, row, rows) in
    let w = c.requires.steps.within c.loop-row.row r in
    let l : c.place-place.result < places_of c.args.layout = omega (arith, w, c.place-place.ensures) in
    let here = place_here c.args.net.now c.args.bid.now.path c.args.layout (places_of c.args.layout) c.args.kept.flags.now c.args.table.now c.requires.steps c.loop-row.row r ∙ sym c.place-place.ensures in
    let all = steps_of c.args.net.now c.args.bid.now.path c.args.layout (places_of c.args.layout) c.args.kept.flags.now c.args.table.now c.requires.steps c.loop-row.row c.place-place.result c.of.result.now r c.place-place.ensures c.of.ensures in
    let few = few_of c.args.net.now c.args.bid.now.path c.args.layout (places_of c.args.layout) c.args.kept.flags.now c.args.table.now c.requires.steps c.loop-row.row c.place-place.result c.of.result.now r c.place-place.ensures c.of.ensures in
    let f = c.requires.flags in
    let n : get_or c.args.kept.numbers.now c.place-place.result 0 ≡ node_of c.args.kept.flags.now c.place-place.result = c.args.kept.numbered.each c.place-place.result c.if-not-kept-place.false in
    let emits = rw here at c.loop-row.invariant.emits in
    let count = rw here at c.loop-row.invariant.few in
    steps_within c.args.net.now c.args.bid.now.path c.args.layout c.requires.setting c.place-place.result c.args.kept.flags.now c.of.result.now l f all

pub add_arcs-requires-clause-dwells : goal.add_arcs-requires-clause-dwells
add_arcs-requires-clause-dwells c =
    let row = c.loop-row-test.true in
    let rows = c.rows-row-end.ensures in
    let r : c.loop-row.row < rows_of c.args.table.now = omega (arith, row, rows) in
    let w = c.requires.steps.within c.loop-row.row r in
    let l : c.place-place.result < places_of c.args.layout = omega (arith, w, c.place-place.ensures) in
    let all = steps_of c.args.net.now c.args.bid.now.path c.args.layout (places_of c.args.layout) c.args.kept.flags.now c.args.table.now c.requires.steps c.loop-row.row c.place-place.result c.of.result.now r c.place-place.ensures c.of.ensures in
    steps_short c.args.net.now c.args.bid.now.path c.args.layout c.requires.setting c.args.kept.flags.now c.place-place.result l c.of.result.now all

pub add_arcs-requires-clause-forward : goal.add_arcs-requires-clause-forward
add_arcs-requires-clause-forward c =
    let row = c.loop-row-test.true in
    let rows = c.rows-row-end.ensures in
    let r : c.loop-row.row < rows_of c.args.table.now = omega (arith, row, rows) in
    let w = c.requires.steps.within c.loop-row.row r in
    let l : c.place-place.result < places_of c.args.layout = omega (arith, w, c.place-place.ensures) in
    let here = place_here c.args.net.now c.args.bid.now.path c.args.layout (places_of c.args.layout) c.args.kept.flags.now c.args.table.now c.requires.steps c.loop-row.row r ∙ sym c.place-place.ensures in
    let all = steps_of c.args.net.now c.args.bid.now.path c.args.layout (places_of c.args.layout) c.args.kept.flags.now c.args.table.now c.requires.steps c.loop-row.row c.place-place.result c.of.result.now r c.place-place.ensures c.of.ensures in
    let few = few_of c.args.net.now c.args.bid.now.path c.args.layout (places_of c.args.layout) c.args.kept.flags.now c.args.table.now c.requires.steps c.loop-row.row c.place-place.result c.of.result.now r c.place-place.ensures c.of.ensures in
    let f = c.requires.flags in
    let n : get_or c.args.kept.numbers.now c.place-place.result 0 ≡ node_of c.args.kept.flags.now c.place-place.result = c.args.kept.numbered.each c.place-place.result c.if-not-kept-place.false in
    let emits = rw here at c.loop-row.invariant.emits in
    let count = rw here at c.loop-row.invariant.few in
    rw n (steps_forward c.args.net.now c.args.bid.now.path c.args.layout c.requires.setting c.args.kept.flags.now c.place-place.result l c.of.result.now all c.if-not-kept-place.false)

pub add_arcs-requires-clause-nodes : goal.add_arcs-requires-clause-nodes
add_arcs-requires-clause-nodes c =
    let row = c.loop-row-test.true in
    let rows = c.rows-row-end.ensures in
    let r : c.loop-row.row < rows_of c.args.table.now = omega (arith, row, rows) in
    let w = c.requires.steps.within c.loop-row.row r in
    let l : c.place-place.result < places_of c.args.layout = omega (arith, w, c.place-place.ensures) in
    let here = place_here c.args.net.now c.args.bid.now.path c.args.layout (places_of c.args.layout) c.args.kept.flags.now c.args.table.now c.requires.steps c.loop-row.row r ∙ sym c.place-place.ensures in
    let all = steps_of c.args.net.now c.args.bid.now.path c.args.layout (places_of c.args.layout) c.args.kept.flags.now c.args.table.now c.requires.steps c.loop-row.row c.place-place.result c.of.result.now r c.place-place.ensures c.of.ensures in
    let few = few_of c.args.net.now c.args.bid.now.path c.args.layout (places_of c.args.layout) c.args.kept.flags.now c.args.table.now c.requires.steps c.loop-row.row c.place-place.result c.of.result.now r c.place-place.ensures c.of.ensures in
    let f = c.requires.flags in
    let n : get_or c.args.kept.numbers.now c.place-place.result 0 ≡ node_of c.args.kept.flags.now c.place-place.result = c.args.kept.numbered.each c.place-place.result c.if-not-kept-place.false in
    let emits = rw here at c.loop-row.invariant.emits in
    let count = rw here at c.loop-row.invariant.few in
    steps_nodes c.args.net.now c.args.bid.now.path c.args.layout c.requires.setting c.args.kept.flags.now c.place-place.result l c.of.result.now (length c.loop-row.dag.ends) (ap length c.loop-row.invariant.ends ∙ c.requires.ends) all

pub add_arcs-requires-clause-sorted : goal.add_arcs-requires-clause-sorted
add_arcs-requires-clause-sorted c =
    let row = c.loop-row-test.true in
    let rows = c.rows-row-end.ensures in
    let r : c.loop-row.row < rows_of c.args.table.now = omega (arith, row, rows) in
    let w = c.requires.steps.within c.loop-row.row r in
    let l : c.place-place.result < places_of c.args.layout = omega (arith, w, c.place-place.ensures) in
    let here = place_here c.args.net.now c.args.bid.now.path c.args.layout (places_of c.args.layout) c.args.kept.flags.now c.args.table.now c.requires.steps c.loop-row.row r ∙ sym c.place-place.ensures in
    let all = steps_of c.args.net.now c.args.bid.now.path c.args.layout (places_of c.args.layout) c.args.kept.flags.now c.args.table.now c.requires.steps c.loop-row.row c.place-place.result c.of.result.now r c.place-place.ensures c.of.ensures in
    let few = few_of c.args.net.now c.args.bid.now.path c.args.layout (places_of c.args.layout) c.args.kept.flags.now c.args.table.now c.requires.steps c.loop-row.row c.place-place.result c.of.result.now r c.place-place.ensures c.of.ensures in
    let f = c.requires.flags in
    let n : get_or c.args.kept.numbers.now c.place-place.result 0 ≡ node_of c.args.kept.flags.now c.place-place.result = c.args.kept.numbered.each c.place-place.result c.if-not-kept-place.false in
    let emits = rw here at c.loop-row.invariant.emits in
    let count = rw here at c.loop-row.invariant.few in
    rw n (arcs_sorted c.args.net.now c.args.bid.now.path c.args.layout c.requires.setting c.args.kept.flags.now c.place-place.result l c.args.dag.now.arcs c.loop-row.dag.arcs c.loop-row.legs c.requires.starts emits)

pub add_arcs-requires-clause-room : goal.add_arcs-requires-clause-room
add_arcs-requires-clause-room c =
    let row = c.loop-row-test.true in
    let rows = c.rows-row-end.ensures in
    let r : c.loop-row.row < rows_of c.args.table.now = omega (arith, row, rows) in
    let w = c.requires.steps.within c.loop-row.row r in
    let l : c.place-place.result < places_of c.args.layout = omega (arith, w, c.place-place.ensures) in
    let here = place_here c.args.net.now c.args.bid.now.path c.args.layout (places_of c.args.layout) c.args.kept.flags.now c.args.table.now c.requires.steps c.loop-row.row r ∙ sym c.place-place.ensures in
    let all = steps_of c.args.net.now c.args.bid.now.path c.args.layout (places_of c.args.layout) c.args.kept.flags.now c.args.table.now c.requires.steps c.loop-row.row c.place-place.result c.of.result.now r c.place-place.ensures c.of.ensures in
    let few = few_of c.args.net.now c.args.bid.now.path c.args.layout (places_of c.args.layout) c.args.kept.flags.now c.args.table.now c.requires.steps c.loop-row.row c.place-place.result c.of.result.now r c.place-place.ensures c.of.ensures in
    let f = c.requires.flags in
    let n : get_or c.args.kept.numbers.now c.place-place.result 0 ≡ node_of c.args.kept.flags.now c.place-place.result = c.args.kept.numbered.each c.place-place.result c.if-not-kept-place.false in
    let emits = rw here at c.loop-row.invariant.emits in
    let count = rw here at c.loop-row.invariant.few in
    let made = emits.count in
    let first = c.requires.few in
    arcs_room c.args.net.now c.args.bid.now.path c.args.layout c.requires.setting c.args.kept.flags.now c.place-place.result l count.0 count.1 (length c.loop-row.legs) count.2 c.of.result.now few (length c.loop-row.dag.arcs) (omega (arith, made, first))

pub loop-row-preserved : goal.loop-row-preserved
loop-row-preserved c =
    let row = c.loop-row-test.true in
    let rows = c.rows-row-end.ensures in
    let r : c.loop-row.row < rows_of c.args.table.now = omega (arith, row, rows) in
    let w = c.requires.steps.within c.loop-row.row r in
    let l : c.place-place.result < places_of c.args.layout = omega (arith, w, c.place-place.ensures) in
    let here = place_here c.args.net.now c.args.bid.now.path c.args.layout (places_of c.args.layout) c.args.kept.flags.now c.args.table.now c.requires.steps c.loop-row.row r ∙ sym c.place-place.ensures in
    let all = steps_of c.args.net.now c.args.bid.now.path c.args.layout (places_of c.args.layout) c.args.kept.flags.now c.args.table.now c.requires.steps c.loop-row.row c.place-place.result c.of.result.now r c.place-place.ensures c.of.ensures in
    let few = few_of c.args.net.now c.args.bid.now.path c.args.layout (places_of c.args.layout) c.args.kept.flags.now c.args.table.now c.requires.steps c.loop-row.row c.place-place.result c.of.result.now r c.place-place.ensures c.of.ensures in
    let f = c.requires.flags in
    let n : get_or c.args.kept.numbers.now c.place-place.result 0 ≡ node_of c.args.kept.flags.now c.place-place.result = c.args.kept.numbered.each c.place-place.result c.if-not-kept-place.false in
    let emits = rw here at c.loop-row.invariant.emits in
    let count = rw here at c.loop-row.invariant.few in
    let next = rw (sym c.place-place.ensures) at (place_next c.args.net.now c.args.bid.now.path c.args.layout (places_of c.args.layout) c.args.kept.flags.now c.args.table.now c.requires.steps c.loop-row.row r) in
    let most = place_most c.args.net.now c.args.bid.now.path c.args.layout (places_of c.args.layout) c.args.kept.flags.now c.args.table.now c.requires.steps (c.loop-row.row + 1) in
    let none = rw (sym c.place-place.ensures) at (gap_next c.args.net.now c.args.bid.now.path c.args.layout (places_of c.args.layout) c.args.kept.flags.now c.args.table.now c.requires.steps c.loop-row.row r) in
    let i = c.loop-row.invariant in
    let e = emits_more c.args.net.now c.args.bid.now.path c.args.layout c.requires.setting c.args.kept.flags.now c.args.dag.now.arcs c.place-place.result l c.if-not-kept-place.false c.of.result.now all c.loop-row.dag.arcs c.loop-row.legs emits (λ k m. c.requires.starts k no_arc m) in
    record {
      emits = emits_to c.args.net.now c.args.bid.now.path c.args.layout c.requires.setting c.args.kept.flags.now c.args.dag.now.arcs (c.place-place.result + 1) (place_or c.args.table.now (c.loop-row.row + 1) (places_of c.args.layout)) _ _ next none
          (rw (c.in_ok-add_arcs.ensures.arcs, c.in_ok-add_arcs.ensures.legs, n) e);
      ends = c.in_ok-add_arcs.ensures.ends ∙ i.ends;
      few = rw (c.in_ok-add_arcs.ensures.legs) (few_to c.args.net.now c.args.bid.now.path c.args.layout c.requires.setting c.args.kept.flags.now (c.place-place.result + 1) (place_or c.args.table.now (c.loop-row.row + 1) (places_of c.args.layout)) _ next most
          (legs_few c.args.net.now c.args.bid.now.path c.args.layout c.requires.setting c.args.kept.flags.now c.place-place.result l count.0 count.1 (length c.loop-row.legs) count.2 c.of.result.now few c.loop-row.legs refl));
    }

pub returns-clause-arcs : goal.returns-clause-arcs
returns-clause-arcs c =
    let end = c.rows-row-end.ensures in
    let past = c.loop-row-test.false in
    let z = place_end c.args.net.now c.args.bid.now.path c.args.layout (places_of c.args.layout) c.args.kept.flags.now c.args.table.now c.requires.steps c.loop-row.row (omega (arith, end, past)) in
    rw z at c.loop-row.invariant.emits
