-- One more arc of the path.
use Rattle.std.proofs.Common.{rules, arith, w64, FitsSigned, to_z-of_z, get_or, pos}
use Rattle.optra_dag.proofs.NarrowWays.{can_be_summed, some_gives, next_reached, next_inside, next_later, next_before, finished}
use Rattle.optra_dag.proofs.narrow.trace.Goals as goal

pub first_arc_by-number-requires-clause-sums : goal.first_arc_by-number-requires-clause-sums
first_arc_by-number-requires-clause-sums g c =
    let span = rw c.len.ensures at c.of-span.ensures in
    rw span (can_be_summed c.args.arcs.now c.args.ends.now c.args.starts.now _ _ c.args.most c.requires.narrow c.args.sums.now 0 c.nodes.node c.requires.long c.nodes.invariant.within (omega arith) c.requires.summed)

pub first_arc_by-number-requires-clause-one : goal.first_arc_by-number-requires-clause-one
first_arc_by-number-requires-clause-one g c =
    let sum : FitsSigned w64 (get_or c.args.sums.now c.nodes.node (pos 0)) = search rules in
    let on = c.nodes-test.true in
    let span = rw c.len.ensures at c.of-span.ensures in
    rw span (simp to_z-of_z (some_gives c.args.arcs.now c.args.ends.now c.args.starts.now _ _ c.args.most c.requires.narrow c.args.sums.now c.nodes.node c.nodes.invariant.within c.requires.summed c.nodes.invariant.reached
    (λ o. let t = c.is_over.ensures.1 o in cc)))

pub nodes-smaller : goal.nodes-smaller
nodes-smaller g c =
    let sum : FitsSigned w64 (get_or c.args.sums.now c.nodes.node (pos 0)) = search rules in
    let span = rw c.len.ensures at c.of-span.ensures in
    let first = simp to_z-of_z at (rw span at c.first_arc_by-number.ensures) in
    let later = next_later c.args.arcs.now c.args.ends.now c.args.starts.now _ _ c.args.most c.requires.narrow c.args.sums.now c.nodes.node c.first_arc_by-number.result c.nodes.invariant.within c.requires.summed c.nodes.invariant.reached first in
    let inside = next_inside c.args.arcs.now c.args.ends.now c.args.starts.now _ _ c.args.most c.requires.narrow c.args.sums.now c.nodes.node c.first_arc_by-number.result c.nodes.invariant.within c.requires.summed c.nodes.invariant.reached first in
    rw c.at-node.ensures (omega arith)

pub nodes-preserved : goal.nodes-preserved
nodes-preserved g c =
    let sum : FitsSigned w64 (get_or c.args.sums.now c.nodes.node (pos 0)) = search rules in
    let span = rw c.len.ensures at c.of-span.ensures in
    let first = simp to_z-of_z at (rw span at c.first_arc_by-number.ensures) in
    let on = c.nodes-test.true in
    record {
      within = rw c.at-node.ensures (next_inside c.args.arcs.now c.args.ends.now c.args.starts.now _ _ c.args.most c.requires.narrow c.args.sums.now c.nodes.node c.first_arc_by-number.result c.nodes.invariant.within c.requires.summed c.nodes.invariant.reached first);
      reached = rw c.at-node.ensures (next_reached c.args.arcs.now c.args.ends.now c.args.starts.now _ _ c.args.most c.requires.narrow c.args.sums.now c.nodes.node c.first_arc_by-number.result c.nodes.invariant.within c.requires.summed c.nodes.invariant.reached first);
      before = rw (c.at-node.ensures, c.in_ok-push.ensures.items)
          (next_before c.args.arcs.now c.args.ends.now c.args.starts.now _ _ c.args.most c.requires.narrow c.args.sums.now c.nodes.node c.first_arc_by-number.result c.nodes.invariant.within c.requires.summed c.nodes.invariant.reached first
          (λ o. let t = c.is_over.ensures.1 o in cc) c.nodes.path.items c.nodes.invariant.before);
    }

pub returns : goal.returns
returns g c = finished c.args.arcs.now c.args.ends.now c.args.starts.now _ _ c.args.most c.requires.narrow c.args.sums.now c.nodes.node c.nodes.path.items (c.is_over.ensures.0 c.nodes-test.false) c.nodes.invariant.reached c.nodes.invariant.before
