-- The path so far and what is left of the trace.
use Rattle.std.proofs.Common.{arith, refl, ◌∙◌, get_or}
use Rattle.optra_dag.proofs.Ways.{traced_step, traced_end, same_default}
use Rattle.optra_dag.proofs.searching.path_by.Goals as goal

pub at-node-requires : goal.at-node-requires
at-node-requires c = (traced_step c.args.arcs.now 4294967295 c.args.next.now c.loop-node.path.items c.loop-node.node _ c.loop-node.invariant.within refl c.loop-node-test.true c.loop-node.invariant.traced).0

pub loop-node-smaller : goal.loop-node-smaller
loop-node-smaller c =
    let s = traced_step c.args.arcs.now 4294967295 c.args.next.now c.loop-node.path.items c.loop-node.node _ c.loop-node.invariant.within refl c.loop-node-test.true c.loop-node.invariant.traced in
    let f = c.requires.forward (get_or c.args.next.now c.loop-node.node 0) s.0 in
    let from = s.1 in
    rw c.at-node.ensures (omega (arith, f.0, f.1))

pub loop-node-preserved : goal.loop-node-preserved
loop-node-preserved c =
    let s = traced_step c.args.arcs.now 4294967295 c.args.next.now c.loop-node.path.items c.loop-node.node _ c.loop-node.invariant.within refl c.loop-node-test.true c.loop-node.invariant.traced in
    let f = c.requires.forward (get_or c.args.next.now c.loop-node.node 0) s.0 in
    record {
      within = rw c.at-node.ensures f.1;
      traced = rw (c.at-node.ensures, c.in_ok-push.ensures.items) s.2;
    }

pub returns : goal.returns
returns c = traced_end c.args.arcs.now 4294967295 c.args.next.now c.loop-node.path.items c.loop-node.node c.requires.few
    (same_default c.args.next.now c.loop-node.node 4294967295 0 c.loop-node.invariant.within ∙ c.loop-node-test.false) c.loop-node.invariant.traced
