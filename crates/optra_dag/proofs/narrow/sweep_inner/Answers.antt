-- One more arc, where the sum of the last arc's node is at hand.
use Rattle.std.proofs.Common.{◌<◌, length, inr, refl, get_or-set_same, rules, arith, ap, sym, subst, length-set, ◌-◌, ◌∙◌, w64, FitsSigned, to_z-of_z, ◌+ℤ◌, get_or, pos}
use Rattle.optra_dag.specs.Paths.{no_arc}
use Rattle.optra_dag.proofs.NarrowLoops.{value_by, max_is}
use Rattle.optra_dag.proofs.NarrowWays.{before_is, fits_next, from_inside, best_next, all_summed}
use Rattle.optra_dag.proofs.narrow.sweep_inner.Goals as goal

pub overflow_add-sum : goal.overflow_add-sum
overflow_add-sum g c =
    let some = c.arcs-test.true in
    let few = c.arcs.invariant.few in
    let v = value_by (g.W.NarrowWeight.allows c.args.weight.now (c.arcs.left - 1)) (g.W.NarrowWeight.weight c.args.weight.now (c.arcs.left - 1)) c.of.result (rw c.copied-held.ensures at c.of.ensures.allowed) (rw c.copied-held.ensures at c.of.ensures.other) in
    let w : FitsSigned w64 c.of.result = search rules in
    let rest : FitsSigned w64 (get_or c.arcs.sums (get_or c.args.arcs.now (c.arcs.left - 1) no_arc).to (pos 0)) = search rules in
    let fits = fits_next c.args.arcs.now c.args.ends.now c.args.starts.now _ _ c.args.most c.requires.narrow c.arcs.sums c.arcs.left (c.arcs.left - 1) (omega arith) (omega arith) c.arcs.invariant.best in
    rw c.at-from.ensures (simp to_z-of_z (subst (λ z. FitsSigned w64 (z +ℤ get_or c.arcs.sums (get_or c.args.arcs.now (c.arcs.left - 1) no_arc).to (pos 0))) (sym v) fits))

pub bounds-sums-from : goal.bounds-sums-from
bounds-sums-from g c =
    let some = c.arcs-test.true in
    let few = c.arcs.invariant.few in
    let within = from_inside c.args.arcs.now c.args.ends.now c.args.starts.now _ _ c.args.most c.requires.narrow (c.arcs.left - 1) (omega arith) in
    let long = c.arcs.invariant.long in
    rw c.at-from.ensures (omega arith)

pub arcs-preserved : goal.arcs-preserved
arcs-preserved g c =
    let some = c.arcs-test.true in
    let few = c.arcs.invariant.few in
    let v = value_by (g.W.NarrowWeight.allows c.args.weight.now (c.arcs.left - 1)) (g.W.NarrowWeight.weight c.args.weight.now (c.arcs.left - 1)) c.of.result (rw c.copied-held.ensures at c.of.ensures.allowed) (rw c.copied-held.ensures at c.of.ensures.other) in
    let w : FitsSigned w64 c.of.result = search rules in
    let rest : FitsSigned w64 (get_or c.arcs.sums (get_or c.args.arcs.now (c.arcs.left - 1) no_arc).to (pos 0)) = search rules in
    let fits = fits_next c.args.arcs.now c.args.ends.now c.args.starts.now _ _ c.args.most c.requires.narrow c.arcs.sums c.arcs.left (c.arcs.left - 1) (omega arith) (omega arith) c.arcs.invariant.best in
    let sum : FitsSigned w64 (c.of.result +ℤ get_or c.arcs.sums (get_or c.args.arcs.now (c.arcs.left - 1) no_arc).to (pos 0)) =
    subst (λ z. FitsSigned w64 (z +ℤ get_or c.arcs.sums (get_or c.args.arcs.now (c.arcs.left - 1) no_arc).to (pos 0))) (sym v) fits in
    let e = ap (λ z. z +ℤ get_or c.arcs.sums (get_or c.args.arcs.now (c.arcs.left - 1) no_arc).to (pos 0)) v in
    let new : FitsSigned w64 c.max-best.result = search rules in
    let kept : FitsSigned w64 c.arcs.best = search rules in
    let shut = c.requires.inner (c.arcs.left - 1) (omega arith) in
    let same = rw c.at-from.ensures at c.sum_before.ensures.same in
    let off = rw c.at-from.ensures at c.sum_before.ensures.other in
    let was = before_is c.args.arcs.now c.args.ends.now c.args.starts.now _ _ c.args.most c.requires.narrow c.arcs.sums c.arcs.left (c.arcs.left - 1) c.arcs.node _ c.sum_before.result
    (omega arith) (omega arith) c.arcs.invariant.best c.arcs.invariant.at shut c.arcs.invariant.best_at same off in
    let had : FitsSigned w64 c.sum_before.result = search rules in
    let value = rw was at (simp to_z-of_z at (rw c.at-from.ensures at c.max-best.ensures.value)) in
    let self = rw was at (simp to_z-of_z at c.max-best.ensures.self_bound) in
    let other = simp to_z-of_z at (rw c.at-from.ensures at c.max-best.ensures.other_bound) in
    let which = max_is (get_or c.arcs.sums (get_or c.args.arcs.now (c.arcs.left - 1) no_arc).from (pos 0))
    (c.of.result +ℤ get_or c.arcs.sums (get_or c.args.arcs.now (c.arcs.left - 1) no_arc).to (pos 0)) c.max-best.result value in
    let within = from_inside c.args.arcs.now c.args.ends.now c.args.starts.now _ _ c.args.most c.requires.narrow (c.arcs.left - 1) (omega arith) in
    let long = c.arcs.invariant.long in
    let at_sums : (get_or c.args.arcs.now (c.arcs.left - 1) no_arc).from < length c.arcs.sums = omega arith in
    record {
      long = length-set _ _ _ ∙ c.arcs.invariant.long;
      few = omega arith;
      best = rw c.at-from.ensures (simp to_z-of_z (best_next c.args.arcs.now c.args.ends.now c.args.starts.now _ _ c.args.most c.requires.narrow c.arcs.sums c.arcs.left (c.arcs.left - 1) c.max-best.result
          (omega arith) (omega arith) c.arcs.invariant.long c.arcs.invariant.best self (rw e at other) (rw e at which)));
      inside = rw c.at-from.ensures (simp to_z-of_z (subst (λ n. (get_or c.args.arcs.now (c.arcs.left - 1) no_arc).from < n) (sym (length-set c.arcs.sums (get_or c.args.arcs.now (c.arcs.left - 1) no_arc).from c.max-best.result)) at_sums));
      best_at = rw c.at-from.ensures (simp to_z-of_z (sym (get_or-set_same c.arcs.sums (get_or c.args.arcs.now (c.arcs.left - 1) no_arc).from c.max-best.result (pos 0) at_sums)));
      at = rw c.at-from.ensures (inr refl);
    }

pub returns-clause-summed : goal.returns-clause-summed
returns-clause-summed g c =
    let none = c.arcs-test.false in
    all_summed c.args.arcs.now c.args.ends.now c.args.starts.now _ _ c.args.most c.requires.narrow c.arcs.sums c.arcs.left 0 (omega arith) (λ j l f. omega arith) c.arcs.invariant.best
