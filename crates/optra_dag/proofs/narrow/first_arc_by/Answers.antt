-- One more arc.
use Rattle.std.proofs.Common.{rules, arith, ap, sym, subst, ◌∙◌, w64, FitsSigned, to_z, of_z, to_z-of_z, ◌+ℤ◌, get_or, pos}
use Rattle.optra_dag.specs.Paths.{no_arc}
use Rattle.optra_dag.proofs.NarrowLoops.{value_by, one_on, passed_on, first_by}
use Rattle.optra_dag.proofs.narrow.first_arc_by.Goals as goal

pub arcs-preserved : goal.arcs-preserved
arcs-preserved g c =
    let stands = c.arcs.invariant.one in
    let at = c.requires.sums c.arcs.k (c.arcs.invariant.from, omega (arith, stands.1.0, stands.1.1)) in
    let v = value_by (g.W.NarrowWeight.allows c.args.weight.now c.arcs.k) (g.W.NarrowWeight.weight c.args.weight.now c.arcs.k) c.of.result c.of.ensures.allowed c.of.ensures.other in
    let e = ap (λ z. z +ℤ get_or c.args.sums.now (get_or c.args.arcs.now c.arcs.k no_arc).to (pos 0)) v in
    let w : FitsSigned w64 c.of.result = search rules in
    let rest : FitsSigned w64 (get_or c.args.sums.now (get_or c.args.arcs.now c.arcs.k no_arc).to (pos 0)) = search rules in
    let want : FitsSigned w64 c.args.sum = search rules in
    let off = simp to_z-of_z at (rw c.at.ensures at c.arcs-test.true) in
    let from = c.arcs.invariant.from in
    record {
      from = omega arith;
      one = one_on _ _ c.arcs.k c.args.span.stop (λ t. off (ap (of_z w64) (e ∙ t ∙ to_z-of_z want))) c.arcs.invariant.one;
      passed = passed_on _ _ c.args.span c.arcs.k (λ t. off (ap (of_z w64) (e ∙ t ∙ to_z-of_z want))) c.arcs.invariant.passed;
    }

pub returns : goal.returns
returns g c =
    let stands = c.arcs.invariant.one in
    let at = c.requires.sums c.arcs.k (c.arcs.invariant.from, omega (arith, stands.1.0, stands.1.1)) in
    let v = value_by (g.W.NarrowWeight.allows c.args.weight.now c.arcs.k) (g.W.NarrowWeight.weight c.args.weight.now c.arcs.k) c.of.result c.of.ensures.allowed c.of.ensures.other in
    let e = ap (λ z. z +ℤ get_or c.args.sums.now (get_or c.args.arcs.now c.arcs.k no_arc).to (pos 0)) v in
    let w : FitsSigned w64 c.of.result = search rules in
    let rest : FitsSigned w64 (get_or c.args.sums.now (get_or c.args.arcs.now c.arcs.k no_arc).to (pos 0)) = search rules in
    let sum : FitsSigned w64 (c.of.result +ℤ get_or c.args.sums.now (get_or c.args.arcs.now c.arcs.k no_arc).to (pos 0)) =
    subst (λ z. FitsSigned w64 (z +ℤ get_or c.args.sums.now (get_or c.args.arcs.now c.arcs.k no_arc).to (pos 0))) (sym v) at.fits in
    let want : FitsSigned w64 c.args.sum = search rules in
    let on = simp to_z-of_z at (rw c.at.ensures at c.arcs-test.false) in
    let passed = simp to_z-of_z at c.arcs.invariant.passed in
    first_by _ _ c.args.span c.arcs.k (c.arcs.invariant.from, omega (arith, stands.1.0, stands.1.1)) (sym e ∙ sym (to_z-of_z sum) ∙ ap (to_z w64) on ∙ to_z-of_z want)
    passed
