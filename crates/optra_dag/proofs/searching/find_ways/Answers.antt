-- An arc that is skipped, loses or wins leaves every node done.
use Rattle.std.proofs.Common.{rules, arith, ◌≡◌, ℕ, inl, inr, length-set, ◌-◌, subst, ap, sym, ◌∙◌, ◌+ℤ◌, FitsSigned, to_z, of_z, to_z-of_z, negsuc, List, get_or}
use Rattle.std.proofs.lemmas.Grind.{common_steps}
use Rattle.std.proofs.lemmas.List.{get_or-replicate}
use mir.Syntax.{w128}
use Rattle.optra_dag.specs.WaySums.{open_graph, AreDone}
use Rattle.optra_dag.proofs.Ways.{skip_at, lose_at, take_at, start_at, alive_sum}
use Rattle.optra_dag.proofs.searching.find_ways.Goals as goal
use Rattle.optra_dag.proofs.searching.find_ways.Goals.{then-rest-via-then-rest, then-rest-via-else-rest+then-not-allowed}

pub loop-left-preserved-then-rest : goal.loop-left-preserved-then-rest
loop-left-preserved-then-rest g c =
    let rest : FitsSigned w128 c.index-rest.result.now = search rules in
    record {
      sums = c.loop-left.invariant.sums;
      next = c.loop-left.invariant.next;
      few = omega arith;
      done = skip_at c.args.arcs.now c.args.ends.now _ _ c.requires.forward _ _ c.loop-left.left (c.loop-left.left - 1) c.index-rest.result.now (omega arith) (omega arith) c.loop-left.invariant.sums (rw c.at-from.ensures at c.index-rest.ensures)
          (elim c.then-rest.branch [
            | then-rest-via-then-rest w ↦ inr (sym (to_z-of_z rest) ∙ ap (to_z w128) w.if-rest.true)
            | then-rest-via-else-rest+then-not-allowed w ↦ inl (sym w.allowed.ensures ∙ w.if-not-allowed.true)
          ])
          c.loop-left.invariant.done;
    }

pub overflow_add-sum : goal.overflow_add-sum
overflow_add-sum g c =
    let w : FitsSigned w128 c.of.result = search rules in
    let rest : FitsSigned w128 c.index-rest.result.now = search rules in
    simp to_z-of_z
    (alive_sum c.args.arcs.now c.args.ends.now _ _ c.requires.forward _ _ c.loop-left.left (c.loop-left.left - 1) c.of.result c.index-rest.result.now (omega arith) (omega arith) c.loop-left.invariant.sums
    (c.requires.weights (c.loop-left.left - 1) (omega arith)) c.of.ensures (rw c.at-from.ensures at c.index-rest.ensures) (λ e. c.if-rest.false (ap (of_z w128) e)) c.loop-left.invariant.done)

pub loop-left-preserved-then-wins : goal.loop-left-preserved-then-wins
loop-left-preserved-then-wins g c =
    let w : FitsSigned w128 c.of.result = search rules in
    let rest : FitsSigned w128 c.index-rest.result.now = search rules in
    let old : FitsSigned w128 c.index.result.now = search rules in
    let alive : c.index-rest.result.now ≡ negsuc 170141183460469231731687303715884105727 → ⊥ = λ e. c.if-rest.false (ap (of_z w128) e) in
    let sum : FitsSigned w128 (c.of.result +ℤ c.index-rest.result.now) =
    alive_sum c.args.arcs.now c.args.ends.now _ _ c.requires.forward _ _ c.loop-left.left (c.loop-left.left - 1) c.of.result c.index-rest.result.now (omega arith) (omega arith) c.loop-left.invariant.sums
    (c.requires.weights (c.loop-left.left - 1) (omega arith)) c.of.ensures (rw c.at-from.ensures at c.index-rest.ensures) alive c.loop-left.invariant.done in
    let wins = simp to_z-of_z at (c.wins.ensures.0 c.if-wins.true) in
    record {
      sums = length-set _ _ _ ∙ c.loop-left.invariant.sums;
      next = length-set _ _ _ ∙ c.loop-left.invariant.next;
      few = omega arith;
      done = rw c.at-from.ensures (simp to_z-of_z (take_at c.args.arcs.now c.args.ends.now _ _ c.requires.forward _ _ c.loop-left.left (c.loop-left.left - 1) c.of.result c.index-rest.result.now c.index.result.now c.index-in-loop-left.result.now
          (omega arith) (omega arith) c.loop-left.invariant.sums c.loop-left.invariant.next (c.requires.weights (c.loop-left.left - 1) (omega arith)) c.of.ensures
          (sym c.allowed.ensures ∙ c.if-not-allowed.false) (rw c.at-from.ensures at c.index-rest.ensures) alive (rw c.at-from.ensures at c.index.ensures) (rw c.at-from.ensures at c.index-in-loop-left.ensures) wins c.loop-left.invariant.done));
    }

pub loop-left-preserved : goal.loop-left-preserved
loop-left-preserved g c =
    let w : FitsSigned w128 c.of.result = search rules in
    let rest : FitsSigned w128 c.index-rest.result.now = search rules in
    let old : FitsSigned w128 c.index.result.now = search rules in
    let alive : c.index-rest.result.now ≡ negsuc 170141183460469231731687303715884105727 → ⊥ = λ e. c.if-rest.false (ap (of_z w128) e) in
    let sum : FitsSigned w128 (c.of.result +ℤ c.index-rest.result.now) =
    alive_sum c.args.arcs.now c.args.ends.now _ _ c.requires.forward _ _ c.loop-left.left (c.loop-left.left - 1) c.of.result c.index-rest.result.now (omega arith) (omega arith) c.loop-left.invariant.sums
    (c.requires.weights (c.loop-left.left - 1) (omega arith)) c.of.ensures (rw c.at-from.ensures at c.index-rest.ensures) alive c.loop-left.invariant.done in
    let wins = simp to_z-of_z at c.wins.ensures.1 in
    record {
      sums = c.loop-left.invariant.sums;
      next = c.loop-left.invariant.next;
      few = omega arith;
      done = lose_at c.args.arcs.now c.args.ends.now _ _ c.requires.forward _ _ c.loop-left.left (c.loop-left.left - 1) c.of.result c.index-rest.result.now c.index.result.now c.index-in-loop-left.result.now
          (omega arith) (omega arith) c.loop-left.invariant.sums c.loop-left.invariant.next (c.requires.weights (c.loop-left.left - 1) (omega arith)) c.of.ensures
          (rw c.at-from.ensures at c.index-rest.ensures) alive (rw c.at-from.ensures at c.index.ensures) (rw c.at-from.ensures at c.index-in-loop-left.ensures) (λ h. let t = wins h in let f = c.if-wins.false in cc) c.loop-left.invariant.done;
    }

pub loop-left-init : goal.loop-left-init
loop-left-init g c =
    let next = c.requires.next in
    record {
      sums = grind (arith, common_steps);
      next = grind (arith, common_steps);
      few = omega arith;
      done = rw c.len-left.ensures (start_at c.args.arcs.now c.args.ends.now _ _ c.requires.forward _ _
          (λ n l. ap (λ (xs : List ℕ). get_or xs n 4294967295) next ∙ get_or-replicate _ _ _ _ l) c.requires.sums);
    }

pub returns-clause-done : goal.returns-clause-done
returns-clause-done g c = let z : c.loop-left.left ≡ 0 = omega arith in
    subst (λ k. AreDone (open_graph c.args.arcs.now c.args.ends.now) (g.W.Weight.allows c.args.weight.now) (g.W.Weight.weight c.args.weight.now) 4294967295 (negsuc 170141183460469231731687303715884105727) c.loop-left.next.items c.loop-left.sums.items k) z c.loop-left.invariant.done
