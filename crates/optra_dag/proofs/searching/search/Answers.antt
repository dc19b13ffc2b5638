-- What the search answers, from the ways that are done.
use Rattle.std.proofs.Common.{rules, sym, ap, ◌∙◌, FitsSigned, to_z, of_z, to_z-of_z}
use mir.Syntax.{w128}
use Rattle.optra_dag.proofs.Ways.{none_at, traced_at, best_at}
use Rattle.optra_dag.proofs.searching.search.Goals as goal

pub returns-then-sum-clause-none : goal.returns-then-sum-clause-none
returns-then-sum-clause-none g c =
    let sum : FitsSigned w128 c.index-sum.result.now = search rules in
    none_at c.args.arcs.now c.args.ends.now _ _ c.requires.forward c.find_ways.new.next.items c.find_ways.new.sums.items c.index-sum.result.now
    c.find_ways.ensures.sums c.index-sum.ensures (sym (to_z-of_z sum) ∙ ap (to_z w128) c.if-sum.true) c.find_ways.ensures.done

pub path_by-requires-clause-traced : goal.path_by-requires-clause-traced
path_by-requires-clause-traced g c =
    rw c.deref.ensures.value (traced_at c.args.arcs.now c.args.ends.now _ _ c.requires.forward c.find_ways.new.next.items c.find_ways.new.sums.items c.index-sum.result.now
    c.find_ways.ensures.sums c.index-sum.ensures (λ e. c.if-sum.false (ap (of_z w128) e)) c.find_ways.ensures.done)

pub returns-clause-best : goal.returns-clause-best
returns-clause-best g c =
    let sum : FitsSigned w128 c.index-sum.result.now = search rules in
    simp to_z-of_z (best_at c.args.arcs.now c.args.ends.now _ _ c.requires.forward c.find_ways.new.next.items c.find_ways.new.sums.items c.index-sum.result.now c.path_by.new.path.items
    c.find_ways.ensures.sums c.index-sum.ensures (λ e. c.if-sum.false (ap (of_z w128) e)) c.find_ways.ensures.done (rw c.deref.ensures.value at c.in_ok-path_by.ensures))
