-- What the search answers, from the sums of the nodes.
use Rattle.std.proofs.Common.{rules, refl, w64, FitsSigned, to_z-of_z, get_or, pos}
use Rattle.optra_dag.proofs.NarrowLoops.{is_below}
use Rattle.optra_dag.proofs.NarrowWays.{no_path, first_best}
use Rattle.optra_dag.proofs.narrow.search.Goals as goal

pub returns-then-sum-lt-LEAST-clause-none : goal.returns-then-sum-lt-LEAST-clause-none
returns-then-sum-lt-LEAST-clause-none g c =
    let sum : FitsSigned w64 (get_or c.sweep.new.sums 0 (pos 0)) = search rules in
    let low = simp to_z-of_z at c.if-sum-lt-LEAST.true in
    no_path c.args.arcs.now c.args.ends.now c.args.starts.now _ _ c.args.most c.requires.narrow c.sweep.new.sums _ refl c.sweep.ensures.summed (is_below _ _ low)

pub returns-clause-best : goal.returns-clause-best
returns-clause-best g c =
    let sum : FitsSigned w64 (get_or c.sweep.new.sums 0 (pos 0)) = search rules in
    simp to_z-of_z (first_best c.args.arcs.now c.args.ends.now c.args.starts.now _ _ c.args.most c.requires.narrow c.sweep.new.sums _ c.trace.new.path.items refl c.in_ok-trace.ensures)
