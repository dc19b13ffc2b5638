-- One more track.
use Rattle.std.proofs.Common.{ℕ, List, length, sym, subst, arith}
use Rattle.optra_graph.specs.Deadlines.{IsLeftTooLate}
use Rattle.optra_graph.proofs.DeadlineLemmas.{neither, left_below, all_left}
use Rattle.optra_graph.proofs.deadlines.raise_down.Goals as goal

pub loop-passed-preserved : goal.loop-passed-preserved
loop-passed-preserved c =
    let count = c.track_count-count.ensures.count in
    record {
      bounded = c.raise-raised.ensures.bounded;
      done = λ e.
          let n = neither c.loop-passed.changed c.raise-raised.result e in
          let same = c.raise-raised.ensures.same n.1 in
          λ t l m. subst (λ (ds : List ℕ). IsLeftTooLate c.args.net.now c.args.bid.now.path c.args.target ds t) (sym same)
          (left_below c.args.net.now c.args.bid.now.path c.args.target c.loop-passed.deadlines c.track_count-count.result c.loop-passed.passed count (c.raise-raised.ensures.late n.1) (c.loop-passed.invariant.done n.0) t l m);
    }

pub returns-clause-done : goal.returns-clause-done
returns-clause-done c = λ e.
    let past = c.loop-passed-test.false in
    let count = c.track_count-count.ensures.count in
    all_left c.args.net.now c.args.bid.now.path c.args.target c.loop-passed.deadlines (length c.args.net.now.tracks) (omega arith) c.loop-passed.invariant.bounded
    (λ t l. c.loop-passed.invariant.done e t l (omega (arith, past, count)))
