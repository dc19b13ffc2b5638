-- One more track.
use Rattle.std.proofs.Common.{ℕ, List, sym, subst, arith}
use Rattle.optra_graph.specs.Deadlines.{IsLeftTooLate}
use Rattle.optra_graph.proofs.DeadlineLemmas.{neither, left_more, all_left}
use Rattle.optra_graph.proofs.deadlines.raise_up.Goals as goal

pub loop-track-preserved : goal.loop-track-preserved
loop-track-preserved c = record {
  bounded = c.raise-raised.ensures.bounded;
  done = λ e.
      let n = neither c.loop-track.changed c.raise-raised.result e in
      let same = c.raise-raised.ensures.same n.1 in
      λ t l. subst (λ (ds : List ℕ). IsLeftTooLate c.args.net.now c.args.bid.now.path c.args.target ds t) (sym same)
      (left_more c.args.net.now c.args.bid.now.path c.args.target c.loop-track.deadlines c.loop-track.track (c.raise-raised.ensures.late n.1) (c.loop-track.invariant.done n.0) t l);
}

pub returns-clause-done : goal.returns-clause-done
returns-clause-done c = λ e.
    let past = c.loop-track-test.false in
    let count = c.track_count-track-end.ensures.count in
    all_left c.args.net.now c.args.bid.now.path c.args.target c.loop-track.deadlines c.loop-track.track (omega (arith, past, count)) c.loop-track.invariant.bounded (c.loop-track.invariant.done e)
