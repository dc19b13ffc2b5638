-- One more bid.
use Rattle.std.proofs.Common.{length, ap, arith}
use Rattle.std.specs.Prelude.{IfSome}
use Rattle.optra_checker.specs.BestOnWay.{IsBestAt}
use Rattle.optra_checker.proofs.BestWalkLemmas.{all_set}
use Rattle.optra_open.proofs.EachLemmas.{each_next}
use Rattle.optra_rests.specs.Weights.{IsWorthSize}
use Rattle.optra_evidence.proofs.leaf_worths.best_worths.Goals as goal

pub bids-init : goal.bids-init
bids-init g c = let e = ap length c.new-worths.ensures.items in record {
  walks = c.requires.walks;
  worths = record { count = e; each = λ number d l. absurd (omega (arith, l, e)) };
}

pub bids-preserved : goal.bids-preserved
bids-preserved g c =
    let node = c.args.node.now in
    let rows = g.F.RowFamily.rows_of node.family node.net in
    let used = g.F.RowFamily.rows_used node.family node.net in
    record {
      walks = all_set node.net rows used node.bids node.node c.bids.walks c.bids.bid c.advance_at.new.self c.bids.invariant.walks c.in_ok-best.ensures.walks;
      worths = each_next (λ number worth. IsBestAt g.F.RowFamily.rows_of g.F.RowFamily.rows_used node number c.args.prices.now worth × IfSome worth IsWorthSize) c.bids.worths.items c.push.new.self.items c.in_ok-best.best c.bids.bid
          c.in_ok-push.ensures.items c.bids.invariant.worths (c.in_ok-best.ensures.best, c.in_ok-best.ensures.size);
    }

pub returns-clause-worths : goal.returns-clause-worths
returns-clause-worths g c =
    let end = c.bids.auto.bid-end in
    let past = c.bids-test.false in
    let same = ap length c.inst.ensures.bids in
    let count = c.bids.invariant.worths.count in
    record {
      count = omega (arith, end, past, same, count);
      each = λ number d l. (c.bids.invariant.worths.each number d l).0;
      size = λ number d l. (c.bids.invariant.worths.each number d l).1;
    }
