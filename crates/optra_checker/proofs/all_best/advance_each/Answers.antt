use Rattle.std.proofs.Common.{length, ap, arith}
use Rattle.optra_checker.proofs.BestWalkLemmas.{all_set}
use Rattle.optra_checker.proofs.all_best.advance_each.Goals as goal

pub bids-init : goal.bids-init
bids-init g c = c.requires.walks

pub advance-requires-clause-bid : goal.advance-requires-clause-bid
advance-requires-clause-bid g c = let l = c.bids-test.true in let same = ap length c.inst.ensures.bids in omega (arith, l, same)

pub advance-requires-clause-latest : goal.advance-requires-clause-latest
advance-requires-clause-latest g c = c.requires.latest

pub bids-preserved : goal.bids-preserved
bids-preserved g c =
    let node = c.args.node.now in
    let rows = g.F.RowFamily.rows_of node.family node.net in
    let used = g.F.RowFamily.rows_used node.family node.net in
    all_set node.net rows used node.bids node.node c.bids.walks c.bids.bid c.advance.new.self c.bids.invariant c.in_ok-advance.ensures.walks

pub bids-smaller : goal.bids-smaller
bids-smaller g c = omega (arith, c.bids-test.true)

pub advance-requires-clause-walks : goal.advance-requires-clause-walks
advance-requires-clause-walks g c =
    let count = c.bids.invariant.count in
    let l = c.bids-test.true in
    let same = ap length c.inst.ensures.bids in
    c.bids.invariant.each c.bids.bid _ (omega (arith, count, l, same))
