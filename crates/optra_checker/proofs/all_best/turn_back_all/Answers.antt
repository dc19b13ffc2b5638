-- One more bid.
use Rattle.std.proofs.Common.{length, get_or, ap, arith}
use Rattle.optra_checker.proofs.BestWalkLemmas.{left_set, turned_of}
use Rattle.optra_checker.proofs.all_best.turn_back_all.Goals as goal

pub bids-preserved : goal.bids-preserved
bids-preserved g c =
    let node = c.args.node.now in
    let rows = g.F.RowFamily.rows_of node.family node.net in
    let used = g.F.RowFamily.rows_used node.family node.net in
    let bid = c.bids.bid in
    let any = c.index-walks-bid.result in
    let l = c.bids-test.true in
    let same = ap length c.inst.ensures.bids in
    let count = c.bids.invariant.count in
    let here = c.bids.invariant.behind bid any (omega arith) (omega (arith, l, same, count)) in
    left_set node.net rows used node.bids node.node c.args.depth bid c.bids.walks c.turn_back.new.self c.bids.invariant
    (turned_of node.net rows used node.bids bid node.node (get_or c.bids.walks bid any) c.turn_back.new.self here c.args.depth c.requires.depth c.turn_back.ensures)
