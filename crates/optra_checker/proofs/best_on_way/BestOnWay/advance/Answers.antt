use Rattle.optra_checker.proofs.BestWalkLemmas.{brought_more_of}
use Rattle.optra_checker.proofs.best_on_way.BestOnWay.advance.Goals as goal

pub last_if_best-requires-clause-bid : goal.last_if_best-requires-clause-bid
last_if_best-requires-clause-bid g c = c.requires.bid

pub last_if_best-requires-clause-latest : goal.last_if_best-requires-clause-latest
last_if_best-requires-clause-latest g c = c.requires.latest

pub last_if_best-requires-clause-walks : goal.last_if_best-requires-clause-walks
last_if_best-requires-clause-walks g c = c.requires.walks

pub find_best-requires : goal.find_best-requires
find_best-requires g c = c.requires.bid

pub returns-clause-walks : goal.returns-clause-walks
returns-clause-walks g c =
    let node = c.args.node.now in
    let rows = g.F.RowFamily.rows_of node.family node.net in
    let used = g.F.RowFamily.rows_used node.family node.net in
    let found = c.in_ok-best.ensures in
    brought_more_of node.net rows used node.bids c.args.bid node.node c.args.self.now _ c.requires.walks c.in_ok-best.best c.in_ok-push.ensures.items c.depth-self-2.ensures found.depth found.best found.size found.walk found.free

pub returns-in-Some-clause-best : goal.returns-in-Some-clause-best
returns-in-Some-clause-best g c = c.in-Some.ensures.best

pub returns-in-Some-clause-size : goal.returns-in-Some-clause-size
returns-in-Some-clause-size g c = c.in-Some.ensures.size

pub returns-clause-best : goal.returns-clause-best
returns-clause-best g c = c.in_ok-best.ensures.best

pub returns-clause-size : goal.returns-clause-size
returns-clause-size g c = c.in_ok-best.ensures.size
