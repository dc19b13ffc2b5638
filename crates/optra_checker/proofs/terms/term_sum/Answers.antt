use Rattle.std.proofs.Common.{◌≡◌, ◌+◌, IfSome, sym, ap, subst, arith, length}
use Rattle.std.proofs.lemmas.Int.{ints}
use Rattle.optra_node.proofs.ChildLemmas.{some_at}
use Rattle.optra_checker.specs.Leaves.{AreTerms, IsSumSize}
use Rattle.optra_checker.proofs.BestWalkLemmas.{all_set}
use Rattle.optra_checker.proofs.LeafLemmas.{terms_none, terms_more, size_more, size_below}
use Rattle.optra_checker.proofs.terms.term_sum.Goals as goal

pub bids-init : goal.bids-init
bids-init g c =
    let node = c.args.node.now in
    record {
      walks = c.requires.walks;
      terms = terms_none node.net (g.F.RowFamily.rows_of node.family node.net) node.bids node.node c.args.prices.now;
      size = (omega (arith, ints), omega (arith, ints));
    }

pub plus-sum-requires-clause-sum : goal.plus-sum-requires-clause-sum
plus-sum-requires-clause-sum g c =
    let few = c.requires.instance.few in
    let l = c.bids-test.true in
    let same = ap length c.inst.ensures.bids in
    size_below c.bids.bid 1000 c.bids.sum (omega arith) c.bids.invariant.size

pub bids-preserved : goal.bids-preserved
bids-preserved g c =
    let node = c.args.node.now in
    let rows = g.F.RowFamily.rows_of node.family node.net in
    let l = c.bids-test.true in
    let at = some_at node.bids c.bids.bid (length c.inst.result.bids.now) (sym (ap length c.inst.ensures.bids)) l in
    let more = terms_more node.net rows node.bids node.node c.args.prices.now c.bids.bid c.bids.sum c.in_ok-best.best at.0 c.bids.invariant.terms at.1 (c.in_ok-best.ensures.best at.0 at.1) in
    let size = size_more c.bids.bid c.bids.sum c.in_ok-best.best c.bids.invariant.size c.in_ok-best.ensures.size in
    let used = g.F.RowFamily.rows_used node.family node.net in
    record {
      walks = all_set node.net rows used node.bids node.node c.bids.walks c.bids.bid c.offer_at.new.walks c.bids.invariant.walks c.in_ok-best.ensures.walks;
      terms = subst (AreTerms node.net rows node.bids node.node c.args.prices.now (c.bids.bid + 1)) (sym c.plus-sum.ensures) more;
      size = subst (λ sum. IfSome sum (IsSumSize (c.bids.bid + 1))) (sym c.plus-sum.ensures) size;
    }

pub returns-clause-size : goal.returns-clause-size
returns-clause-size g c =
    let few = c.requires.instance.few in
    let end = c.bids.auto.bid-end in
    let same = ap length c.inst.ensures.bids in
    size_below c.bids.bid 1000 c.bids.sum (omega arith) c.bids.invariant.size

pub offer_at-requires-clause-ascending : goal.offer_at-requires-clause-ascending
offer_at-requires-clause-ascending g c = c.requires.ascending

pub offer_at-requires-clause-proper : goal.offer_at-requires-clause-proper
offer_at-requires-clause-proper g c = c.requires.proper

pub offer_at-requires-clause-bid : goal.offer_at-requires-clause-bid
offer_at-requires-clause-bid g c = let l = c.bids-test.true in let same = ap length c.inst.ensures.bids in omega (arith, l, same)

pub plus-sum-requires-clause-best : goal.plus-sum-requires-clause-best
plus-sum-requires-clause-best g c = c.in_ok-best.ensures.size

pub bids-smaller : goal.bids-smaller
bids-smaller g c = omega (arith, c.bids-test.true)

pub returns-clause-terms : goal.returns-clause-terms
returns-clause-terms g c =
    let node = c.args.node.now in
    let rows = g.F.RowFamily.rows_of node.family node.net in
    let end = c.bids.auto.bid-end in
    let past = c.bids-test.false in
    let same = ap length c.inst.ensures.bids in
    let all : c.bids.bid ≡ length node.bids = omega (arith, end, past, same) in
    subst (λ n. AreTerms node.net rows node.bids node.node c.args.prices.now n c.bids.sum) all c.bids.invariant.terms

pub offer_at-requires-clause-latest : goal.offer_at-requires-clause-latest
offer_at-requires-clause-latest g c = c.requires.latest

pub offer_at-requires-clause-walks : goal.offer_at-requires-clause-walks
offer_at-requires-clause-walks g c =
    let count = c.bids.invariant.walks.count in
    let l = c.bids-test.true in
    let same = ap length c.inst.ensures.bids in
    c.bids.invariant.walks.each c.bids.bid _ (omega (arith, count, l, same))
