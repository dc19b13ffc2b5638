-- The sum of the first terms, with one more.
use Rattle.std.proofs.Common.{◌≡◌, ◌+◌, IfSome, None, sym, ap, subst, arith, length}
use Rattle.std.proofs.lemmas.Int.{ints}
use Rattle.optra_node.proofs.ChildLemmas.{some_at}
use Rattle.optra_checker.specs.Leaves.{AreTerms, IsSumSize}
use Rattle.optra_checker.proofs.LeafLemmas.{terms_none, terms_more, size_more, size_below}
use Rattle.optra_evidence.proofs.leaf_worths.term_sum.Goals as goal

pub bids-init : goal.bids-init
bids-init g c =
    let node = c.args.node.now in
    record {
      terms = terms_none node.net (g.F.RowFamily.rows_of node.family node.net) node.bids node.node c.args.prices.now;
      size = (omega (arith, ints), omega (arith, ints));
    }

pub offer_of-offer-requires-clause-best : goal.offer_of-offer-requires-clause-best
offer_of-offer-requires-clause-best g c =
    let l = c.bids-test.true in
    let same = ap length c.inst.ensures.bids in
    let count = c.requires.worths.count in
    c.requires.worths.each c.bids.bid None (omega (arith, l, same, count))

pub plus-sum-requires-clause-sum : goal.plus-sum-requires-clause-sum
plus-sum-requires-clause-sum g c =
    let few = c.requires.instance.few in
    let l = c.bids-test.true in
    let same = ap length c.inst.ensures.bids in
    size_below c.bids.bid 1000 c.bids.sum (omega arith) c.bids.invariant.size

pub bids-preserved : goal.bids-preserved
bids-preserved g c =
    let node = c.args.node.now in
    let rows = g.F.RowFamily.rows_of node.family node.net in
    let l = c.bids-test.true in
    let at = some_at node.bids c.bids.bid (length c.inst.result.bids.now) (sym (ap length c.inst.ensures.bids)) l in
    let more = terms_more node.net rows node.bids node.node c.args.prices.now c.bids.bid c.bids.sum c.offer_of-offer.result at.0 c.bids.invariant.terms at.1 (c.offer_of-offer.ensures.best at.0 at.1) in
    let size = size_more c.bids.bid c.bids.sum c.offer_of-offer.result c.bids.invariant.size c.offer_of-offer.ensures.size in
    record {
      terms = subst (AreTerms node.net rows node.bids node.node c.args.prices.now (c.bids.bid + 1)) (sym c.plus-sum.ensures) more;
      size = subst (λ sum. IfSome sum (IsSumSize (c.bids.bid + 1))) (sym c.plus-sum.ensures) size;
    }

pub returns-clause-size : goal.returns-clause-size
returns-clause-size g c =
    let few = c.requires.instance.few in
    let end = c.bids.auto.bid-end in
    let same = ap length c.inst.ensures.bids in
    size_below c.bids.bid 1000 c.bids.sum (omega arith) c.bids.invariant.size

pub returns-clause-terms : goal.returns-clause-terms
returns-clause-terms g c =
    let node = c.args.node.now in
    let rows = g.F.RowFamily.rows_of node.family node.net in
    let end = c.bids.auto.bid-end in
    let past = c.bids-test.false in
    let same = ap length c.inst.ensures.bids in
    let all : c.bids.bid ≡ length node.bids = omega (arith, end, past, same) in
    subst (λ n. AreTerms node.net rows node.bids node.node c.args.prices.now n c.bids.sum) all c.bids.invariant.terms
