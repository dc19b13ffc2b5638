-- There is an entry for each bid, and each bid adds what it earns.
use Rattle.std.proofs.Common.{◌<◌, length, arith}
use Rattle.std.proofs.lemmas.Int.{ints}
use Rattle.optra_walk.proofs.EarnLemmas.{choice_long, choice_at, revenue_at, revenue_past}
use Rattle.optra_walk.proofs.earning.revenue.Goals as goal

pub bounds-walks-i : goal.bounds-walks-i
bounds-walks-i c =
    let same = choice_long c.args.net.now c.args.bids.now c.args.walks.now c.requires.choice in
    omega arith

pub earned-total-requires : goal.earned-total-requires
earned-total-requires c =
    choice_at c.args.net.now c.args.bids.now c.args.walks.now c.bids.i c.index-bids-i.result c.index-walks-i.result c.requires.choice c.bids-test.true c.index-bids-i.is c.index-walks-i.is

pub bids-preserved : goal.bids-preserved
bids-preserved c =
    let same = choice_long c.args.net.now c.args.bids.now c.args.walks.now c.requires.choice in
    let within : c.bids.i < length c.args.walks.now = omega arith in
    let next = revenue_at c.args.net.now c.args.bids.now c.args.walks.now c.bids.i c.index-bids-i.result c.index-walks-i.result c.bids-test.true within in
    let here = rw (← c.index-bids-i.is, ← c.index-walks-i.is) at next in
    let so_far = c.bids.invariant in
    let few = c.requires.few in
    let v = c.earned-total.ensures.value in
    let low = c.earned-total.ensures.range.0 in
    let high = c.earned-total.ensures.range.1 in
    let n = c.bids-test.true in
    let t = c.bids.total-is in (
      omega (arith, ints, so_far.0, so_far.1, so_far.2),
      omega (arith, ints, so_far.1, so_far.2),
      omega (arith, ints, so_far.1, so_far.2),
    )

pub returns : goal.returns
returns c =
    let past = revenue_past c.args.net.now c.args.bids.now c.args.walks.now c.bids.i c.bids-test.false in
    let t = c.bids.total-is in
    omega (arith, ints, c.bids.invariant.0)
