-- There is an entry for each bid, and the values of the bids that are left come behind those so far.
use Rattle.std.proofs.Common.{◌<◌, length, arith}
use Rattle.optra_walk.proofs.EarnLemmas.{choice_long, choice_at}
use Rattle.optra_rounds.proofs.StandingLemmas.{next-values}
use Rattle.optra_rounds.proofs.standing.values_in.Goals as goal

pub bounds-walks-i : goal.bounds-walks-i
bounds-walks-i c =
    let same = choice_long c.args.net.now c.args.bids.now c.args.walks.now c.requires in
    omega arith

pub value_at-requires : goal.value_at-requires
value_at-requires c =
    choice_at c.args.net.now c.args.bids.now c.args.walks.now c.bids.i c.index-bids-i.result c.index-walks-i.result c.requires c.bids-test.true c.index-bids-i.is c.index-walks-i.is

pub bids-preserved : goal.bids-preserved
bids-preserved c =
    let same = choice_long c.args.net.now c.args.bids.now c.args.walks.now c.requires in
    let within : c.bids.i < length c.args.walks.now = omega arith in
    next-values c.args.net.now c.args.bids.now c.args.walks.now c.bids.i c.index-bids-i.result c.index-walks-i.result c.value_at.result c.bids.values.items c.push.new.self.items _
    c.bids-test.true within c.index-bids-i.is c.index-walks-i.is c.value_at.ensures c.in_ok-push.ensures.items c.bids.invariant
