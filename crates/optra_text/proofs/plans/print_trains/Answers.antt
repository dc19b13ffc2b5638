-- There is an entry for each bid, and the records of each bid follow those of the bids before it.
use Rattle.std.proofs.Common.{◌<◌, ◌+◌, length, arith}
use Rattle.optra_walk.proofs.EarnLemmas.{choice_long, choice_at}
use Rattle.optra_text.proofs.TrainLemmas.{next_trains}
use Rattle.optra_text.proofs.plans.print_trains.Goals as goal

pub bounds-walks-i : goal.bounds-walks-i
bounds-walks-i c =
    let same = choice_long c.args.net.now c.args.bids.now c.args.walks.now c.requires in
    omega arith

pub print_entry-requires : goal.print_entry-requires
print_entry-requires c =
    choice_at c.args.net.now c.args.bids.now c.args.walks.now c.bids.i c.index-bids-i.result c.index-walks-i.result c.requires c.bids-test.true c.index-bids-i.is c.index-walks-i.is

pub bids-preserved : goal.bids-preserved
bids-preserved c =
    let same = choice_long c.args.net.now c.args.bids.now c.args.walks.now c.requires in
    let within : c.bids.i < length c.args.walks.now = omega arith in
    let next = next_trains c.args.net.now (c.bids.i + 1) c.args.bids.now c.args.walks.now c.bids.i c.index-bids-i.result c.index-walks-i.result c.bids.printer _ c.bids-test.true within c.bids.invariant in
    rw (c.in_ok-print_entry.ensures) (rw (← c.index-bids-i.is, ← c.index-walks-i.is) at next)
