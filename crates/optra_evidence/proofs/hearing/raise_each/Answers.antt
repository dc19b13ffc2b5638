-- One more bid.
use Rattle.std.proofs.Common.{◌≡◌, ◌<◌, None, length, ap, arith}
use Rattle.std.proofs.lemmas.Option.{slice_get-get_or}
use Rattle.optra_evidence.specs.Figures.{nothing_said}
use Rattle.optra_evidence.proofs.HeardLemmas.{heard_set, heard_all}
use Rattle.optra_evidence.proofs.hearing.raise_each.Goals as goal

pub said_of-said-requires-clause-worth : goal.said_of-said-requires-clause-worth
said_of-said-requires-clause-worth g c =
    let l = c.bids-test.true in
    let same = ap length c.inst.ensures.bids in
    let count = c.requires.worths.count in
    c.requires.worths.each c.bids.bid None (omega (arith, l, same, count))

pub bids-preserved : goal.bids-preserved
bids-preserved g c =
    let node = c.args.node.now in
    let rows = g.F.RowFamily.rows_of node.family node.net in
    let l = c.bids-test.true in
    let same = ap length c.inst.ensures.bids in
    let count = c.bids.invariant.count in
    let all = c.requires.count in
    let within : c.bids.bid < length c.bids.figures = omega (arith, l, same, count, all) in
    heard_set node.net rows node.bids node.node c.args.prices.now c.args.figures.now c.bids.bid c.bids.figures _ c.said_of-said.result c.raised.result c.bids.invariant (slice_get-get_or c.bids.figures c.bids.bid nothing_said within)
    c.said_of-said.ensures c.raised.ensures

pub returns : goal.returns
returns g c =
    let node = c.args.node.now in
    let rows = g.F.RowFamily.rows_of node.family node.net in
    let end = c.bids.auto.bid-end in
    let past = c.bids-test.false in
    let same = ap length c.inst.ensures.bids in
    heard_all node.net rows node.bids node.node c.args.prices.now c.args.figures.now c.bids.bid c.bids.figures (omega (arith, end, past, same)) c.bids.invariant
