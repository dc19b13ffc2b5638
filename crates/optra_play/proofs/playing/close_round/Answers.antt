-- As many values as bids that stand.
use Rattle.std.proofs.Common.{◌∙◌, ap, length}
use Rattle.std.proofs.lemmas.Slice.Zip.{AllZip-long}
use Rattle.optra_play.proofs.PlayLemmas.{planned-long, values-long}
use Rattle.optra_play.proofs.playing.close_round.Goals as goal

pub close_round-requires-clause-values : goal.close_round-requires-clause-values
close_round-requires-clause-values c =
    ap length (c.deref.ensures.value ∙ c.in_ok-values.ensures)
    ∙ values-long c.args.inst.net.now c.args.inst.bids.now c.args.choice.now (AllZip-long _ c.args.inst.bids.now c.args.choice.now c.requires.choice)
    ∙ planned-long c.args.playing.now.auction c.args.inst.bids.now c.requires.planned
