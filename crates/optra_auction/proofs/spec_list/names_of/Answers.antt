-- One more name.
use Rattle.std.proofs.Common.{◌∙◌}
use Rattle.optra_auction.proofs.MachineLemmas.{spec_names-more}
use Rattle.optra_auction.proofs.spec_list.names_of.Goals as goal

pub loop-bid-preserved : goal.loop-bid-preserved
loop-bid-preserved c =
    spec_names-more c.args.bids.now c.loop-bid.bid-index c.bid-item.result _ _ c.in_ok-name.name c.requires.differ c.loop-bid-test.true c.bid-item.is
    c.loop-bid.invariant c.in_ok-insert.ensures.keys (c.in_ok-name.ensures.ok ∙ c.text.ensures.text)
