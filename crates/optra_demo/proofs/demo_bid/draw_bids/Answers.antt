use Rattle.std.proofs.Common.{sym}
use Rattle.std.proofs.lemmas.List.Elements.{All-nil, All-push, All-same}
use Rattle.optra_demo.specs.Ranges.{IsInRange}
use Rattle.optra_demo.proofs.DrawLemmas.{after_none, bids_kept, seven_more}
use Rattle.optra_demo.proofs.demo_bid.draw_bids.Goals as goal

pub bids-init : goal.bids-init
bids-init c = (
  c.new-bids.ensures.items,
  sym (after_none c.args.draws.now),
  All-same (IsInRange c.args.stations) c.new-bids.result.items _ c.new-bids.ensures.items (All-nil (IsInRange c.args.stations)),
)

pub bids-preserved : goal.bids-preserved
bids-preserved c = (
  bids_kept c.args.stations c.args.draws.now c.bids.k c.bids.draws c.bids.bids.items c.push.new.self.items c.draw_bid.result c.bids.invariant.0 c.bids.invariant.1 c.draw_bid.ensures.bid c.in_ok-push.ensures.items,
  seven_more c.args.draws.now c.bids.k c.bids.draws c.draw_bid.new.draws c.bids.invariant.1 c.draw_bid.ensures.state,
  All-same (IsInRange c.args.stations) c.push.new.self.items _ c.in_ok-push.ensures.items
      (All-push (IsInRange c.args.stations) c.bids.bids.items c.draw_bid.result c.bids.invariant.2 c.draw_bid.ensures.range),
)
