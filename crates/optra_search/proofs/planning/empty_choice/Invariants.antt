-- The bids so far are served by no walk.
use Rattle.std.proofs.Common.{◌≡◌, take}
use Rattle.optra_prices.specs.Repairs.{empty_choice}
use Rattle.optra_search.proofs.planning.empty_choice.Given as goal

abbrev pub invariant-loop-bid : goal.invariant-loop-bid
invariant-loop-bid l = l.walks.items ≡ empty_choice (take l._bid-index l.inst.bids.now)
