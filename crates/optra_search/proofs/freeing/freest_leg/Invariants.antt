-- The bids so far are settled.
use Rattle.std.proofs.Common.{◌≡◌, ℕ, ◌<◌, Some, slice_get}
use Rattle.optra_bid.specs.declared.bids.Bid.{Bid}
use Rattle.optra_search.specs.Splits.{IsSettled}
use Rattle.optra_search.proofs.freeing.freest_leg.Given as goal

abbrev pub invariant-loop-number : goal.invariant-loop-number
invariant-loop-number g l =
    (n : ℕ) (b : Bid) → n < l.number → slice_get l.inst.bids.now n ≡ Some b → IsSettled l.inst.net.now (g.F.RowFamily.rows_of l.rows l.inst.net.now) l.inst.bids.now l.node n b
