use Rattle.std.proofs.Common.{ℕ, ◌<◌, get_or}
use Rattle.optra_prices.specs.Allowing.{IsOpen}
use Rattle.optra_prices.specs.declared.numbering.BidTable.{BidTable}
use Rattle.optra_prices.proofs.opening.are_open.Given as goal

abbrev pub invariant-loop-number : goal.invariant-loop-number
invariant-loop-number l = (i : ℕ) (d : BidTable) → i < l.number → IsOpen (get_or l.tables i d)
