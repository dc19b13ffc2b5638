use Rattle.optra_prices.proofs.HolderLemmas.{AreListedBelow}
use Rattle.optra_prices.proofs.holders.find_holders.Given as goal

abbrev pub invariant-loop-number : goal.invariant-loop-number
invariant-loop-number l = AreListedBelow l.number l.tables l.starts.items l.held
