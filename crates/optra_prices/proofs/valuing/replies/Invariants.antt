use Rattle.std.proofs.Common.{◌≡◌, take}
use Rattle.optra_prices.specs.Standings.{replies_of}
use Rattle.optra_prices.proofs.valuing.replies.Given as goal

abbrev pub invariant-loop-number : goal.invariant-loop-number
invariant-loop-number l = l.replies.items ≡ replies_of (take l.number l.tables) (take l.number l.standings)
