-- No walk for each bid so far.
use Rattle.std.proofs.Common.{◌≡◌, None}
use Rattle.std.specs.Prelude.{replicate}
use Rattle.optra_cert.proofs.read_walks.ReadWalks.new.Given as goal

abbrev pub invariant-bids : goal.invariant-bids
invariant-bids l = l.walks.items ≡ replicate l.counter None
