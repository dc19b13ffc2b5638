use Rattle.std.proofs.Common.{◌↔◌, drop}
use Rattle.optra_walk.specs.Choices.{IsChoice}
use Rattle.optra_checker.proofs.listed_walks.walks_hold.Given as goal

abbrev pub invariant-bids : goal.invariant-bids
invariant-bids l = IsChoice l.net (drop l.i l.bids) (drop l.i l.entries) ↔ IsChoice l.net l.bids l.entries
