-- The winners among the bids so far.
use Rattle.std.proofs.Common.{◌≡◌, map, take}
use Rattle.optra_text.specs.RoundViews.{award_of}
use Rattle.optra_rounds.specs.Rounds.{awards_of}
use Rattle.optra_rounds.proofs.winners.close_of.Given as goal

abbrev pub invariant-bids : goal.invariant-bids
invariant-bids l = map award_of l.awards.items ≡ awards_of (take l.place l.auction.standing)
