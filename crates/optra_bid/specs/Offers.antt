-- What a bid offers.
use Rattle.std.specs.Prelude.{ℕ, List, map}
use Rattle.optra_bid.specs.Specs.{Path}
use Rattle.optra_bid.specs.declared.Money.{Money}
use Rattle.optra_bid.specs.declared.bids.Bid.{Bid}

-- a bid by its names, its path and its money; the bounds that it keeps follow from these
pub record Offer : Type 0 where
  pub name : List ℕ
  pub bidder : List ℕ
  pub path : Path
  pub money : Money

abbrev pub offer_of : Bid → Offer
offer_of bid = record { name = bid.name; bidder = bid.bidder; path = bid.path; money = bid.money }

-- what each bid offers
abbrev pub offers_of : List Bid → List Offer
offers_of bids = map offer_of bids
