-- The printed rounds of an auction, and what is printed after its close.
use Rattle.std.specs.Prelude.{ℕ, ℤ, List, [], ◌∷◌, ◌++◌, map, Option, None, Some, codes}
use Rattle.std.specs.Fmt.{decimal, signed_decimal}
use Rattle.optra_network.specs.Net.{Net}
use Rattle.optra_bid.specs.declared.bids.Bid.{Bid}
use Rattle.optra_walk.specs.declared.Leg.{Leg}
use Rattle.optra_auction.specs.declared.Refusal.{Refusal}
use Rattle.optra_auction.specs.declared.Refusal.TheVariants.{A1, A2, A3, A4, A5, A6, A7, A8, A9, A10}
use Rattle.optra_records.specs.Reading.{Record}
use Rattle.optra_text.specs.PlanTexts.{head_records, train_records}

-- what became of an action of a round: the row of the action, and why it was refused, if it was
abbrev pub Outcome : Type 0
Outcome = ℕ × Option Refusal

-- a round: its number, what became of its actions, the bids that were planned with the names of their specifications, the plan,
-- and how many graphs were built so far
pub record Round : Type 0 where
  pub round : ℕ
  pub outcomes : List Outcome
  pub bids : List Bid
  pub specs : List (List ℕ)
  pub walks : List (Option (List Leg))
  pub revenue : ℤ
  pub bound : ℤ
  pub nodes : ℕ
  pub graphs : ℕ

-- the code of a refusal
abbrev pub refusal_code : Refusal → List ℕ
refusal_code A1 = codes "A1"
refusal_code A2 = codes "A2"
refusal_code A3 = codes "A3"
refusal_code A4 = codes "A4"
refusal_code A5 = codes "A5"
refusal_code A6 = codes "A6"
refusal_code A7 = codes "A7"
refusal_code A8 = codes "A8"
refusal_code A9 = codes "A9"
refusal_code A10 = codes "A10"

abbrev pub outcome_word : Option Refusal → List ℕ
outcome_word None = codes "accepted"
outcome_word (Some why) = refusal_code why

-- action,<row>,accepted or action,<row>,<code>
abbrev pub outcome_record : Outcome → Record
outcome_record outcome = codes "action" ∷ decimal outcome.0 ∷ outcome_word outcome.1 ∷ []

-- whether a bid is served
abbrev pub won_word : Option (List Leg) → List ℕ
won_word None = codes "lost"
won_word (Some legs) = codes "won"

-- bid,<bid>,<bidder>,<spec>,<amount>,won or bid,<bid>,<bidder>,<spec>,<amount>,lost
abbrev pub standing_record : List ℕ → Bid → Option (List Leg) → Record
standing_record spec bid walk = codes "bid" ∷ bid.name ∷ bid.bidder ∷ spec ∷ signed_decimal bid.money.base ∷ won_word walk ∷ []

-- the standing bids in order
abbrev pub standing_records : List (List ℕ) → List Bid → List (Option (List Leg)) → List Record
standing_records [] bids walks = []
standing_records (spec ∷ specs) [] walks = []
standing_records (spec ∷ specs) (bid ∷ bids) [] = []
standing_records (spec ∷ specs) (bid ∷ bids) (walk ∷ walks) = standing_record spec bid walk ∷ standing_records specs bids walks

-- a word and a count
abbrev pub count_record : List ℕ → ℕ → Record
count_record word count = word ∷ decimal count ∷ []

-- the records of a round; bids are numbered from 1
abbrev pub round_records : Net → Round → List Record
round_records net r =
    (count_record (codes "round") r.round ∷ []) ++ map outcome_record r.outcomes ++ head_records r.revenue r.bound r.nodes
    ++ standing_records r.specs r.bids r.walks ++ train_records net 1 r.bids r.walks ++ count_record (codes "graphs") r.graphs ∷ []

-- what is printed after the last round: its number, the rows of the actions of later rounds, and the winners, each with its
-- name, its bidder and its value
pub record Close : Type 0 where
  pub round : ℕ
  pub late : List ℕ
  pub awards : List (List ℕ × List ℕ × ℤ)

-- action,<row>,A9
abbrev pub late_record : ℕ → Record
late_record row = codes "action" ∷ decimal row ∷ codes "A9" ∷ []

-- award,<bid>,<bidder>,<value>
abbrev pub award_record : List ℕ × List ℕ × ℤ → Record
award_record award = codes "award" ∷ award.0 ∷ award.1 ∷ signed_decimal award.2 ∷ []

-- the records after the last round
abbrev pub close_records : Close → List Record
close_records c = (count_record (codes "closed") c.round ∷ []) ++ map late_record c.late ++ map award_record c.awards
