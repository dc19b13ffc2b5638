-- What becomes of actions, one after another, and what is known of the bids that stand after them.
use Rattle.std.specs.Prelude.{ℕ, ℤ, nat_eq, nat_lt, not, List, [], ◌∷◌, filter, map, Option, option_map, slice_get, unwrap_or}
use Rattle.std.specs.List.{filter_map, zip}
use Rattle.optra_network.specs.Net.{Net}
use Rattle.optra_bid.specs.declared.bids.Bid.{Bid}
use Rattle.optra_walk.specs.declared.Leg.{Leg}
use Rattle.optra_walk.specs.Values.{value_of}
use Rattle.optra_auction.specs.Machine.{Standing, State, after_all, refusals_of}
pub use Rattle.optra_auction.specs.Machine.{after_any}
use Rattle.optra_auction.specs.declared.Act.{Act}
use Rattle.optra_auction.specs.declared.Refusal.{Refusal}
use Rattle.optra_tables.specs.declared.TimedAct.{TimedAct}

-- ---- actions

-- what actions ask for, without their rounds and rows
abbrev pub asked_of : List TimedAct → List Act
asked_of actions = map (λ (a : TimedAct). a.act) actions

-- the rows of actions
abbrev pub rows_of : List TimedAct → List ℕ
rows_of actions = map (λ (a : TimedAct). a.row) actions

-- the auction after actions, one after another
abbrev pub after_acts : State → List TimedAct → State
after_acts s actions = after_all s (asked_of actions)

-- what became of actions, one after another: the row of each, and why it was refused, if it was
abbrev pub outcomes : State → List TimedAct → List (ℕ × Option Refusal)
outcomes s actions = zip (rows_of actions) (refusals_of s (asked_of actions))

-- the actions of a round, in their order
abbrev pub acts_of : ℕ → List TimedAct → List TimedAct
acts_of round actions = filter (λ a. nat_eq a.round round) actions

-- those that are none of a round
abbrev pub other_acts : ℕ → List TimedAct → List TimedAct
other_acts round actions = filter (λ a. not (nat_eq a.round round)) actions

-- the actions of later rounds
abbrev pub acts_after : ℕ → List TimedAct → List TimedAct
acts_after round actions = filter (λ a. nat_lt round a.round) actions

-- ---- the bids that stand

-- the name of the specification of each
abbrev pub standing_specs : List (List ℕ) → List Standing → List (List ℕ)
standing_specs names standing = map (λ (b : Standing). unwrap_or (slice_get names b.spec) []) standing

-- the value of each bid's walk, where it is served
abbrev pub values_of : Net → List Bid → List (Option (List Leg)) → List (Option ℤ)
values_of net [] walks = []
values_of net (bid ∷ bids) [] = []
values_of net (bid ∷ bids) (walk ∷ walks) = option_map (value_of net bid.path bid.money) walk ∷ values_of net bids walks

-- a winner: its name, its bidder and its value
abbrev pub award_of : Standing → Option (List ℕ × List ℕ × ℤ)
award_of b = option_map (λ value. (b.name, b.bidder, value)) b.won

-- the winners, in order
abbrev pub awards_of : List Standing → List (List ℕ × List ℕ × ℤ)
awards_of standing = filter_map award_of standing
