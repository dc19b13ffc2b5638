-- The best of the walks that start at some of the minutes.
use Rattle.std.specs.Prelude.{◌≡◌, ℕ, ◌<◌, List, Option, IfSome}
use Rattle.std.specs.Prelude.{ℤ}
use Rattle.optra_network.specs.Net.{Net}
use Rattle.optra_bid.specs.declared.bids.Bid.{Bid}
use Rattle.optra_walk.specs.declared.Leg.{Leg}
use Rattle.optra_walk.specs.Values.{first_departure}
use Rattle.optra_rests.specs.Weights.{Weights, IsOpenWalk, worth_of, IsWorthSize}
use Rattle.optra_rests.specs.Rests.{IsGreatestOf}

-- what a walk is worth that may have its start and its legs, of those that start at one of these minutes
abbrev pub IsStartWorth : Weights → Net → Bid → (ℕ → Type 0) → ℤ → Type 0
IsStartWorth w net bid Start n =
    (legs : List Leg) × Start (first_departure legs) × IsOpenWalk w net bid.path legs × (n ≡ worth_of w net bid legs)

-- the greatest of these; none exactly where there are none
pub record IsBestStart (w : Weights) (net : Net) (bid : Bid) (Start : ℕ → Type 0) (best : Option ℤ) : Type 0 where
  pub greatest : IsGreatestOf (IsStartWorth w net bid Start) best
  pub size : IfSome best IsWorthSize

-- one minute
abbrev pub IsAt : ℕ → ℕ → Type 0
IsAt minute m = m ≡ minute

-- the minutes before one
abbrev pub IsBefore : ℕ → ℕ → Type 0
IsBefore minute m = m < minute
