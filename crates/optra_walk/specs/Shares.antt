-- What the start, the legs and the end of a walk have of its value, each on its own. In thousandths of a cent, but where it
-- says cents.
use Rattle.std.specs.Prelude.{ℕ, List, fold, Option, unwrap_or, ℤ, pos, negsuc, ◌+ℤ◌, ◌-ℤ◌, ◌*ℤ◌}
use Rattle.optra_network.specs.Net.{Net}
use Rattle.optra_bid.specs.Specs.{IsBetween}
use Rattle.optra_bid.specs.declared.bids.Bid.{Bid}
use Rattle.optra_walk.specs.declared.Action.{Action}
use Rattle.optra_walk.specs.declared.Action.TheVariants.{Pass, Halt, Wait, Finish}
use Rattle.optra_walk.specs.declared.Leg.{Leg}
use Rattle.optra_walk.specs.Legs.{arrival_of}
use Rattle.optra_walk.specs.Values.{price_off}

-- the sum of a signed number of each element
abbrev pub sum_of : {X : Type 0} → (X → ℤ) → List X → ℤ
sum_of f xs = fold (λ s x. s +ℤ f x) (pos 0) xs

-- what a start at the minute gives: the base, less the price of the minutes off the ideal departure; the minutes before the
-- start are given back, since the end takes all minutes up to it
abbrev pub start_value : Bid → ℕ → ℤ
start_value bid minute =
    pos 1000 *ℤ (bid.money.base -ℤ price_off bid.path.depart.ideal bid.money.early_depart bid.money.late_depart minute +ℤ bid.money.travel *ℤ pos minute)

-- what an end at the minute takes
abbrev pub end_price : Bid → ℕ → ℤ
end_price bid minute =
    pos 1000 *ℤ (price_off bid.path.arrive.ideal bid.money.early_arrive bid.money.late_arrive minute +ℤ bid.money.travel *ℤ pos minute)

-- what a wait takes
abbrev pub wait_price : Bid → ℕ → ℤ
wait_price bid minutes = pos 1000 *ℤ (bid.money.wait *ℤ pos minutes)

-- what an action takes, by the arrival of its leg
abbrev pub action_price : Bid → Option ℕ → Action → ℤ
action_price bid arrival Pass = pos 0
action_price bid arrival (Halt dwell) = pos 0
action_price bid arrival (Wait dwell) = wait_price bid dwell
action_price bid arrival Finish = end_price bid (unwrap_or arrival 0)

-- what a leg takes of the value of its walk
abbrev pub share_of : Net → Bid → Leg → ℤ
share_of net bid leg = action_price bid (arrival_of net bid.path.kind leg) leg.action

-- what a leg adds to the value of its walk
abbrev pub leg_value : Net → Bid → Leg → ℤ
leg_value net bid leg = pos 0 -ℤ action_price bid (arrival_of net bid.path.kind leg) leg.action

-- ---- ranges

-- in cents, what a bid offers at most
abbrev pub IsBase : ℤ → Type 0
IsBase cents = IsBetween (pos 0) (pos 1000000000) cents

-- in cents, a rate for fewer than 2^17 minutes
abbrev pub IsTimePrice : ℤ → Type 0
IsTimePrice cents = IsBetween (pos 0) (pos 131072000000) cents

-- in cents, two rates, each for fewer than 2^17 minutes
abbrev pub IsOffPrice : ℤ → Type 0
IsOffPrice cents = IsBetween (pos 0) (pos 262144000000) cents

-- in cents, what is taken
abbrev pub IsTakenCents : ℤ → Type 0
IsTakenCents cents = IsBetween (pos 0) (pos 1000000000000) cents

-- in cents, what is added
abbrev pub IsAddedCents : ℤ → Type 0
IsAddedCents cents = IsBetween (negsuc 999999999999) (pos 1000000000000) cents

-- what is taken
abbrev pub IsTaken : ℤ → Type 0
IsTaken share = IsBetween (pos 0) (pos 1000000000000000) share

-- what is added
abbrev pub IsAdded : ℤ → Type 0
IsAdded share = IsBetween (negsuc 999999999999999) (pos 1000000000000000) share
