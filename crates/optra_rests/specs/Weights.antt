-- What legs cost a walk, which legs and starts it may have, and the best of the walks that they leave a bid.
use Rattle.std.specs.Prelude.{◌≡◌, ℕ, Bool, true, false, List, All, Option, None, Some}
use Rattle.std.specs.Prelude.{ℤ, pos, negsuc, ◌-ℤ◌, ◌*ℤ◌}
use Rattle.optra_network.specs.Net.{Net}
use Rattle.optra_network.specs.declared.TypeId.{TypeId}
use Rattle.optra_bid.specs.Specs.{Path, IsBetween}
use Rattle.optra_bid.specs.declared.bids.Bid.{Bid}
use Rattle.optra_walk.specs.declared.Leg.{Leg}
use Rattle.optra_walk.specs.Walks.{IsWalk}
use Rattle.optra_walk.specs.Values.{first_departure, value_of}
use Rattle.optra_node.specs.Duals.{sum_of, IsGreatest}

-- the network and the train type whose legs may be asked of; the starts and the legs that a walk may have; and what
-- each of these legs costs, in thousandths of a cent
pub record Weights : Type 0 where
  pub net : Net
  pub kind : TypeId
  pub may_start : ℕ → Bool
  pub may_have : Leg → Bool
  pub cost_of : Leg → ℤ

-- the cost of a leg that a walk may have, 0 to 2^60; none for any other leg
abbrev pub TellsCost : Weights → Leg → Option ℤ → Type 0
TellsCost w leg None = w.may_have leg ≡ false
TellsCost w leg (Some n) = (w.may_have leg ≡ true) × (n ≡ w.cost_of leg) × IsBetween (pos 0) (pos 1152921504606846976) n

-- a walk may have every leg, at no cost
pub record AreAllFree (w : Weights) : Type 0 where
  pub may : (leg : Leg) → w.may_have leg ≡ true
  pub none : (leg : Leg) → w.cost_of leg ≡ pos 0

-- a walk may have both legs at one cost, or neither
abbrev pub AreAlike : Weights → Leg → Leg → Type 0
AreAlike w first second = (w.may_have first ≡ w.may_have second) × (w.cost_of first ≡ w.cost_of second)

-- the weights are of legs for the path on the network
pub record AreWeightsFor (w : Weights) (net : Net) (path : Path) : Type 0 where
  pub net_is : w.net ≡ net
  pub kind_is : w.kind ≡ path.kind

-- a walk of the path whose start and whose legs it may have
pub record IsOpenWalk (w : Weights) (net : Net) (path : Path) (legs : List Leg) : Type 0 where
  pub walk : IsWalk net path legs
  pub start : w.may_start (first_departure legs) ≡ true
  pub each : All (λ leg. w.may_have leg ≡ true) legs

-- in thousandths of a cent, the value less what the legs cost
abbrev pub worth_of : Weights → Net → Bid → List Leg → ℤ
worth_of w net bid legs = pos 1000 *ℤ value_of net bid.path bid.money legs -ℤ sum_of w.cost_of legs

-- what one of these walks of the bid is worth
abbrev pub IsWorth : Weights → Net → Bid → ℤ → Type 0
IsWorth w net bid n = (legs : List Leg) × IsOpenWalk w net bid.path legs × (n ≡ worth_of w net bid legs)

-- the greatest worth of these walks; none exactly where there is no such walk
abbrev pub IsBestWorth : Weights → Net → Bid → Option ℤ → Type 0
IsBestWorth w net bid None = (legs : List Leg) → IsOpenWalk w net bid.path legs → ⊥
IsBestWorth w net bid (Some n) = IsGreatest (IsWorth w net bid) n

-- from -2^80 to 2^80
abbrev pub IsWorthSize : ℤ → Type 0
IsWorthSize n = IsBetween (negsuc 1208925819614629174706175) (pos 1208925819614629174706176) n
