-- The rest of a walk from a state on, what it is worth, and the best of the rests.
use Rattle.std.specs.Prelude.{◌≡◌, ℕ, ◌-◌, ◌*◌, true, List, [], ◌∷◌, All, Option, None, Some, IfSome, ⊤, if◌then◌else◌}
use Rattle.std.specs.Prelude.{ℤ, pos, ◌-ℤ◌}
use Rattle.std.specs.Int.{int_max}
use Rattle.optra_network.specs.Net.{Net}
use Rattle.optra_bid.specs.Specs.{Path, IsBetween}
use Rattle.optra_bid.specs.declared.bids.Bid.{Bid}
use Rattle.optra_walk.specs.declared.Leg.{Leg}
use Rattle.optra_walk.specs.declared.state.State.{State}
use Rattle.optra_walk.specs.Moves.{Runs}
use Rattle.optra_walk.specs.Shares.{share_of}
use Rattle.optra_node.specs.Duals.{IsGreatest}
use Rattle.optra_rests.specs.Weights.{Weights}

-- what a rest adds to the worth of a walk
abbrev pub rest_worth : Weights → Net → Bid → List Leg → ℤ
rest_worth w net bid [] = pos 0
rest_worth w net bid (leg ∷ rest) = rest_worth w net bid rest -ℤ share_of net bid leg -ℤ w.cost_of leg

-- a rest from the state whose legs a walk may have
pub record IsOpenRest (w : Weights) (net : Net) (path : Path) (s : State) (legs : List Leg) : Type 0 where
  pub rest : Runs net path s legs
  pub each : All (λ leg. w.may_have leg ≡ true) legs

-- what one of these rests is worth, of those whose first leg is of a kind
abbrev pub IsRestWorth : Weights → Net → Bid → State → (Leg → Type 0) → ℤ → Type 0
IsRestWorth w net bid s First n =
    (leg : Leg) × (rest : List Leg) × First leg × IsOpenRest w net bid.path s (leg ∷ rest) × (n ≡ rest_worth w net bid (leg ∷ rest))

-- the greatest of some numbers; none exactly where there are none
abbrev pub IsGreatestOf : (ℤ → Type 0) → Option ℤ → Type 0
IsGreatestOf C None = (n : ℤ) → C n → ⊥
IsGreatestOf C (Some n) = IsGreatest C n

-- what a rest from the minute on may be worth: at least -2^61 for each minute up to the end of the two days
abbrev pub IsRestSize : ℕ → ℤ → Type 0
IsRestSize minute n = IsBetween (pos 0 -ℤ pos ((2880 - minute) * 2305843009213693952)) (pos 0) n

-- the greatest worth of the rests from the state whose first leg is of a kind; none exactly where there are none
pub record IsBestRest (w : Weights) (net : Net) (bid : Bid) (s : State) (First : Leg → Type 0) (best : Option ℤ) : Type 0 where
  pub greatest : IsGreatestOf (IsRestWorth w net bid s First) best
  pub size : IfSome best (IsRestSize s.minute)

-- every leg
abbrev pub AnyLeg : Leg → Type 0
AnyLeg leg = ⊤

-- the greater of two numbers, of which either may be missing
abbrev pub greater_of : Option ℤ → Option ℤ → Option ℤ
greater_of None b = b
greater_of (Some x) None = Some x
greater_of (Some x) (Some y) = Some (int_max x y)

-- what a rest is worth that begins with the leg, by the leg's share and what the rest behind it is worth; none where there is no such rest
abbrev pub worth_by : Weights → Leg → ℤ → Option ℤ → Option ℤ
worth_by w leg share None = None
worth_by w leg share (Some n) = if w.may_have leg then Some (n -ℤ share -ℤ w.cost_of leg) else None
