-- A walk as a run from state to state: where it begins, which legs a state has, which state comes after a leg, and where it
-- ends.
use Rattle.std.specs.Prelude.{◌≡◌, ℕ, ◌+◌, ◌⊎◌, true, not, List, [], ◌∷◌, length, slice_get, Some, IsSomeAnd, ⊤}
use Rattle.optra_network.specs.Net.{Net, MayUse, IsFromTo}
use Rattle.optra_network.specs.declared.TrackId.{TrackId}
use Rattle.optra_bid.specs.Specs.{Path}
use Rattle.optra_walk.specs.declared.Action.{Action}
use Rattle.optra_walk.specs.declared.Action.TheVariants.{Pass, Halt, Wait, Finish}
use Rattle.optra_walk.specs.declared.Leg.{Leg}
use Rattle.optra_walk.specs.declared.state.State.{State}
use Rattle.optra_walk.specs.Legs.{is_pass, next_depart_of}
use Rattle.optra_walk.specs.Walks.{IsEnd, MeetsStop, tail_of, head_of}

-- the state in which a walk with this first departure begins
abbrev pub start_state : Path → ℕ → State
start_state path minute = record { station = path.origin; minute = minute; halted = true; done = 0 }

-- a leg of the state on the track
abbrev pub leg_by : State → TrackId → Action → Leg
leg_by s track action = record { track = track; depart = s.minute; from_halt = s.halted; action = action }

-- what the leg does at its head is right there, after so many stops
abbrev pub FitsAction : Net → Path → ℕ → Leg → Action → Type 0
FitsAction net path done leg Pass = ⊤
FitsAction net path done leg (Halt d) = IsSomeAnd (slice_get path.stops done) (MeetsStop net path.kind leg)
FitsAction net path done leg (Wait d) = IsFromTo 1 path.wait_max d
FitsAction net path done leg Finish = (done ≡ length path.stops) × IsEnd net path leg

-- the leg may be the next one in the state
pub record IsMove (net : Net) (path : Path) (s : State) (leg : Leg) : Type 0 where
  pub place : tail_of net leg ≡ Some s.station
  pub time : leg.depart ≡ s.minute
  pub mode : leg.from_halt ≡ s.halted
  pub may_use : MayUse net leg.track path.kind
  pub action : FitsAction net path s.done leg leg.action

-- the stops done after an action
abbrev pub done_after : Action → ℕ → ℕ
done_after Pass n = n
done_after (Halt d) n = n + 1
done_after (Wait d) n = n
done_after Finish n = n

-- the state after a leg that does not finish
pub record IsAfter (net : Net) (path : Path) (s : State) (leg : Leg) (after : State) : Type 0 where
  pub place : head_of net leg ≡ Some after.station
  pub time : next_depart_of net path.kind leg ≡ Some after.minute
  pub mode : after.halted ≡ not (is_pass leg.action)
  pub done : after.done ≡ done_after leg.action s.done

-- the legs lead from the state to the end of a walk
abbrev pub Runs : Net → Path → State → List Leg → Type 0
Runs net path s [] = ⊥
Runs net path s (leg ∷ rest) =
    IsMove net path s leg
    × (((leg.action ≡ Finish) × (rest ≡ [])) ⊎ ((after : State) × IsAfter net path s leg after × Runs net path after rest))
