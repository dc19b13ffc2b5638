-- The steps of a state: its legs in order, each with the place that it leads to.
use Rattle.std.specs.Prelude.{◌≡◌, ℕ, ◌+◌, ◌*◌, ◌<◌, ◌≤◌, ◌⊎◌, false, List, length, slice_index_or, All, Contains, Some}
use Rattle.std.specs.List.{AllPairs}
use Rattle.optra_network.specs.Net.{Net, MayUse}
use Rattle.optra_network.specs.declared.TrackId.{TrackId}
use Rattle.optra_bid.specs.Specs.{Path}
use Rattle.optra_walk.specs.declared.Action.{Action}
use Rattle.optra_walk.specs.declared.Action.TheVariants.{Pass, Finish}
use Rattle.optra_walk.specs.declared.Leg.{Leg}
use Rattle.optra_walk.specs.Legs.{dwell_of, arrival_of}
use Rattle.optra_walk.specs.Orders.{action_rank}
use Rattle.optra_walk.specs.Walks.{head_of, tail_of}
use Rattle.optra_walk.specs.declared.state.State.{State}
use Rattle.optra_graph.specs.declared.states.Layout.{Layout}
use Rattle.optra_graph.specs.declared.stepping.Step.{Step}
use Rattle.optra_graph.specs.declared.stepping.Way.{Way}
use Rattle.optra_walk.specs.Moves.{IsMove, IsAfter, leg_by}
use Rattle.optra_graph.specs.Places.{IsTimely, deadline_of, place_of, places_of}

-- a leg that finishes leads to the end, any other one to the place of the state after it, which is in time
abbrev pub LeadsTo : Net → Path → Layout → State → Leg → ℕ → Type 0
LeadsTo net path layout s leg to =
    ((leg.action ≡ Finish) × (to ≡ places_of layout))
    ⊎ ((after : State) × IsAfter net path s leg after × IsTimely layout after × (to ≡ place_of layout after))

pub record IsStep (net : Net) (path : Path) (layout : Layout) (s : State) (step : Step) : Type 0 where
  pub move : IsMove net path s step.leg
  pub leads : LeadsTo net path layout s step.leg step.to

-- legs of a state ascend by track, then by action, then by dwell, which is below 256
abbrev pub bound_of : ℕ → ℕ → ℕ
bound_of track rank = (track * 4 + rank) * 256

abbrev pub key_of : Leg → ℕ
key_of leg = bound_of leg.track.0 (action_rank leg.action) + dwell_of leg.action

abbrev pub Ascend : List Step → Type 0
Ascend steps = AllPairs (λ a b. key_of a.leg < key_of b.leg) steps

-- exactly the steps of the state, ascending
pub record AreSteps (net : Net) (path : Path) (layout : Layout) (s : State) (steps : List Step) : Type 0 where
  pub sound : All (IsStep net path layout s) steps
  pub rising : Ascend steps
  pub whole : (step : Step) → IsStep net path layout s step → Contains steps step

-- exactly the steps of the state whose key is below the bound, ascending
pub record AreStepsBelow (net : Net) (path : Path) (layout : Layout) (s : State) (bound : ℕ) (steps : List Step) : Type 0 where
  pub sound : All (IsStep net path layout s) steps
  pub below : All (λ step. key_of step.leg < bound) steps
  pub rising : Ascend steps
  pub whole : (step : Step) → IsStep net path layout s step → key_of step.leg < bound → Contains steps step

-- the train may leave by the track, and arrives at its head then, by whether it passes or halts there
pub record IsWay (net : Net) (path : Path) (layout : Layout) (s : State) (way : Way) : Type 0 where
  pub tail : tail_of net (leg_by s way.track Pass) ≡ Some s.station
  pub head : head_of net (leg_by s way.track Pass) ≡ Some way.head
  pub station : way.head.0 < length net.stations
  pub may_use : MayUse net way.track path.kind
  pub pass : arrival_of net path.kind (leg_by s way.track Pass) ≡ Some way.pass
  pub halt : arrival_of net path.kind (leg_by s way.track Finish) ≡ Some way.halt
  pub pass_later : s.minute < way.pass
  pub halt_later : s.minute < way.halt
  pub pass_bound : way.pass ≤ s.minute + 240
  pub halt_bound : way.halt ≤ s.minute + 240
  pub deadline : way.deadline ≡ deadline_of layout s.done way.head

-- the tracks before an index come before track n, and the others do not
pub record IsSplit (tracks : List TrackId) (index n : ℕ) : Type 0 where
  pub early : (k : ℕ) (d : TrackId) → k < index → k < length tracks → (slice_index_or tracks k d).0 < n
  pub late : (k : ℕ) (d : TrackId) → index ≤ k → k < length tracks → n ≤ (slice_index_or tracks k d).0

-- what is read beyond a list of steps
abbrev pub no_step : Step
no_step = record { leg = record { track = record { 0 = 0 }; depart = 0; from_halt = false; action = Pass }; to = 0 }
