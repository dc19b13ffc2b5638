-- Ways by which a train leaves a station, and the legs by them.
use Rattle.std.specs.Prelude.{◌≡◌, ℕ, ◌+◌, ◌<◌, ◌≤◌, List, length, Some, slice_index_or}
use Rattle.optra_network.specs.Net.{Net, MayUse}
use Rattle.optra_network.specs.declared.TrackId.{TrackId}
use Rattle.optra_bid.specs.Specs.{Path}
use Rattle.optra_bid.specs.declared.Stop.{Stop}
use Rattle.optra_walk.specs.declared.Action.{Action}
use Rattle.optra_walk.specs.declared.Action.TheVariants.{Pass, Halt, Wait, Finish}
use Rattle.optra_walk.specs.declared.Leg.{Leg}
use Rattle.optra_walk.specs.Legs.{arrival_of}
use Rattle.optra_walk.specs.Walks.{head_of, tail_of}
use Rattle.optra_walk.specs.declared.state.State.{State}
use Rattle.optra_walk.specs.Moves.{leg_by}
use Rattle.optra_rests.specs.declared.ways.Way.{Way}

-- the train may leave by the track, and arrives at its head then, by whether it passes or halts there
pub record IsWay (net : Net) (path : Path) (s : State) (way : Way) : Type 0 where
  pub tail : tail_of net (leg_by s way.track Pass) ≡ Some s.station
  pub head : head_of net (leg_by s way.track Pass) ≡ Some way.head
  pub station : way.head.0 < length net.stations
  pub may_use : MayUse net way.track path.kind
  pub pass : arrival_of net path.kind (leg_by s way.track Pass) ≡ Some way.pass
  pub halt : arrival_of net path.kind (leg_by s way.track Finish) ≡ Some way.halt
  pub pass_later : s.minute < way.pass
  pub halt_later : s.minute < way.halt
  pub pass_bound : way.pass ≤ s.minute + 240
  pub halt_bound : way.halt ≤ s.minute + 240

-- the train arrives at the stop's station within its span when it halts at the head of the way
abbrev pub IsAtStop : Stop → Way → Type 0
IsAtStop stop way = (stop.station ≡ way.head) × (stop.arrive.from ≤ way.halt) × (way.halt ≤ stop.arrive.to)

-- all stops are done, and the train arrives at the destination within the arrival window when it halts at the head of the way
abbrev pub IsAtEnd : Path → Way → Type 0
IsAtEnd path way = (way.from.done ≡ length path.stops) × (way.head ≡ path.destination) × (path.arrive.from ≤ way.halt) × (way.halt ≤ path.arrive.to)

-- a leg on the track
abbrev pub IsOn : TrackId → Leg → Type 0
IsOn track leg = leg.track ≡ track

-- the leg from the state on the track with the action
abbrev pub IsLegBy : State → TrackId → Action → Leg → Type 0
IsLegBy s track action leg = leg ≡ leg_by s track action

-- a leg from the state on the track with a halt of fewer minutes
abbrev pub IsHaltBelow : State → TrackId → ℕ → Leg → Type 0
IsHaltBelow s track before leg = (d : ℕ) × (d < before) × (leg ≡ leg_by s track (Halt d))

-- a leg from the state on the track with a halt
abbrev pub IsHaltBy : State → TrackId → Leg → Type 0
IsHaltBy s track leg = (d : ℕ) × (leg ≡ leg_by s track (Halt d))

-- a leg from the state on the track with a wait of fewer minutes
abbrev pub IsWaitBelow : State → TrackId → ℕ → Leg → Type 0
IsWaitBelow s track before leg = (d : ℕ) × (d < before) × (leg ≡ leg_by s track (Wait d))

-- a leg from the state on the track with a wait
abbrev pub IsWaitBy : State → TrackId → Leg → Type 0
IsWaitBy s track leg = (d : ℕ) × (leg ≡ leg_by s track (Wait d))

-- a leg on one of the first tracks
abbrev pub IsOnFirst : List TrackId → ℕ → Leg → Type 0
IsOnFirst tracks count leg = (k : ℕ) × (k < count) × (k < length tracks) × (slice_index_or tracks k leg.track ≡ leg.track)
