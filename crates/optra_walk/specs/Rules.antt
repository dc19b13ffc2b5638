-- The rules on all trains together that networks with crossings and limits of stations have beside the headway rule. Where a
-- network has neither, every list of trains keeps them.
use Rattle.std.specs.Prelude.{◌≡◌, ◌≢◌, ℕ, ◌+◌, ◌≤◌, ◌<◌, ◌⊎◌, ◌&&◌, nat_eq, nat_le, nat_lt, Bool, true, false, List, count_by, Option, Some, IsSomeAnd, slice_get}
use Rattle.std.specs.Option.{option_map, option_map_or}
use Rattle.optra_network.specs.Net.{Net, crossing_of, halt_max_of}
use Rattle.optra_network.specs.declared.StationId.{StationId}
use Rattle.optra_network.specs.declared.TrackId.{TrackId}
use Rattle.optra_network.specs.declared.TypeId.{TypeId}
use Rattle.optra_network.specs.declared.TrackUse.{TrackUse}
use Rattle.optra_walk.specs.declared.Action.{Action}
use Rattle.optra_walk.specs.declared.Action.TheVariants.{Pass, Halt, Wait, Finish}
use Rattle.optra_walk.specs.declared.Leg.{Leg}
use Rattle.optra_walk.specs.Families.{Entry}
use Rattle.optra_walk.specs.Legs.{arrival_of, next_depart_of}

-- ---- crossings

-- where a crossing is there from a first use to a second one, the second comes at least its minutes after the first, or
-- the first at least the minutes of its other direction after the second
abbrev pub KeepsCrossing : Net → TrackUse → TrackUse → Type 0
KeepsCrossing net a b =
    (minutes : ℕ) → crossing_of net a.track b.track a.kind b.kind ≡ Some minutes
    → (a.time + minutes ≤ b.time) ⊎ IsSomeAnd (crossing_of net b.track a.track b.kind a.kind) (λ back. b.time + back ≤ a.time)

-- every two uses of different tracks keep their crossing
abbrev pub KeepsCrossings : Net → List TrackUse → Type 0
KeepsCrossings net uses =
    (i j : ℕ) (a b : TrackUse) → a.track ≢ b.track → slice_get uses i ≡ Some a → slice_get uses j ≡ Some b → KeepsCrossing net a b

-- ---- halts

-- whether the train stands at the head of the track: it halts or waits there
abbrev pub is_standing : Action → Bool
is_standing Pass = false
is_standing (Halt dwell) = true
is_standing (Wait dwell) = true
is_standing Finish = false

-- the station that the track leads to
abbrev pub head_of : Net → TrackId → Option StationId
head_of net track = option_map (λ t. t.head) (slice_get net.tracks track.0)

-- whether a leg stands at the station in the minute: it halts or waits at its track's head, from its arrival up to, but not
-- including, its next departure
abbrev pub stands_at : Net → TypeId → Leg → StationId → ℕ → Bool
stands_at net kind leg station minute =
    is_standing leg.action
    && option_map_or (λ s. nat_eq s.0 station.0) (head_of net leg.track) false
    && option_map_or (λ arrival. nat_le arrival minute) (arrival_of net kind leg) false
    && option_map_or (λ departure. nat_lt minute departure) (next_depart_of net kind leg) false

-- at each station with a limit at most so many legs stand in each minute of the two days
abbrev pub KeepsHalts : Net → List Entry → Type 0
KeepsHalts net entries =
    (station : StationId) (minute : ℕ) → 0 < halt_max_of net station → minute ≤ 2879
    → count_by (λ e. stands_at net e.0 e.1 station minute) entries ≤ halt_max_of net station
