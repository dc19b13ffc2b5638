-- When a builder refuses a call, in which order, and what an accepted call adds.
use Rattle.std.specs.Prelude.{◌≡◌, ℕ, false, ◌&&◌, ◌||◌, not, nat_le, nat_eq, Bool, List, [], ◌∷◌, ◌++◌, length, slice_index, Option, None, Some, is_some, is_none, Result, MatchResult, if◌then◌else◌, ◌==◌, ⊤}
use Rattle.std.specs.Option.{option_map, option_and_then}
use Rattle.optra_network.specs.declared.StationId.{StationId}
use Rattle.optra_network.specs.declared.TrackId.{TrackId}
use Rattle.optra_network.specs.declared.TypeId.{TypeId}
use Rattle.optra_network.specs.declared.Times.{Times}
use Rattle.optra_network.specs.Names.{place_of}
use Rattle.optra_network.specs.Net.{Net, HasAllHeadways, HasBothWays, IsWithinReach, times_of, headway_of, crossing_of}
use Rattle.optra_network.specs.declared.NetRefusal.{NetRefusal}
use Rattle.optra_network.specs.declared.NetRefusal.TheVariants.{TakenName, UnknownName, Range, SelfLoop, Repeated, MissingHeadway, TooMany, OneWayCrossing, Reach}
use Rattle.optra_network.specs.declared.NetFault.{NetFault}
use Rattle.optra_network.specs.declared.NetFault.TheVariants.{Refused, NoMemory}

-- the refusal of the first test that holds
abbrev pub first_of : {R : Type 0} → List (Bool × R) → Option R
first_of [] = None
first_of (t ∷ ts) = if t.0 then Some t.1 else first_of ts

-- a fault is the refusal by the rule, or want of memory
abbrev pub IsFaultBy : Option NetRefusal → NetFault → Type 0
IsFaultBy rule (Refused why) = rule ≡ Some why
IsFaultBy rule NoMemory = ⊤

-- the call answers Ok only where the rule refuses nothing, and a refusal only where the rule gives that one
abbrev pub FollowsRule : {T : Type 0} → Option NetRefusal → Result T NetFault → Type 0
FollowsRule rule result = MatchResult result (λ _. rule ≡ None) (IsFaultBy rule)

-- crossings are refused where one isn't there in its other direction, and else where they reach too far
abbrev pub IsCrossingFault : Net → NetFault → Type 0
IsCrossingFault net (Refused OneWayCrossing) = ¬ HasBothWays net
IsCrossingFault net (Refused Reach) = HasBothWays net × ¬ IsWithinReach net
IsCrossingFault net (Refused why) = ⊥
IsCrossingFault net NoMemory = ⊤

-- `finish` refuses a missing headway, and else what it refuses of crossings
abbrev pub IsFinishFault : Net → NetFault → Type 0
IsFinishFault net (Refused MissingHeadway) = ¬ HasAllHeadways net
IsFinishFault net (Refused OneWayCrossing) = HasAllHeadways net × ¬ HasBothWays net
IsFinishFault net (Refused Reach) = HasAllHeadways net × HasBothWays net × ¬ IsWithinReach net
IsFinishFault net (Refused why) = ⊥
IsFinishFault net NoMemory = ⊤

-- a station: too many, then a taken name
abbrev pub station_refusal : Net → List ℕ → Option NetRefusal
station_refusal net name = first_of ((nat_le 300 (length net.stations), TooMany) ∷ (is_some (place_of name net.stations), TakenName) ∷ [])

-- a station with a limit: too many, then a taken name, then too great a limit
abbrev pub limited_refusal : Net → List ℕ → ℕ → Option NetRefusal
limited_refusal net name halt_max =
    first_of (
    (nat_le 300 (length net.stations), TooMany)
    ∷ (is_some (place_of name net.stations), TakenName)
    ∷ (not (nat_le halt_max 1000), Range)
    ∷ [])

-- the limits with that of the station at a position, where it has one
abbrev pub with_limit : List (ℕ × ℕ) → ℕ → ℕ → List (ℕ × ℕ)
with_limit limits station halt_max = if halt_max == 0 then limits else limits ++ (station, halt_max) ∷ []

-- the network with this station and its limit
abbrev pub after_limited : Net → List ℕ → ℕ → Net
after_limited net name halt_max = record net { stations = net.stations ++ name ∷ []; limits = with_limit net.limits (length net.stations) halt_max }

-- a type: too many, then a taken name
abbrev pub type_refusal : Net → List ℕ → Option NetRefusal
type_refusal net name = first_of ((nat_le 16 (length net.types), TooMany) ∷ (is_some (place_of name net.types), TakenName) ∷ [])

-- whether two places are there and the same
abbrev pub same_place : Option ℕ → Option ℕ → Bool
same_place (Some a) (Some b) = nat_eq a b
same_place (Some a) None = false
same_place None b = false

-- a track: too many, then a taken name, then an unknown station, then one station at both ends
abbrev pub track_refusal : Net → List ℕ → List ℕ → List ℕ → Option NetRefusal
track_refusal net name from to =
    first_of (
    (nat_le 1000 (length net.tracks), TooMany)
    ∷ (is_some (place_of name net.track_names), TakenName)
    ∷ (is_none (place_of from net.stations) || is_none (place_of to net.stations), UnknownName)
    ∷ (same_place (place_of from net.stations) (place_of to net.stations), SelfLoop)
    ∷ [])

-- the track of a name
abbrev pub track_named : Net → List ℕ → Option TrackId
track_named net name = option_map (λ n. record { 0 = n }) (place_of name net.track_names)

-- the type of a name
abbrev pub type_named : Net → List ℕ → Option TypeId
type_named net name = option_map (λ n. record { 0 = n }) (place_of name net.types)

-- the station of a name
abbrev pub station_named : Net → List ℕ → Option StationId
station_named net name = option_map (λ n. record { 0 = n }) (place_of name net.stations)

-- whether a number is of a range, both ends included
abbrev pub is_from_to : ℕ → ℕ → ℕ → Bool
is_from_to low high n = nat_le low n && nat_le n high

-- whether four running times are 1 to 240 minutes
abbrev pub are_minutes : List ℕ → Bool
are_minutes times =
    is_from_to 1 240 (slice_index times 0) && is_from_to 1 240 (slice_index times 1) && is_from_to 1 240 (slice_index times 2) && is_from_to 1 240 (slice_index times 3)

-- running times: an unknown track or type, then a time out of range, then a row that is there already
abbrev pub running_refusal : Net → List ℕ → List ℕ → List ℕ → Option NetRefusal
running_refusal net track kind times =
    first_of (
    (is_none (track_named net track) || is_none (type_named net kind), UnknownName)
    ∷ (not (are_minutes times), Range)
    ∷ (is_some (option_and_then (λ t. option_and_then (λ k. times_of net t k) (type_named net kind)) (track_named net track)), Repeated)
    ∷ [])

-- a headway: an unknown track or type, then minutes out of range, then a row that is there already
abbrev pub headway_refusal : Net → List ℕ → List ℕ → List ℕ → ℕ → Option NetRefusal
headway_refusal net track first second minutes =
    first_of (
    (is_none (track_named net track) || is_none (type_named net first) || is_none (type_named net second), UnknownName)
    ∷ (not (is_from_to 1 120 minutes), Range)
    ∷ (is_some (option_and_then (λ t. option_and_then (λ a. option_and_then (λ b. headway_of net t a b) (type_named net second)) (type_named net first)) (track_named net track)), Repeated)
    ∷ [])

-- the crossing between two tracks of these names for two types of these names
abbrev pub crossing_named : Net → List ℕ → List ℕ → List ℕ → List ℕ → Option ℕ
crossing_named net first_track second_track first second =
    option_and_then (λ t. option_and_then (λ u. option_and_then (λ a. option_and_then (λ b. crossing_of net t u a b)
    (type_named net second)) (type_named net first)) (track_named net second_track)) (track_named net first_track)

-- a crossing: an unknown track or type, then one track twice, then minutes out of range, then a row that is there already
abbrev pub crossing_refusal : Net → List ℕ → List ℕ → List ℕ → List ℕ → ℕ → Option NetRefusal
crossing_refusal net first_track second_track first second minutes =
    first_of (
    (is_none (track_named net first_track) || is_none (track_named net second_track) || is_none (type_named net first) || is_none (type_named net second), UnknownName)
    ∷ (same_place (place_of first_track net.track_names) (place_of second_track net.track_names), SelfLoop)
    ∷ (not (is_from_to 1 120 minutes), Range)
    ∷ (is_some (crossing_named net first_track second_track first second), Repeated)
    ∷ [])

-- the four numbers in order
abbrev pub times_from : List ℕ → Times
times_from times = record { pass_pass = slice_index times 0; pass_halt = slice_index times 1; halt_pass = slice_index times 2; halt_halt = slice_index times 3 }

-- the network with these running times; none where a name is not there
abbrev pub after_running : Net → List ℕ → List ℕ → List ℕ → Option Net
after_running net track kind times =
    option_and_then (λ t. option_map (λ k. record net { running = net.running ++ ((t, k), times_from times) ∷ [] }) (place_of kind net.types)) (place_of track net.track_names)

-- the network with this headway; none where a name is not there
abbrev pub after_headway : Net → List ℕ → List ℕ → List ℕ → ℕ → Option Net
after_headway net track first second minutes =
    option_and_then (λ t. option_and_then (λ a. option_map (λ b. record net { headways = net.headways ++ ((t, a, b), minutes) ∷ [] })
    (place_of second net.types)) (place_of first net.types)) (place_of track net.track_names)

-- the network with this crossing; none where a name is not there
abbrev pub after_crossing : Net → List ℕ → List ℕ → List ℕ → List ℕ → ℕ → Option Net
after_crossing net first_track second_track first second minutes =
    option_and_then (λ t. option_and_then (λ u. option_and_then (λ a. option_map (λ b. record net { crossings = net.crossings ++ ((t, u, a, b), minutes) ∷ [] })
    (place_of second net.types)) (place_of first net.types)) (place_of second_track net.track_names)) (place_of first_track net.track_names)

-- the network with this track; none where a station is not there
abbrev pub after_track : Net → List ℕ → List ℕ → List ℕ → Option Net
after_track net name from to =
    option_and_then (λ a. option_map (λ b. record net { track_names = net.track_names ++ name ∷ []; tracks = net.tracks ++ record { tail = record { 0 = a }; head = record { 0 = b } } ∷ [] })
    (place_of to net.stations)) (place_of from net.stations)
