-- Where and when trains stand at stations that have a limit.
use Rattle.std.specs.Prelude.{◌≡◌, ℕ, ◌+◌, ◌<◌, ◌≤◌, ◌&&◌, nat_eq, nat_le, nat_lt, List, length, slice_index_or, Option, None, Some, filter, count_by, if◌then◌else◌}
use Rattle.std.specs.List.{filter_map}
use Rattle.std.specs.Option.{option_and_then, option_map}
use Rattle.optra_network.specs.Net.{Net, halt_max_of}
use Rattle.optra_network.specs.declared.StationId.{StationId}
use Rattle.optra_network.specs.declared.TypeId.{TypeId}
use Rattle.optra_walk.specs.declared.Leg.{Leg}
use Rattle.optra_walk.specs.Families.{Entry}
use Rattle.optra_walk.specs.Legs.{arrival_of, next_depart_of}
use Rattle.optra_walk.specs.Rules.{head_of, is_standing}
use Rattle.optra_audit.specs.declared.Over.{Over}
use Rattle.optra_audit.specs.declared.stays.Stay.{Stay}

-- a station that has a limit
abbrev pub limited : Net → StationId → Option StationId
limited net station = if nat_lt 0 (halt_max_of net station) then Some station else None

-- the stay of a leg: from its arrival up to its next departure at a station with a limit, where it halts or waits there
abbrev pub stay_of : Net → TypeId → Leg → Option Stay
stay_of net kind leg =
    if is_standing leg.action then
    option_and_then (λ station. option_and_then (λ from. option_map (λ until. record { station = station; from = from; until = until }) (next_depart_of net kind leg)) (arrival_of net kind leg))
    (option_and_then (limited net) (head_of net leg.track))
    else None

-- the stays of legs
abbrev pub stays_of : Net → List Entry → List Stay
stays_of net entries = filter_map (λ e. stay_of net e.0 e.1) entries

-- those at a station
abbrev pub stays_at : StationId → List Stay → List Stay
stays_at station stays = filter (λ stay. nat_eq stay.station.0 station.0) stays

-- how many of them last through a minute
abbrev pub standing_in : ℕ → List Stay → ℕ
standing_in minute stays = count_by (λ stay. nat_le stay.from minute && nat_lt minute stay.until) stays

-- one where the stay lasts through the minute
abbrev pub lasting : Stay → ℕ → ℕ
lasting stay minute = if nat_le stay.from minute && nat_lt minute stay.until then 1 else 0

-- counts for the minutes of the two days, each of which can grow
pub record HasRoom (counts : List ℕ) : Type 0 where
  pub long : length counts ≡ 2880
  pub small : (minute : ℕ) → minute < 2880 → slice_index_or counts minute 0 < 8000000

-- the counts are one more in each minute through which the stay lasts
pub record IsOneMore (stay : Stay) (old new : List ℕ) : Type 0 where
  pub long : length new ≡ 2880
  pub are : (minute : ℕ) → minute < 2880 → slice_index_or new minute 0 ≡ slice_index_or old minute 0 + lasting stay minute

-- for each minute of the two days, how many of the stays last through it
pub record AreCounts (stays : List Stay) (counts : List ℕ) : Type 0 where
  pub long : length counts ≡ 2880
  pub are : (minute : ℕ) → minute < 2880 → slice_index_or counts minute 0 ≡ standing_in minute stays

-- a minute in which more of a station's stays last than its limit
pub record IsStationOver (own : List Stay) (station : StationId) (limit : ℕ) (over : Over) : Type 0 where
  pub at : over.station ≡ station
  pub day : over.minute ≤ 2879
  pub count : over.standing ≡ standing_in over.minute own
  pub more : limit < over.standing

-- a minute in which more stays last at a station with a limit than that
pub record IsOverOf (net : Net) (stays : List Stay) (station : StationId) (over : Over) : Type 0 where
  pub limited : 0 < halt_max_of net station
  pub own : IsStationOver (stays_at station stays) station (halt_max_of net station) over

-- the over of a minute in which more stand than a limit
pub record IsOverIn (standing : ℕ) (station : StationId) (limit minute : ℕ) (over : Over) : Type 0 where
  pub is : over ≡ record { station = station; minute = minute; standing = standing }
  pub more : limit < standing
