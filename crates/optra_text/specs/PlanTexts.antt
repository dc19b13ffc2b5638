-- The printed plan: how it ended, its revenue, bound and count, and then each served train with its legs.
use Rattle.std.specs.Prelude.{ℕ, ◌+◌, ℤ, List, [], ◌∷◌, ◌++◌, map, Option, None, Some, unwrap_or, slice_get, int_lt, if◌then◌else◌, codes}
use Rattle.std.specs.Fmt.{decimal, signed_decimal}
use Rattle.optra_network.specs.Net.{Net}
use Rattle.optra_network.specs.declared.StationId.{StationId}
use Rattle.optra_network.specs.declared.TrackId.{TrackId}
use Rattle.optra_network.specs.declared.TypeId.{TypeId}
use Rattle.optra_bid.specs.declared.bids.Bid.{Bid}
use Rattle.optra_walk.specs.declared.Leg.{Leg}
use Rattle.optra_walk.specs.Legs.{arrival_of, dwell_of}
use Rattle.optra_walk.specs.Walks.{tail_of, head_of}
use Rattle.optra_walk.specs.Values.{value_of}
use Rattle.optra_walk.specs.Words.{action_word}
use Rattle.optra_records.specs.Reading.{Record}
use Rattle.optra_records.specs.Texts.{records_text}

-- the name of a track; nothing where there is no such track
abbrev pub track_text : Net → TrackId → List ℕ
track_text net track = unwrap_or (slice_get net.track_names track.0) []

-- the name of a station that may be missing; nothing where it is
abbrev pub station_text : Net → Option StationId → List ℕ
station_text net None = []
station_text net (Some station) = unwrap_or (slice_get net.stations station.0) []

-- leg,<track>,<tail>,<departure>,<head>,<arrival>,<action>,<dwell>
abbrev pub leg_record : Net → TypeId → Leg → Record
leg_record net kind leg =
    codes "leg" ∷ track_text net leg.track ∷ station_text net (tail_of net leg) ∷ decimal leg.depart
    ∷ station_text net (head_of net leg) ∷ decimal (unwrap_or (arrival_of net kind leg) 0) ∷ action_word leg.action ∷ decimal (dwell_of leg.action) ∷ []

-- train,<bid number>,<bid>,<bidder>,<value>
abbrev pub train_record : Net → ℕ → Bid → List Leg → Record
train_record net number bid legs =
    codes "train" ∷ decimal number ∷ bid.name ∷ bid.bidder ∷ signed_decimal (value_of net bid.path bid.money legs) ∷ []

-- a served bid, and its legs in order; nothing of a bid that is not served
abbrev pub entry_records : Net → ℕ → Bid → Option (List Leg) → List Record
entry_records net number bid None = []
entry_records net number bid (Some legs) = train_record net number bid legs ∷ map (leg_record net bid.path.kind) legs

-- the served bids in order; the first bid has this number
abbrev pub train_records : Net → ℕ → List Bid → List (Option (List Leg)) → List Record
train_records net number [] walks = []
train_records net number (bid ∷ bids) [] = []
train_records net number (bid ∷ bids) (walk ∷ walks) = entry_records net number bid walk ++ train_records net (number + 1) bids walks

-- gap where the bound is above the revenue
abbrev pub status_word : ℤ → ℤ → List ℕ
status_word revenue bound = if int_lt revenue bound then codes "gap" else codes "optimal"

-- the first four records
abbrev pub head_records : ℤ → ℤ → ℕ → List Record
head_records revenue bound nodes =
    (codes "status" ∷ status_word revenue bound ∷ []) ∷ (codes "revenue" ∷ signed_decimal revenue ∷ [])
    ∷ (codes "bound" ∷ signed_decimal bound ∷ []) ∷ (codes "nodes" ∷ decimal nodes ∷ []) ∷ []

-- the records of a plan; bids are numbered from 1
abbrev pub plan_records : Net → List Bid → List (Option (List Leg)) → ℤ → ℤ → ℕ → List Record
plan_records net bids walks revenue bound nodes = head_records revenue bound nodes ++ train_records net 1 bids walks

-- the printed plan
unfoldable pub plan_text_of : Net → List Bid → List (Option (List Leg)) → ℤ → ℤ → ℕ → List ℕ
plan_text_of net bids walks revenue bound nodes = records_text (plan_records net bids walks revenue bound nodes)
