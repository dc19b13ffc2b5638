-- Uses of a track that stand in one pair row: in conflict, and with no window minute in common.
use Rattle.std.specs.Prelude.{◌≡◌, ℕ, ◌+◌, ◌/◌, ◌%◌, ◌≤◌, ◌<◌, ◌⊎◌, nat_le, nat_lt, ◌&&◌, Bool, List, map, filter, is_some, if◌then◌else◌}
use Rattle.std.specs.List.{range_with_len}
use Rattle.optra_network.specs.Net.{Net, MayUse, times_of, track_id}
use Rattle.optra_network.specs.Headways.{type_id, hmin_or_0, headway_or_0}
use Rattle.optra_network.specs.Conflict.{AreCompatible}
use Rattle.optra_network.specs.declared.TrackId.{TrackId}
use Rattle.optra_network.specs.declared.TypeId.{TypeId}
use Rattle.optra_network.specs.declared.TrackUse.{TrackUse}
use Rattle.optra_network.specs.declared.Partner.{Partner}

-- the window of a use has the minutes from its departure on, as many as the least headway after its type
abbrev pub IsInWindow : Net → TrackUse → ℕ → Type 0
IsInWindow net a minute = (a.time ≤ minute) × (minute < a.time + hmin_or_0 net a.track a.kind)

-- the smaller of two uses by minute and then by type
abbrev pub IsSmaller : TrackUse → TrackUse → Type 0
IsSmaller a b = (a.time < b.time) ⊎ ((a.time ≡ b.time) × (a.kind.0 < b.kind.0))

-- two uses of one track by types that may use it, the smaller first, are a pair: they are in conflict and share no window
-- minute
pub record ArePaired (net : Net) (a b : TrackUse) : Type 0 where
  pub track : a.track ≡ b.track
  pub first_may : MayUse net a.track a.kind
  pub second_may : MayUse net b.track b.kind
  pub smaller : IsSmaller a b
  pub conflict : ¬ AreCompatible net a b
  pub apart : (minute : ℕ) → IsInWindow net a minute → ¬ IsInWindow net b minute

-- whether two uses are a pair, by arithmetic: both types may use the track, and the second use departs no earlier than
-- the least headway after the first and earlier than the headway between the two
abbrev pub is_paired : Net → TrackId → ℕ → TypeId → ℕ → TypeId → Bool
is_paired net track t a u b =
    is_some (times_of net track a) && is_some (times_of net track b) && nat_le (t + hmin_or_0 net track a) u && nat_lt u (t + headway_or_0 net track a b)

-- a partner departs the shift's minutes after one that departs 120 minutes before the type's own use
abbrev pub use_at : TrackId → TypeId → ℕ → TrackUse
use_at track kind time = record { track = track; kind = kind; time = time }

-- a partner of a use: the two are a pair, in this order or the other
abbrev pub IsPartner : Net → TrackId → TypeId → Partner → Type 0
IsPartner net track kind partner =
    ArePaired net (use_at track partner.kind partner.shift) (use_at track kind 120) ⊎ ArePaired net (use_at track kind 120) (use_at track partner.kind partner.shift)

-- the same by arithmetic
abbrev pub is_partner : Net → TrackId → TypeId → Partner → Bool
is_partner net track kind partner =
    if nat_lt partner.shift 120 then is_paired net track partner.shift partner.kind 120 kind else is_paired net track 120 kind partner.shift partner.kind

-- all that a partner can be, by shift and then by type
abbrev pub partner_at : ℕ → Partner
partner_at place = record { shift = place / 16; kind = type_id (place % 16) }

-- the places of the partners among them
unfoldable pub partner_places : Net → TrackId → TypeId → List ℕ
partner_places net track kind = filter (λ place. is_partner net track kind (partner_at place)) (range_with_len 0 3840)

-- the partners of a use of the type on the track, by shift and then by type
abbrev pub partners_of : Net → TrackId → TypeId → List Partner
partners_of net track kind = map partner_at (partner_places net track kind)

-- by track and type, sixteen for each track
abbrev pub partners_at : Net → ℕ → List Partner
partners_at net n = partners_of net (track_id (n / 16)) (type_id (n % 16))
