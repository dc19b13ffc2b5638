-- The number that tells a use of a track among those of the track, and the numbers of tracks.
use Rattle.std.proofs.Common.{◌≡◌, ℕ, ◌+◌, ◌*◌, ◌/◌, ◌%◌, ◌<◌, Bool, true, nat_lt}
use Rattle.std.specs.Prelude.{◌&&◌}
use Rattle.std.proofs.lemmas.Bool.{and_parts, ltb-true}
use Rattle.optra_network.specs.declared.TrackId.{TrackId}
use Rattle.optra_network.specs.declared.TypeId.{TypeId}

-- whether a use of a track is told: by one of 1,024 tracks, of 4,096 minutes and of 16 types
abbrev pub has_use_code : TrackId → ℕ → TypeId → Bool
has_use_code track minute kind = nat_lt track.0 1024 && (nat_lt minute 4096 && nat_lt kind.0 16)

-- the number of a use among those of its track
abbrev pub use_code : ℕ → TypeId → ℕ
use_code minute kind = minute * 16 + kind.0

-- the type of a number of a use
abbrev pub code_kind : ℕ → TypeId
code_kind code = record { 0 = code % 16 }

-- the minute of a number of a use
abbrev pub code_minute : ℕ → ℕ
code_minute code = code / 16 % 4096

-- the track of a number
abbrev pub code_track : ℕ → TrackId
code_track code = record { 0 = code % 1024 }

-- the parts of a use that is told
pub record IsToldUse (track : TrackId) (minute : ℕ) (kind : TypeId) : Type 0 where
  pub track_few : track.0 < 1024
  pub minute_few : minute < 4096
  pub kind_few : kind.0 < 16

pub told_use : (track : TrackId) (minute : ℕ) (kind : TypeId) → has_use_code track minute kind ≡ true → IsToldUse track minute kind
told_use track minute kind is =
    let parts = and_parts (nat_lt track.0 1024) (nat_lt minute 4096 && nat_lt kind.0 16) is in
    let rest = and_parts (nat_lt minute 4096) (nat_lt kind.0 16) parts.1 in
    record { track_few = ltb-true track.0 1024 parts.0; minute_few = ltb-true minute 4096 rest.0; kind_few = ltb-true kind.0 16 rest.1 }
