-- The legs of a walk run on tracks of the network.
use Rattle.std.proofs.Common.{◌≡◌, ◌<◌, List, length, All, Option, Some, None, IsSome, IfSome, subst}
use Rattle.optra_network.specs.Net.{Net, IsProper, IsTrack, IsRunningRow, MayUse, times_of}
use Rattle.optra_network.specs.declared.Times.{Times}
use Rattle.optra_network.specs.declared.TrackId.{TrackId}
use Rattle.optra_network.specs.declared.TypeId.{TypeId}
use Rattle.optra_network.proofs.NetLemmas.{times_built}
use Rattle.optra_bid.specs.Specs.{Path}
use Rattle.optra_walk.specs.declared.Leg.{Leg}
use Rattle.optra_walk.specs.Walks.{IsWalk}

-- a track that a type may use is there
pub may_use_track : (net : Net) (track : TrackId) (kind : TypeId) → IsProper net → MayUse net track kind → IsTrack net track
may_use_track net track kind proper may = by (times_of net track kind) may (times_built net track kind proper.built)
  where
    by : (o : Option Times) → IsSome o → IfSome o (λ times. IsRunningRow (length net.tracks) (length net.types) ((track.0, kind.0), times)) → track.0 < length net.tracks
    by None may h = cc
    by (Some times) may h = h.0

-- the tracks of a walk are there
pub walk_tracks : (net : Net) (path : Path) (legs : List Leg) → IsProper net → IsWalk net path legs → All (λ leg. IsTrack net leg.track) legs
walk_tracks net path legs proper walk k d l = may_use_track net _ path.kind proper (walk.may_use k d l)

-- the same of an entry that is there
pub entry_tracks : (net : Net) (path : Path) (walk : Option (List Leg)) (legs : List Leg) → IsProper net → IfSome walk (IsWalk net path) → walk ≡ Some legs → All (λ leg. IsTrack net leg.track) legs
entry_tracks net path None legs proper walk e = absurd (cc e)
entry_tracks net path (Some served) legs proper walk e =
    let same : served ≡ legs = cc e in
    subst (λ (l : List Leg). All (λ leg. IsTrack net leg.track) l) same (walk_tracks net path served proper walk)
