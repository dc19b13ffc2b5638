-- A usable leg is one that a node may be asked of.
use Rattle.std.proofs.Common.{◌<◌, length, Option, Some, None, IsSome, IfSome}
use Rattle.optra_network.specs.Net.{Net, IsProper, IsTrack, IsRunningRow, MayUse, times_of}
use Rattle.optra_network.specs.declared.Times.{Times}
use Rattle.optra_network.specs.declared.TrackId.{TrackId}
use Rattle.optra_network.specs.declared.TypeId.{TypeId}
use Rattle.optra_network.proofs.NetLemmas.{times_built}
use Rattle.optra_walk.specs.declared.Leg.{Leg}
use Rattle.optra_walk.specs.Families.{IsUsable}
use Rattle.optra_node.specs.Nodes.{IsFormedLeg}

-- a track that a type may use is there
may_use_track : (net : Net) (track : TrackId) (kind : TypeId) → IsProper net → MayUse net track kind → IsTrack net track
may_use_track net track kind proper may = by (times_of net track kind) may (times_built net track kind proper.built)
  where
    by : (o : Option Times) → IsSome o → IfSome o (λ times. IsRunningRow (length net.tracks) (length net.types) ((track.0, kind.0), times)) → track.0 < length net.tracks
    by None may h = cc
    by (Some times) may h = h.0

pub usable_is_formed : (net : Net) (kind : TypeId) (leg : Leg) → IsProper net → IsUsable net kind leg → IsFormedLeg net leg
usable_is_formed net kind leg proper usable = record { track = may_use_track net leg.track kind proper usable.may_use; depart = usable.depart; dwell = usable.dwell }
