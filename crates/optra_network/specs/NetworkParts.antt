-- What contracts see of a network.
use Rattle.optra_network.specs.Net.{Net, IsProper}
use Rattle.optra_network.specs.Tables.{AreTables}
use Rattle.optra_network.specs.declared.finished.Network.TheInside.{Inside}

-- the network that the fields are
abbrev pub net_of : Inside → Net
net_of a = record {
  stations = a.stations;
  track_names = a.track_names;
  tracks = a.tracks.items;
  types = a.types;
  running = a.running.entries;
  headways = a.headways.entries;
  crossings = a.crossings.entries;
  limits = a.limits.entries;
}

-- what a network keeps, and what it holds ready
pub record IsKept (a : Inside) : Type 0 where
  pub proper : IsProper (net_of a)
  pub tables : AreTables (net_of a) a.tables
