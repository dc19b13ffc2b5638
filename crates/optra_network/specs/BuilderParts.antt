-- What contracts see of a builder.
use Rattle.optra_network.specs.Net.{Net}
use Rattle.optra_network.specs.declared.building.Builder.TheInside.{Inside}

-- the network that the fields are, as far as it is built
abbrev pub net_of : Inside → Net
net_of a = record {
  stations = a.stations;
  track_names = a.track_names;
  tracks = a.tracks.items;
  types = a.types;
  running = a.running.entries;
  headways = a.headways.entries;
  crossings = a.crossings.entries;
  limits = a.limits.entries;
}
