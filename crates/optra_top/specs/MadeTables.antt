-- The tables of a demo, as they were made.
use Rattle.std.specs.Prelude.{None}
use Rattle.optra_demo.specs.declared.demo_tables.DemoTables.{DemoTables}
use Rattle.optra_tables.specs.Networks.{Files}

-- the network's tables among them
abbrev pub made_net_files : DemoTables → Files
made_net_files made = record {
  stations = made.stations.items;
  tracks = made.tracks.items;
  types = made.types.items;
  running = made.running.items;
  headways = made.headways.items;
  crossings = None;
}
