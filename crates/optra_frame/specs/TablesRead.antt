-- The tables, as they were read.
use Rattle.std.specs.Prelude.{map}
use Rattle.optra_tables.specs.Bids.{parts_of}
use Rattle.optra_frame.specs.TableFiles as meaning
use Rattle.optra_frame.specs.declared.table_files.Tables.{Tables}

-- the version, the network and the bids that were read
abbrev pub tables_seen : Tables → meaning.Tables
tables_seen tables = record { version = tables.version; net = tables.net; bids = map parts_of tables.bids.items }
