-- The versions of tables, and the tables of each.
use Rattle.std.specs.Prelude.{ℕ, List, [], ◌∷◌, nat_eq, if◌then◌else◌}
use Rattle.optra_tables.specs.declared.Table.{Table}
use Rattle.optra_tables.specs.declared.Table.TheVariants.{Stations, Tracks, Types, Running, Headways, Crossings, Bids, Stops}
use Rattle.optra_frame.specs.declared.version.Version.{Version}
use Rattle.optra_frame.specs.declared.version.Version.TheVariants.{First, Second}

-- the version of a number
abbrev pub version_told : ℕ → Version
version_told version = if nat_eq version 2 then Second else First

-- the tables of a version, in the order in which they are got
abbrev pub tables_in : Version → List Table
tables_in First = Stations ∷ Tracks ∷ Types ∷ Running ∷ Headways ∷ Bids ∷ Stops ∷ []
tables_in Second = Stations ∷ Tracks ∷ Types ∷ Running ∷ Headways ∷ Crossings ∷ Bids ∷ Stops ∷ []
