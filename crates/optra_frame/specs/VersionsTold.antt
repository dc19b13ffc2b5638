-- The version of the tables among the files of a command.
use Rattle.std.specs.Prelude.{ℕ, List, [], ◌∷◌, Option, None, Some, if◌then◌else◌}
use Rattle.optra_tables.specs.Networks.{version_of}
use Rattle.optra_tables.specs.declared.Table.TheVariants.{Stations}
use Rattle.optra_frame.specs.declared.files.Role.{Role}
use Rattle.optra_frame.specs.declared.files.Role.TheVariants as roles
use Rattle.optra_frame.specs.declared.version.Version.{Version}
use Rattle.optra_frame.specs.Files.{Contents, content_of, same_role}
use Rattle.optra_frame.specs.Versions.{version_told}

-- the version of the tables among these files: that of their stations, and version 1 as long as there are none
abbrev pub version_in : Contents → Version
version_in contents = version_told (version_of (content_of contents (roles.Table Stations)))

-- the version of tables of which nothing is there
abbrev pub version_untold : Version
version_untold = version_told (version_of [])

-- the version that a file in this role tells; none where they aren't the stations
abbrev pub told_by : Role → List ℕ → Option Version
told_by role content = if same_role role (roles.Table Stations) then Some (version_told (version_of content)) else None

-- the version that the stations among these files tell; none as long as there are none
abbrev pub told_in : Contents → Option Version
told_in [] = None
told_in (held ∷ rest) =
    if same_role held.file.role (roles.Table Stations) then Some (version_told (version_of held.content)) else told_in rest
