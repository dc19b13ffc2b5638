-- The version of the tables among files, as they come.
use Rattle.std.proofs.Common.{◌≡◌, List, [], ◌∷◌, ◌++◌, Option, None, Some, Bool, true, false, refl, ap, sym, ◌∙◌, if◌then◌else◌}
use Rattle.std.specs.Prelude.{unwrap_or}
use Rattle.optra_tables.specs.Networks.{version_of}
use Rattle.optra_tables.specs.declared.Table.TheVariants.{Stations}
use Rattle.optra_frame.specs.declared.files.Role.TheVariants as roles
use Rattle.optra_frame.specs.declared.version.Version.{Version}
use Rattle.optra_frame.specs.Files.{Contents, Held, content_of, same_role}
use Rattle.optra_frame.specs.Versions.{version_told}
use Rattle.optra_frame.specs.VersionsTold.{told_by, told_in, version_in, version_untold}

-- what the files from one on tell, by whether it is their stations
abbrev told_if : Held → Contents → Bool → Option Version
told_if held rest same = if same then Some (version_told (version_of held.content)) else told_in rest

kept_if : (held : Held) (rest more : Contents) (version : Version) → (told_in rest ≡ Some version → told_in (rest ++ more) ≡ Some version)
    → (same : Bool) → told_if held rest same ≡ Some version → told_if held (rest ++ more) same ≡ Some version
kept_if held rest more version later true is = is
kept_if held rest more version later false is = later is

-- once a version is told, no file more tells another one
pub told-kept : (contents more : Contents) (version : Version) → told_in contents ≡ Some version → told_in (contents ++ more) ≡ Some version
told-kept [] more version is = absurd (cc)
told-kept (held ∷ rest) more version is = kept_if held rest more version (told-kept rest more version) (same_role held.file.role (roles.Table Stations)) is

by_if : (first held : Held) (rest : Contents) → (told_in rest ≡ None → told_in (rest ++ held ∷ []) ≡ told_by held.file.role held.content)
    → (same : Bool) → told_if first rest same ≡ None → told_if first (rest ++ held ∷ []) same ≡ told_by held.file.role held.content
by_if first held rest later true is = absurd (cc)
by_if first held rest later false is = later is

-- where none is told, one file more tells what it tells by itself
pub told-by : (contents : Contents) (held : Held) → told_in contents ≡ None → told_in (contents ++ held ∷ []) ≡ told_by held.file.role held.content
told-by [] held is = refl
told-by (first ∷ rest) held is = by_if first held rest (told-by rest held) (same_role first.file.role (roles.Table Stations)) is

version_if : (held : Held) (rest : Contents) → unwrap_or (told_in rest) version_untold ≡ version_in rest
    → (same : Bool) → unwrap_or (told_if held rest same) version_untold ≡ version_told (version_of (if same then held.content else content_of rest (roles.Table Stations)))
version_if held rest later true = refl
version_if held rest later false = later

-- the version of the tables is the one that is told, or the one of no tables
pub version-told : (contents : Contents) → unwrap_or (told_in contents) version_untold ≡ version_in contents
version-told [] = refl
version-told (held ∷ rest) = version_if held rest (version-told rest) (same_role held.file.role (roles.Table Stations))
