-- The families of rows that state the rules of tables.
use Rattle.std.specs.Prelude.{List}
use Rattle.std.specs.declared.cmp.Ordering.{Ordering}
use Rattle.std.specs.declared.cmp.Ordering.TheVariants.{Less, Greater}
use Rattle.optra_network.specs.Net.{Net}
use Rattle.optra_walk.specs.Families.{Entry}
use Rattle.optra_rows.specs.Eithers.{both_rows}
use Rattle.optra_rows.specs.Headways.{KeepsHeadwayRule, headway_rows}
use Rattle.optra_rows.specs.TouchedLemmas.{row_cmp as headway_cmp}
use Rattle.optra_cross.specs.CrossLemmas.{row_cmp as cross_cmp}
use Rattle.optra_platform.specs.PlatformLemmas.{row_cmp as platform_cmp}
use Rattle.optra_rows.specs.declared.HRow.{HRow}
use Rattle.optra_rows.specs.declared.joining.Either.{Either}
use Rattle.optra_rows.specs.declared.joining.Either.TheVariants.{First, Second}
use Rattle.optra_cross.specs.Crosses.{KeepsCrossRule, cross_rows}
use Rattle.optra_cross.specs.CrossTexts.{cross_texts}
use Rattle.optra_cross.specs.declared.CRow.{CRow}
use Rattle.optra_platform.specs.Platforms.{platform_rows}
use Rattle.optra_platform.specs.PlatformTexts.{platform_texts}
use Rattle.optra_platform.specs.declared.PRow.{PRow}
use Rattle.optra_cert.specs.Boths.{both_texts}
use Rattle.optra_cert.specs.Headways.{headway_texts}
use Rattle.optra_verdict.specs.FamilyOf.{FamilyOf}
use Rattle.optra_walk.specs.Rules.{KeepsHalts}
use Rattle.optra_frame.specs.declared.version.Version.{Version}
use Rattle.optra_frame.specs.declared.version.Version.TheVariants as versions

-- ---- tables of version 1

-- the rows of headways
abbrev pub headway_family : Net → FamilyOf HRow
headway_family net = record { cmp = headway_cmp; rows = headway_rows net; texts = headway_texts }

-- ---- tables of version 2

-- a row of headways, of crossings or of platforms
abbrev pub AnyRow : Type 0
AnyRow = Either (Either HRow CRow) PRow

-- all of the first are below all of the second
abbrev pub either_cmp : {P Q : Type 0} → (P → P → Ordering) → (Q → Q → Ordering) → Either P Q → Either P Q → Ordering
either_cmp first second (First a) (First b) = first a b
either_cmp first second (First a) (Second b) = Less
either_cmp first second (Second a) (First b) = Greater
either_cmp first second (Second a) (Second b) = second a b

abbrev pub any_cmp : AnyRow → AnyRow → Ordering
any_cmp = either_cmp (either_cmp headway_cmp cross_cmp) platform_cmp

-- the rows of headways, then those of crossings, then those of platforms
abbrev pub all_family : Net → FamilyOf AnyRow
all_family net = record {
  cmp = any_cmp;
  rows = both_rows (both_rows (headway_rows net) (cross_rows net)) (platform_rows net);
  texts = both_texts (both_texts headway_texts cross_texts) platform_texts;
}

-- legs keep the headways, the crossings and the limits of stations
abbrev pub KeepsAllRules : Net → List Entry → Type 0
KeepsAllRules net entries = (KeepsHeadwayRule net entries × KeepsCrossRule net entries) × KeepsHalts net entries

-- ---- of a version

-- what is said of any family of rows and its rule, of those of the version
abbrev pub OfVersion : Version → Net → ((R : Type 0) → FamilyOf R → (List Entry → Type 0) → Type 0) → Type 0
OfVersion versions.First net Says = Says HRow (headway_family net) (KeepsHeadwayRule net)
OfVersion versions.Second net Says = Says AnyRow (all_family net) (KeepsAllRules net)
