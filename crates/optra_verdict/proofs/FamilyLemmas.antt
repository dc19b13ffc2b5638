-- The order of the rows of three families, and what is said of the family of a version.
use Rattle.std.proofs.Common.{◌≡◌, List, sym, subst}
use Rattle.std.specs.declared.cmp.Ordering.{Ordering}
use Rattle.std.specs.declared.cmp.Ordering.TheVariants.{Less, Greater}
use Rattle.optra_rows.specs.TouchedLemmas.{row_cmp as headway_cmp}
use Rattle.optra_rows.specs.declared.HRow.{HRow}
use Rattle.optra_rows.specs.declared.joining.Either.{Either}
use Rattle.optra_rows.specs.declared.joining.Either.TheVariants.{First, Second}
use Rattle.optra_cross.specs.CrossLemmas.{row_cmp as cross_cmp}
use Rattle.optra_cross.specs.declared.CRow.{CRow}
use Rattle.optra_platform.specs.PlatformLemmas.{row_cmp as platform_cmp}
use Rattle.optra_platform.specs.declared.PRow.{PRow}
use Rattle.optra_network.specs.Net.{Net}
use Rattle.optra_walk.specs.Families.{Entry}
use Rattle.optra_rows.specs.Headways.{KeepsHeadwayRule}
use Rattle.optra_verdict.specs.Families.{AnyRow, KeepsAllRules, OfVersion, all_family, any_cmp, headway_family}
use Rattle.optra_verdict.specs.FamilyOf.{FamilyOf}
use Rattle.optra_frame.specs.declared.version.Version.{Version}
use Rattle.optra_frame.specs.declared.version.Version.TheVariants as versions

-- an order that compares rows of each family as that family does, and those of one family with a later one as less, is the order
pub cmp_is : (cmp : AnyRow → AnyRow → Ordering)
    → ((a b : HRow) → cmp (First (First a)) (First (First b)) ≡ headway_cmp a b)
    → ((a : HRow) (b : CRow) → cmp (First (First a)) (First (Second b)) ≡ Less)
    → ((a : CRow) (b : HRow) → cmp (First (Second a)) (First (First b)) ≡ Greater)
    → ((a b : CRow) → cmp (First (Second a)) (First (Second b)) ≡ cross_cmp a b)
    → ((a : Either HRow CRow) (b : PRow) → cmp (First a) (Second b) ≡ Less)
    → ((a : PRow) (b : Either HRow CRow) → cmp (Second a) (First b) ≡ Greater)
    → ((a b : PRow) → cmp (Second a) (Second b) ≡ platform_cmp a b)
    → cmp ≡ any_cmp
cmp_is cmp hh hc ch cc' ep pe pp = λ i a b. each a b i
  where
    each : (a b : AnyRow) → cmp a b ≡ any_cmp a b
    each (First (First a)) (First (First b)) = hh a b
    each (First (First a)) (First (Second b)) = hc a b
    each (First (Second a)) (First (First b)) = ch a b
    each (First (Second a)) (First (Second b)) = cc' a b
    each (First a) (Second b) = ep a b
    each (Second a) (First b) = pe a b
    each (Second a) (Second b) = pp a b

-- ---- of a version

abbrev pub SaidOf : Type 1
SaidOf = (R : Type 0) → FamilyOf R → (List Entry → Type 0) → Type 0

-- what is said of the rows of headways is said of version 1
pub of_first : (Says : SaidOf) (version : Version) (net : Net) → version ≡ versions.First → Says HRow (headway_family net) (KeepsHeadwayRule net) → OfVersion version net Says
of_first Says version net is says = subst (λ v. OfVersion v net Says) (sym is) says

-- all rows, in whatever order
abbrev pub ordered_by : (AnyRow → AnyRow → Ordering) → Net → FamilyOf AnyRow
ordered_by cmp net = record { cmp = cmp; rows = (all_family net).rows; texts = (all_family net).texts }

-- what is said of all rows in their order is said of version 2
pub of_second : (Says : SaidOf) (cmp : AnyRow → AnyRow → Ordering) (version : Version) (net : Net) → cmp ≡ any_cmp → version ≡ versions.Second
    → Says AnyRow (ordered_by cmp net) (KeepsAllRules net) → OfVersion version net Says
of_second Says cmp version net order is says =
    subst (λ v. OfVersion v net Says) (sym is) (subst (λ c. Says AnyRow (ordered_by c net) (KeepsAllRules net)) order says)

-- what follows of any family follows of that of a version
pub of_version-map : (Says Follows : SaidOf) (version : Version) (net : Net)
    → ((R : Type 0) (family : FamilyOf R) (Keeps : List Entry → Type 0) → Says R family Keeps → Follows R family Keeps)
    → OfVersion version net Says → OfVersion version net Follows
of_version-map Says Follows versions.First net follow says = follow HRow (headway_family net) (KeepsHeadwayRule net) says
of_version-map Says Follows versions.Second net follow says = follow AnyRow (all_family net) (KeepsAllRules net) says

-- what follows of any family, and doesn't speak of it, follows
pub of_version-then : (Says : SaidOf) (P : Type 0) (version : Version) (net : Net)
    → ((R : Type 0) (family : FamilyOf R) (Keeps : List Entry → Type 0) → Says R family Keeps → P)
    → OfVersion version net Says → P
of_version-then Says P versions.First net follow says = follow HRow (headway_family net) (KeepsHeadwayRule net) says
of_version-then Says P versions.Second net follow says = follow AnyRow (all_family net) (KeepsAllRules net) says
