-- The laws of the texts of rows of platforms.
use Rattle.std.proofs.Common.{◌≡◌, ℕ, ◌<◌, ◌∷◌, [], List, length, Option, Some, None, IfSome, IsSome, true, refl, subst, arith, codes, nat_eq, unwrap_or, lit≤, lit<}
use Rattle.std.specs.Map.{lookup}
use Rattle.std.proofs.lemmas.Bool.{and_parts, leb-true, ltb-true}
use Rattle.std.proofs.lemmas.List.Elements.{All-from_recursion}
use Rattle.optra_network.specs.Net.{Net, IsLimitRow, IsProper, halt_max_of}
use Rattle.optra_network.specs.declared.StationId.{StationId}
use Rattle.optra_network.proofs.NetLemmas.{limit_built}
use Rattle.optra_cert.specs.Columns.{IsShortColumn, IsSoundColumn, IsTextColumn, a_number}
use Rattle.optra_cert.specs.OneKindLemmas.{one_kind_texts_are}
use Rattle.optra_cert.specs.RowTexts.{AreTexts, FitsRow}
use Rattle.optra_cert.specs.TextLemmas.{word_text}
use Rattle.optra_platform.specs.declared.PRow.{PRow}
use Rattle.optra_platform.specs.Platforms.{is_row_of}
use Rattle.optra_platform.specs.PlatformTexts.{halt_kind, halt_of, halt_values, platform_texts}

tells : (ns : List ℕ) (row : PRow) → halt_of ns ≡ Some row → halt_values row ≡ ns
tells [] row e = absurd (cc e)
tells (s ∷ []) row e = absurd (cc e)
tells (s ∷ m ∷ []) row e =
    let made : PRow = record { station = record { 0 = s }; minute = m } in
    let same : made ≡ row = cc e in
    subst (λ (r : PRow). halt_values r ≡ s ∷ m ∷ []) same refl
tells (s ∷ m ∷ x ∷ xs) row e = absurd (cc e)

each : (ns : List ℕ) → length ns ≡ 2 → IsSome (halt_of ns)
each [] e = absurd (omega (arith, e))
each (s ∷ []) e = absurd (omega (arith, e))
each (s ∷ m ∷ []) e = grind arith
each (s ∷ m ∷ x ∷ xs) e = absurd (omega (arith, e))

pub platform_texts_are : AreTexts platform_texts
platform_texts_are =
    let minute : IsSoundColumn (a_number 0 2998) = lit< tt in
    one_kind_texts_are halt_kind halt_values halt_of (record {
      least = lit≤ tt;
      columns = All-from_recursion IsSoundColumn halt_kind.columns (tt, (minute, tt));
      word = word_text (codes "halt") refl;
      words = All-from_recursion IsTextColumn halt_kind.columns (tt, (tt, tt));
      short = lit≤ tt;
      short_words = All-from_recursion IsShortColumn halt_kind.columns (tt, (tt, tt));
      few = lit< tt;
      makes = λ row. refl;
      tells = tells;
      each = each;
    })

-- a station with a limit is there
pub limited_there : (net : Net) → IsProper net → (station : StationId) → 0 < halt_max_of net station → station.0 < length net.stations
limited_there net p station limited = by (lookup (nat_eq station.0) net.limits) (limit_built net station p.built) limited
  where
    by : (o : Option ℕ) → IfSome o (λ n. IsLimitRow (length net.stations) (station.0, n)) → 0 < unwrap_or o 0 → station.0 < length net.stations
    by None h l = absurd (omega (arith, l))
    by (Some n) h l = h.0

-- the rows of the family can be written
pub platform_rows_fit : (net : Net) → IsProper net → (row : PRow) → is_row_of net row ≡ true → FitsRow platform_texts net row
platform_rows_fit net p row is =
    let parts = and_parts _ _ is in
    let day = leb-true _ _ parts.1 in
    (limited_there net p row.station (ltb-true _ _ parts.0), ((omega arith, omega arith), tt))
