-- The laws of the texts of rows of crossings.
use Rattle.std.proofs.Common.{◌≡◌, ℕ, ◌∷◌, [], List, length, Some, IsSome, true, refl, subst, arith, codes, lit≤, lit<}
use Rattle.std.proofs.lemmas.List.Elements.{All-from_recursion}
use Rattle.optra_network.specs.Net.{Net, IsProper}
use Rattle.optra_network.proofs.HeadwayLemmas.{below_types}
use Rattle.optra_cert.specs.Columns.{IsShortColumn, IsSoundColumn, IsTextColumn, a_number}
use Rattle.optra_cert.specs.OneKindLemmas.{one_kind_texts_are}
use Rattle.optra_cert.specs.RowTexts.{AreTexts, FitsRow}
use Rattle.optra_cert.specs.TextLemmas.{word_text}
use Rattle.optra_cross.specs.declared.CRow.{CRow}
use Rattle.optra_cross.specs.Crosses.{is_row_of}
use Rattle.optra_cross.specs.CrossTexts.{cross_kind, cross_of, cross_texts, cross_values}
use Rattle.optra_cross.specs.PlaceLemmas.{row_parts}

tells : (ns : List ℕ) (row : CRow) → cross_of ns ≡ Some row → cross_values row ≡ ns
tells [] row e = absurd (cc e)
tells (a ∷ []) row e = absurd (cc e)
tells (a ∷ t ∷ []) row e = absurd (cc e)
tells (a ∷ t ∷ c ∷ []) row e = absurd (cc e)
tells (a ∷ t ∷ c ∷ b ∷ []) row e = absurd (cc e)
tells (a ∷ t ∷ c ∷ b ∷ u ∷ []) row e = absurd (cc e)
tells (a ∷ t ∷ c ∷ b ∷ u ∷ d ∷ []) row e =
    let made : CRow = record {
      first_track = record { 0 = a };
      first_at = t;
      first = record { 0 = c };
      second_track = record { 0 = b };
      second_at = u;
      second = record { 0 = d };
    } in
    let same : made ≡ row = cc e in
    subst (λ (r : CRow). cross_values r ≡ a ∷ t ∷ c ∷ b ∷ u ∷ d ∷ []) same refl
tells (a ∷ t ∷ c ∷ b ∷ u ∷ d ∷ x ∷ xs) row e = absurd (cc e)

each : (ns : List ℕ) → length ns ≡ 6 → IsSome (cross_of ns)
each [] e = absurd (omega (arith, e))
each (a ∷ []) e = absurd (omega (arith, e))
each (a ∷ t ∷ []) e = absurd (omega (arith, e))
each (a ∷ t ∷ c ∷ []) e = absurd (omega (arith, e))
each (a ∷ t ∷ c ∷ b ∷ []) e = absurd (omega (arith, e))
each (a ∷ t ∷ c ∷ b ∷ u ∷ []) e = absurd (omega (arith, e))
each (a ∷ t ∷ c ∷ b ∷ u ∷ d ∷ []) e = grind arith
each (a ∷ t ∷ c ∷ b ∷ u ∷ d ∷ x ∷ xs) e = absurd (omega (arith, e))

pub cross_texts_are : AreTexts cross_texts
cross_texts_are =
    let minute : IsSoundColumn (a_number 0 2998) = lit< tt in
    one_kind_texts_are cross_kind cross_values cross_of (record {
      least = lit≤ tt;
      columns = All-from_recursion IsSoundColumn cross_kind.columns (tt, (minute, (tt, (tt, (minute, (tt, tt))))));
      word = word_text (codes "cross") refl;
      words = All-from_recursion IsTextColumn cross_kind.columns (tt, (tt, (tt, (tt, (tt, (tt, tt))))));
      short = lit≤ tt;
      short_words = All-from_recursion IsShortColumn cross_kind.columns (tt, (tt, (tt, (tt, (tt, (tt, tt))))));
      few = lit< tt;
      makes = λ row. refl;
      tells = tells;
      each = each;
    })

-- the rows of the family can be written
pub cross_rows_fit : (net : Net) → IsProper net → (row : CRow) → is_row_of net row ≡ true → FitsRow cross_texts net row
cross_rows_fit net p row is =
    let clash = (row_parts net row is).1 in
    let first = below_types net row.first_track row.first p clash.first.may in
    let second = below_types net row.second_track row.second p clash.second.may in
    let first_day = clash.first.day in
    let second_day = clash.second.day in
    (first.2, ((omega arith, omega arith), (first.0, (second.2, ((omega arith, omega arith), (second.0, tt))))))
