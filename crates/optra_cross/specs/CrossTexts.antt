-- The texts of rows of crossings:
-- cross,<first track>,<first minute>,<first type>,<second track>,<second minute>,<second type>.
use Rattle.std.specs.Prelude.{ℕ, List, [], ◌∷◌, Option, None, Some, codes}
use Rattle.optra_cert.specs.Columns.{a_track, a_type, a_number}
use Rattle.optra_cert.specs.OneKind.{one_kind_texts}
use Rattle.optra_cert.specs.RowTexts.{RowKind, RowTexts}
use Rattle.optra_cross.specs.declared.CRow.{CRow}

abbrev pub cross_kind : RowKind
cross_kind = record {
  word = codes "cross";
  version = 2;
  columns = a_track ∷ a_number 0 2998 ∷ a_type ∷ a_track ∷ a_number 0 2998 ∷ a_type ∷ [];
}

-- the numbers of a row, from left to right
abbrev pub cross_values : CRow → List ℕ
cross_values row = row.first_track.0 ∷ row.first_at ∷ row.first.0 ∷ row.second_track.0 ∷ row.second_at ∷ row.second.0 ∷ []

abbrev pub cross_of : List ℕ → Option CRow
cross_of (a ∷ t ∷ c ∷ b ∷ u ∷ d ∷ []) = Some (record {
  first_track = record { 0 = a };
  first_at = t;
  first = record { 0 = c };
  second_track = record { 0 = b };
  second_at = u;
  second = record { 0 = d };
})
cross_of _ = None

-- the texts of rows of crossings, of version 2
abbrev pub cross_texts : RowTexts CRow
cross_texts = one_kind_texts cross_kind cross_values cross_of
