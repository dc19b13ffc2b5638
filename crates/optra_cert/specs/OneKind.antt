-- The texts of a family whose rows are of one kind.
use Rattle.std.specs.Prelude.{◌≡◌, ℕ, ◌≤◌, ◌<◌, ◌∷◌, [], true, List, length, All, Option, None, Some, IsSome, bytes_eq, if◌then◌else◌}
use Rattle.std.specs.Str.{is_utf8}
use Rattle.optra_records.specs.Reading.{Field}
use Rattle.optra_cert.specs.Columns.{IsShortColumn, IsShortWord, IsSoundColumn, IsTextColumn}
use Rattle.optra_cert.specs.RowTexts.{RowKind, RowTexts}

-- the row of values, where the word is the kind's
abbrev pub row_of_kind : {R : Type 0} → RowKind → (List ℕ → Option R) → Field → List ℕ → Option R
row_of_kind kind row word values = if bytes_eq word kind.word then row values else None

-- the texts of a kind, of the values of a row and of the row of values; their version is the kind's
abbrev pub one_kind_texts : {R : Type 0} → RowKind → (R → List ℕ) → (List ℕ → Option R) → RowTexts R
one_kind_texts kind values row = record {
  version = kind.version;
  kinds = kind ∷ [];
  told = λ r. (kind, values r);
  made = row_of_kind kind row;
}

-- what the kind, the values of a row and the row of values keep
pub record IsOneKind {R : Type 0} (kind : RowKind) (values : R → List ℕ) (row : List ℕ → Option R) : Type 0 where
  pub least : 1 ≤ kind.version
  pub columns : All IsSoundColumn kind.columns
  pub word : is_utf8 kind.word ≡ true
  pub words : All IsTextColumn kind.columns
  pub short : IsShortWord kind.word
  pub short_words : All IsShortColumn kind.columns
  pub few : length kind.columns < 32
  pub makes : (r : R) → row (values r) ≡ Some r
  pub tells : (ns : List ℕ) (r : R) → row ns ≡ Some r → values r ≡ ns
  pub each : (ns : List ℕ) → length ns ≡ length kind.columns → IsSome (row ns)
