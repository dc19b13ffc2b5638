-- The text of a record, and the text of a list of records.
use Rattle.std.specs.Prelude.{◌≡◌, ◌≢◌, ◌==◌, ◌||◌, Bool, true, false, ℕ, List, [], ◌∷◌, ◌++◌, length, not, if◌then◌else◌}
use Rattle.std.specs.List.{AllByRecursion, flat_map, list_any}
use Rattle.optra_records.specs.Reading.{Field, Record}

-- a comma, a quote, a carriage return and a line feed stand in quotes
abbrev pub is_special : ℕ → Bool
is_special b = (b == 44) || (b == 34) || (b == 13) || (b == 10)

-- a field stands in quotes where it has such a byte
abbrev pub needs_quotes : Field → Bool
needs_quotes = list_any is_special

-- each quote doubled
abbrev pub escaped : Field → List ℕ
escaped [] = []
escaped (b ∷ rest) = if b == 34 then 34 ∷ b ∷ escaped rest else b ∷ escaped rest

abbrev pub field_text : Field → List ℕ
field_text field = if needs_quotes field then 34 ∷ (escaped field ++ 34 ∷ []) else field

-- fields behind the first, each after a comma
abbrev pub more_text : List Field → List ℕ
more_text [] = []
more_text (field ∷ rest) = 44 ∷ (field_text field ++ more_text rest)

abbrev pub fields_text : List Field → List ℕ
fields_text [] = []
fields_text (field ∷ rest) = field_text field ++ more_text rest

-- The text of a record: its fields joined by commas, and a line feed.
unfoldable pub record_text : Record → List ℕ
record_text fields = fields_text fields ++ 10 ∷ []

-- the texts of records, one after the other
abbrev pub records_text : List Record → List ℕ
records_text = flat_map record_text

-- a record that can be printed: it has a field, and isn't one empty field alone
abbrev pub is_shown : Record → Bool
is_shown [] = false
is_shown (field ∷ []) = not (length field == 0)
is_shown (field ∷ next ∷ rest) = true

abbrev pub AreShown : List Record → Type 0
AreShown = AllByRecursion (λ fields. is_shown fields ≡ true)

-- records whose text doesn't begin with the first byte of a byte-order mark
abbrev pub BeginsPlain : List Record → Type 0
BeginsPlain (((b ∷ field) ∷ fields) ∷ rows) = b ≢ 0xEF
BeginsPlain _ = Unit {0}
