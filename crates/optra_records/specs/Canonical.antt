-- Texts that are their own records, written again.
use Rattle.std.specs.Prelude.{ℕ, ◌&&◌, ◌||◌, ◌==◌, not, Bool, true, false, List, [], ◌∷◌, Option, Some, None, bytes_eq, if◌then◌else◌}
use Rattle.std.specs.List.{list_all}
use Rattle.std.specs.Option.{option_map_or}
use Rattle.std.specs.Str.{is_utf8}
use Rattle.csv.specs.Reading.{default_config, records}
use Rattle.optra_records.specs.Reading.{Record, has_mark}
use Rattle.optra_records.specs.Texts.{is_shown, is_special, records_text}
use Rattle.optra_records.specs.declared.places.Place.{Place}
use Rattle.optra_records.specs.declared.places.Place.TheVariants as place

-- whether a text is that of these records, each of which can be printed and has fields of UTF-8
abbrev pub is_text_of : List Record → List ℕ → Bool
is_text_of rows text = list_all (λ row. list_all is_utf8 row && is_shown row) rows && bytes_eq (records_text rows) text

-- Whether a text begins with no byte-order mark, and is the text of the records that are read from it.
unfoldable pub is_canonical : List ℕ → Bool
is_canonical bytes = not (has_mark bytes) && is_text_of (records default_config bytes) bytes

-- ---- the same, byte by byte

-- the place behind the byte that ends a field
abbrev pub ended_place : ℕ → Option Place
ended_place b = if b == 44 then Some place.NewField else (if b == 10 then Some place.NewRecord else None)

-- the place behind a byte without quotes
abbrev pub plain_place : ℕ → Option Place
plain_place b = if is_special b then ended_place b else Some place.Plain

-- the place behind the first byte of a field
abbrev pub first_place : ℕ → Option Place
first_place b = if b == 34 then Some (place.Quoted false) else plain_place b

-- The place behind a byte, if a text of records can have it there.
abbrev pub next_place : Place → ℕ → Option Place
next_place place.NewRecord b = if b == 10 then None else first_place b
next_place place.NewField b = first_place b
next_place place.Plain b = plain_place b
next_place (place.Quoted needed) b = if b == 34 then Some (place.Closed needed) else Some (place.Quoted (needed || is_special b))
next_place (place.Closed needed) b = if b == 34 then Some (place.Quoted true) else (if needed then ended_place b else None)

-- a text ends where a record would begin
abbrev pub is_end : Place → Bool
is_end place.NewRecord = true
is_end _ = false

-- whether the rest of a text goes on as a text of records does from a place
abbrev pub goes_on : List ℕ → Place → Bool
goes_on [] place = is_end place
goes_on (b ∷ text) place = option_map_or (goes_on text) (next_place place b) false
