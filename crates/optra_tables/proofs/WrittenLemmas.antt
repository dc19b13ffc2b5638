-- What is read of the fields and tables that are written: numbers, names and the places of names.
use Rattle.std.proofs.Common.{◌≡◌, ◌≢◌, ◌+◌, ◌^◌, ◌<◌, ◌&&◌, ◌++◌, ℕ, Bool, true, false, List, [], ◌∷◌, length, map, get_or, append_assoc, Some, None, Ok, refl, sym, ap, ◌∙◌, inl, inr, arith, length-append, slice_get, bytes_eq}
use Rattle.std.proofs.lemmas.Bool.{cases_Bool, le-ltb, lt-ltb}
use Rattle.std.proofs.lemmas.Fmt.{IsAscii-decimal}
use Rattle.std.proofs.lemmas.List.{append-nil, get_or_append_left}
use Rattle.std.proofs.lemmas.List.Sums.{position_or_len_is}
use Rattle.std.proofs.lemmas.Option.{unwrap_or-slice_get}
use Rattle.std.proofs.lemmas.Slice.Eq.{bytes_eq-Decides}
use Rattle.std.proofs.lemmas.Str.{is_utf8-from_IsUtf8, IsUtf8-from_ascii}
use Rattle.std.specs.Cmp.Lexicographic.{pointwise}
use Rattle.std.specs.Fmt.{decimal}
use Rattle.std.specs.Prelude.{Result}
use Rattle.std.specs.Str.{is_utf8}
use Rattle.optra_network.specs.Names.{AllDiffer, AreNames, is_name, place_of}
use Rattle.optra_network.specs.Net.{IsKind, IsProper, IsStation, Net}
use Rattle.optra_network.specs.Refusals.{station_named, type_named}
use Rattle.optra_network.specs.declared.StationId.{StationId}
use Rattle.optra_network.specs.declared.TypeId.{TypeId}
use Rattle.optra_records.specs.Reading.{Field, Record}
use Rattle.optra_records.specs.Texts.{AreShown, BeginsPlain, records_text}
use Rattle.optra_records.proofs.ReadBack.{number_back, table_back}
use Rattle.optra_records.specs.Tables.{field, rows_from, rows_under, table_of}
use Rattle.optra_tables.specs.Fields.{name_at, number_at}
use Rattle.optra_tables.specs.Rows.{table_read}
use Rattle.optra_tables.specs.Written.{named}
use Rattle.optra_tables.specs.declared.Table.{Table}
use Rattle.optra_tables.specs.declared.TableFault.{TableFault}

-- ---- fields

-- a number that was written is read
pub number_read : (table : Table) (row : ℕ) (fields : Record) (i n : ℕ) → field fields i ≡ decimal n → n < 10 ^ 10 → number_at table row fields i ≡ Ok n
number_read table row fields i n e small = rw (e, number_back n small) refl

-- a name that was written is read
pub name_read : (table : Table) (row : ℕ) (fields : Record) (i : ℕ) (name : Field) → field fields i ≡ name → is_name name ≡ true → name_at table row fields i ≡ Ok name
name_read table row fields i name e h = rw (e, h) refl

left_true : (a b : Bool) → (a && b) ≡ true → a ≡ true
left_true true b e = refl
left_true false b e = absurd (cc e)

right_true : (a b : Bool) → (a && b) ≡ true → b ≡ true
right_true true b e = e
right_true false b e = absurd (cc e)

-- names and numbers are UTF-8
pub name_utf8 : (name : Field) → is_name name ≡ true → is_utf8 name ≡ true
name_utf8 name h = right_true _ (is_utf8 name) (left_true _ _ h)

pub decimal_utf8 : (n : ℕ) → n < 10 ^ 10 → is_utf8 (decimal n) ≡ true
decimal_utf8 n small = is_utf8-from_IsUtf8 (decimal n) (IsUtf8-from_ascii (decimal n) (IsAscii-decimal n (omega arith)))

-- ---- places

bytes_same : (x : Field) → bytes_eq x x ≡ true
bytes_same x = (bytes_eq-Decides x x).1 refl

bytes_other : (x y : Field) → x ≢ y → bytes_eq x y ≡ false
bytes_other x y other = elim (cases_Bool (bytes_eq x y)) [
  | inl same ↦ absurd (other ((bytes_eq-Decides x y).0 same))
  | inr e ↦ e
]

-- the first place at which a name stands
place_is : (name : Field) (names : List Field) (i : ℕ) → i < length names → get_or names i [] ≡ name → ((k : ℕ) → k < i → name ≢ get_or names k []) → place_of name names ≡ Some i
place_is name names i h e before =
    let first = position_or_len_is (bytes_eq name) names i [] (omega arith) (λ k l. bytes_other name (get_or names k []) (before k l)) (λ _. rw e (bytes_same name)) in
    rw (first, lt-ltb i (length names) h) refl

-- a name that stands nowhere has no place
pub place_none : (name : Field) (names : List Field) → ((k : ℕ) → k < length names → name ≢ get_or names k []) → place_of name names ≡ None
place_none name names other =
    let past = position_or_len_is (bytes_eq name) names (length names) [] (omega arith) (λ k l. bytes_other name (get_or names k []) (other k l)) (λ l. absurd (omega arith)) in
    rw (past, le-ltb (length names) (length names) (omega arith)) refl

-- the name at a place stands there first
place_named : (names : List Field) (i : ℕ) → AllDiffer names → i < length names → place_of (named names i) names ≡ Some i
place_named names i differ h =
    rw (unwrap_or-slice_get names i []) (place_is (get_or names i []) names i h refl (λ k l e. differ k i [] l h (sym e)))

pub is_name-named : (names : List Field) (i : ℕ) → AreNames names → i < length names → is_name (named names i) ≡ true
is_name-named names i are h = rw (unwrap_or-slice_get names i []) (are.each i [] h)

pub station_found : (net : Net) (s : StationId) → IsProper net → IsStation net s → station_named net (named net.stations s.0) ≡ Some s
station_found net s proper h = rw (place_named net.stations s.0 proper.built.names.station_names.differ h) refl

pub type_found : (net : Net) (k : TypeId) → IsProper net → IsKind net k → type_named net (named net.types k.0) ≡ Some k
type_found net k proper h = rw (place_named net.types k.0 proper.built.names.type_names.differ h) refl

-- ---- the middle of a list

module _ {X : Type 0} where
  pub at_middle : (before after : List X) (x d : X) → get_or (before ++ x ∷ after) (length before) d ≡ x
  at_middle [] after x d = refl
  at_middle (y ∷ before) after x d = at_middle before after x d

  pub get_middle : (before after : List X) (x : X) → slice_get (before ++ x ∷ after) (length before) ≡ Some x
  get_middle [] after x = refl
  get_middle (y ∷ before) after x = get_middle before after x

  pub in_middle : (before after : List X) (x : X) → length before < length (before ++ x ∷ after)
  in_middle before after x = omega (arith, length-append before (x ∷ after))

-- a name stands only once among names that differ
pub differs_before : (before after : List Field) (name : Field) → AllDiffer (before ++ name ∷ after) → (k : ℕ) → k < length before → name ≢ get_or before k []
differs_before before after name differ k l e =
    let first : get_or (before ++ name ∷ after) k [] ≡ get_or before k [] = get_or_append_left before (name ∷ after) [] k l in
    differ k (length before) [] l (in_middle before after name) (first ∙ sym e ∙ sym (at_middle before after name []))

-- among names that differ each stands at its place
pub place_middle : (before after : List Field) (name : Field) → AllDiffer (before ++ name ∷ after) → place_of name (before ++ name ∷ after) ≡ Some (length before)
place_middle before after name differ =
    place_is name (before ++ name ∷ after) (length before) (in_middle before after name) (at_middle before after name [])
    (λ k l e. differs_before before after name differ k l (e ∙ get_or_append_left before (name ∷ after) [] k l))

-- ---- tables

header_same : (header : Record) → pointwise bytes_eq header header ≡ true
header_same [] = refl
header_same (name ∷ header) = rw (bytes_same name) (header_same header)

module _ {K : Type 0} (step : K → ℕ → Record → Result K TableFault) where
  -- a table that was written is read record by record
  pub table_means : (table : Table) (header : Record) (known : K) (rows : List Record) → AreShown (header ∷ rows) → BeginsPlain (header ∷ rows)
      → table_read step table header known (records_text (header ∷ rows)) ≡ rows_from step known 2 rows
  unfolding table_of rows_under
  table_means table header known rows shown plain = rw (table_back (header ∷ rows) shown plain, header_same header) refl

  -- records each of which adds one thing to what is known
  pub rows_add : {P : Type 0} (written : P → Record) (seen : List P → K) (all : List P)
      → ((before after : List P) (p : P) (row : ℕ) → before ++ p ∷ after ≡ all → step (seen before) row (written p) ≡ Ok (seen (before ++ p ∷ [])))
      → (before after : List P) (row : ℕ) → before ++ after ≡ all → rows_from step (seen before) row (map written after) ≡ Ok (seen all)
  unfolding rows_from
  rows_add written seen all one before [] row e = ap (λ (xs : List _). Ok (seen xs)) (rw append-nil at e)
  rows_add written seen all one before (p ∷ after) row e =
      rw (one before after p row e) (rows_add written seen all one (before ++ p ∷ []) after (row + 1) (rw append_assoc e))
