-- The texts of a family's rows: the kinds of rows, what a row tells, and what its fields are read as.
use Rattle.std.specs.Prelude.{◌≡◌, ◌≢◌, ℕ, ◌≤◌, ◌<◌, ◌&&◌, List, [], ◌∷◌, length, nat_le, true, find, All, Contains, Option, None, Some, IsSome, Result, Ok, Err, bytes_eq}
use Rattle.std.specs.List.{AllPairs, AllZip}
use Rattle.std.specs.Str.{is_utf8}
use Rattle.optra_network.specs.Net.{Net}
use Rattle.optra_records.specs.Reading.{Field, Record}
use Rattle.optra_cert.specs.Columns.{Column, shown, record_values, FitsIn, IsKnownIn, IsShortColumn, IsShortWord, IsSoundColumn, IsTextColumn}
use Rattle.optra_cert.specs.declared.CertCode.{CertCode}
use Rattle.optra_cert.specs.declared.CertCode.TheVariants as codes
use Rattle.optra_cert.specs.declared.row_text.RowRead.{RowRead}
use Rattle.optra_cert.specs.declared.row_text.RowRead.TheVariants as read

-- a kind of rows: its word, the first version that has it, and what the fields behind the word tell
pub record RowKind : Type 0 where
  pub word : Field
  pub version : ℕ
  pub columns : List Column

-- how rows are told: the version of the family, its kinds, the kind and the values of a row, and the row of a word and values
pub record RowTexts (R : Type 0) : Type 0 where
  pub version : ℕ
  pub kinds : List RowKind
  pub told : R → RowKind × List ℕ
  pub made : Field → List ℕ → Option R

-- no two kinds have one word
abbrev pub AreApart : List RowKind → Type 0
AreApart kinds = AllPairs (λ a b. a.word ≢ b.word) kinds

-- the fields of a row
abbrev pub row_fields : {R : Type 0} → RowTexts R → Net → R → Record
row_fields texts net row = let told = texts.told row in told.0.word ∷ shown net told.0.columns told.1

-- the names of a row are in the network
abbrev pub IsKnownRow : {R : Type 0} → RowTexts R → Net → R → Type 0
IsKnownRow texts net row = let told = texts.told row in AllZip (IsKnownIn net) told.0.columns told.1

-- and its numbers are in their ranges
abbrev pub FitsRow : {R : Type 0} → RowTexts R → Net → R → Type 0
FitsRow texts net row = let told = texts.told row in AllZip (FitsIn net) told.0.columns told.1

-- a row that a certificate of the version can list
abbrev pub IsRowOf : {R : Type 0} → RowTexts R → Net → ℕ → R → Type 0
IsRowOf texts net version row = ((texts.told row).0.version ≤ version) × FitsRow texts net row

-- the kind of a word in a version
abbrev pub kind_named : List RowKind → ℕ → Field → Option RowKind
kind_named kinds version word = find (λ kind. bytes_eq kind.word word && nat_le kind.version version) kinds

abbrev pub made_row : {R : Type 0} → Option R → RowRead R
made_row None = read.Kind
made_row (Some row) = read.Row row

abbrev pub row_of_values : {R : Type 0} → RowTexts R → Field → Result (List ℕ) CertCode → RowRead R
row_of_values texts word (Ok values) = made_row (texts.made word values)
row_of_values texts word (Err codes.Name) = read.Name
row_of_values texts word (Err codes.Number) = read.Number
row_of_values texts word (Err _) = read.Kind

-- what the fields behind the word tell, where this is its kind
abbrev pub read_by : {R : Type 0} → RowTexts R → Net → Option RowKind → Record → RowRead R
read_by texts net None fields = read.Kind
read_by texts net (Some kind) fields = row_of_values texts kind.word (record_values net kind.columns fields)

-- What fields are read as in a version: Kind, where the first is no word of a kind or their number isn't the kind's; else
-- Name or Number, at the first from the left with that fault; else the row.
unfoldable pub read_row : {R : Type 0} → RowTexts R → Net → ℕ → Record → RowRead R
read_row texts net version [] = read.Kind
read_row texts net version (word ∷ fields) = read_by texts net (kind_named texts.kinds version word) fields

-- ---- what each family proves

-- each row's kind is one of the kinds
abbrev pub TellsKinds : {R : Type 0} → RowTexts R → Type 0
TellsKinds {R} texts = (row : R) → Contains texts.kinds (texts.told row).0

-- each kind is of a version from 1 to the family's
abbrev pub HasVersions : {R : Type 0} → RowTexts R → Type 0
HasVersions texts = All (λ kind. (1 ≤ kind.version) × (kind.version ≤ texts.version)) texts.kinds

-- what a field of a kind tells has one text
abbrev pub HasSoundColumns : {R : Type 0} → RowTexts R → Type 0
HasSoundColumns texts = All (λ kind. All IsSoundColumn kind.columns) texts.kinds

-- the words of kinds and of their columns are UTF-8
abbrev pub HasTextWords : {R : Type 0} → RowTexts R → Type 0
HasTextWords texts = All (λ kind. (is_utf8 kind.word ≡ true) × All IsTextColumn kind.columns) texts.kinds

-- the words of kinds and of their columns are at most 64 bytes long
abbrev pub HasShortWords : {R : Type 0} → RowTexts R → Type 0
HasShortWords texts = All (λ kind. IsShortWord kind.word × All IsShortColumn kind.columns) texts.kinds

-- a kind has at most 31 columns, so a row has at most 32 fields
abbrev pub HasFewColumns : {R : Type 0} → RowTexts R → Type 0
HasFewColumns texts = All (λ kind. length kind.columns < 32) texts.kinds

-- what a row tells makes the row
abbrev pub MakesTold : {R : Type 0} → RowTexts R → Type 0
MakesTold {R} texts = (row : R) → texts.made (texts.told row).0.word (texts.told row).1 ≡ Some row

-- a row that is made tells what it was made of
abbrev pub TellsMade : {R : Type 0} → RowTexts R → Type 0
TellsMade {R} texts = (word : Field) (values : List ℕ) (row : R) → texts.made word values ≡ Some row
    → ((texts.told row).0.word ≡ word) × ((texts.told row).1 ≡ values)

-- of each kind a row is made of values, one for each column
abbrev pub MakesEach : {R : Type 0} → RowTexts R → Type 0
MakesEach {R} texts = (kind : RowKind) (values : List ℕ) → Contains texts.kinds kind → length values ≡ length kind.columns → IsSome (texts.made kind.word values)

-- what texts of rows keep, where their kinds are apart
pub record AreTexts {R : Type 0} (texts : RowTexts R) : Type 0 where
  pub kinds : TellsKinds texts
  pub versions : HasVersions texts
  pub columns : HasSoundColumns texts
  pub words : HasTextWords texts
  pub short : HasShortWords texts
  pub few : HasFewColumns texts
  pub makes : MakesTold texts
  pub tells : TellsMade texts
  pub each : MakesEach texts
