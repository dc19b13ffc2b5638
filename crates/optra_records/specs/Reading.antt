-- The records of a table, and those that a reader has left.
use Rattle.std.specs.Prelude.{◌≡◌, ◌+◌, ◌&&◌, ◌==◌, ℕ, Bool, true, false, List, [], ◌∷◌, length, drop, Option, Some, None, if◌then◌else◌, MatchBool}
use Rattle.std.specs.Borrow.{Bor}
use Rattle.csv.specs.declared.error.ErrorKind.{ErrorKind}
use Rattle.csv.specs.declared.error.ErrorKind.TheVariants as kind
use Rattle.csv.specs.declared.parser.State.{State}
use Rattle.csv.specs.declared.reader.Reader.{Reader}
use Rattle.csv.specs.declared.reader.Trim.TheVariants as trim
use Rattle.csv.specs.Reading.{Ready, default_config, has_failed, is_flexible, reader_config, reader_state, reader_trim, records, records_from, source_of}

abbrev pub Field : Type 0
Field = List ℕ

abbrev pub Record : Type 0
Record = List Field

-- a text begins with a byte-order mark
abbrev pub has_mark : List ℕ → Bool
has_mark (a ∷ b ∷ c ∷ rest) = (a == 0xEF) && (b == 0xBB) && (c == 0xBF)
has_mark _ = false

abbrev pub without_mark : List ℕ → List ℕ
without_mark bytes = if has_mark bytes then drop 3 bytes else bytes

-- The records of a table: a byte-order mark is dropped once, and a text that has one more has none.
unfoldable pub table_records : List ℕ → List Record
table_records bytes =
    let text = without_mark bytes in
    if has_mark text then [] else records default_config text

-- a read gives the first record of those left, or there is none
abbrev pub ReadsOne : Bool → List Record → List Record → Record → Type 0
ReadsOne found before after fields = MatchBool found (before ≡ fields ∷ after) (before ≡ [])

-- ---- what a reader over bytes in memory has left

abbrev pub bytes_left : Bor (List ℕ) → Option (List ℕ)
bytes_left s = Some s.now

-- the records of what is left from a state; a reader that failed has none
abbrev pub records_after : State → Option (List ℕ) → List Record
records_after state None = []
records_after state (Some bytes) = records_from default_config (length bytes + 1) state bytes

abbrev pub records_left : Reader (Bor (List ℕ)) → List Record
records_left reader = records_after (reader_state reader) (source_of bytes_left reader)

-- how a reader is set up that reads the records of a table
pub record IsSetUp (reader : Reader (Bor (List ℕ))) : Type 0 where
  pub plain : reader_trim reader ≡ trim.None
  pub ready : Ready reader
  pub config : reader_config reader ≡ default_config
  pub flexible : is_flexible reader ≡ true

-- it is so until it has failed
abbrev pub IsSound : Reader (Bor (List ℕ)) → Type 0
IsSound reader = has_failed reader ≡ false → IsSetUp reader

-- an error that says nothing of the text
abbrev pub IsNoFault : ErrorKind → Type 0
IsNoFault kind.OutOfMemory = Unit {0}
IsNoFault (kind.Io e) = Unit {0}
IsNoFault _ = ⊥
