-- The table of a timetable: what its records mean, or its first fault.
use Rattle.std.specs.Prelude.{◌≡◌, ℕ, ◌-◌, nat_le, nat_lt, Bool, codes, List, [], ◌∷◌, ◌++◌, length, map, Result, Ok, Err}
use Rattle.optra_network.specs.Names.{place_of}
use Rattle.optra_network.specs.Net.{Net}
use Rattle.optra_network.specs.Refusals.{track_named}
use Rattle.optra_network.specs.declared.TrackId.{TrackId}
use Rattle.optra_bid.specs.declared.bids.Bid.{Bid}
use Rattle.optra_records.specs.Reading.{Record}
use Rattle.optra_records.specs.Tables.{◌>>=◌, field, guard, number_at, or_else, shaped, table_of}
use Rattle.optra_records.specs.declared.TableError.{TableError}
use Rattle.optra_records.specs.declared.TableError.TheVariants as unread
use Rattle.optra_walk.specs.declared.Action.{Action}
use Rattle.optra_walk.specs.Words.{action_of_word, checked_dwell, start_of_word}
use Rattle.optra_audit.specs.declared.Line.{Line}
use Rattle.optra_audit.specs.declared.TimesError.{TimesError}
use Rattle.optra_audit.specs.declared.TimesError.TheVariants as errors
use Rattle.optra_audit.specs.declared.TimesKind.{TimesKind}
use Rattle.optra_audit.specs.declared.TimesKind.TheVariants as kinds
use Rattle.optra_audit.specs.declared.row_faults.RowFault.{RowFault}

abbrev pub times_header : Record
times_header = codes "bid" ∷ codes "track" ∷ codes "depart" ∷ codes "from" ∷ codes "action" ∷ codes "dwell" ∷ []

-- the names of the bids, in order
abbrev pub bid_names : List Bid → List (List ℕ)
bid_names bids = map (λ (bid : Bid). bid.name) bids

-- the fault of a row
abbrev pub fault : ℕ → TimesKind → RowFault
fault row kind = record { row = row; kind = kind }

-- a line of a bid
abbrev pub line_of : ℕ → TrackId → ℕ → Bool → Action → Line
line_of bid track depart from_halt action =
    record { bid = bid; leg = record { track = track; depart = depart; from_halt = from_halt; action = action } }

-- what the fields say of the leg, once its bid and its track are known
unfoldable pub leg_line : ℕ → Record → ℕ → ℕ → ℕ → TrackId → Result Line RowFault
leg_line row fields depart dwell bid track = do
  from_halt ← or_else (fault row kinds.U3) (start_of_word (field fields 3))
  does ← or_else (fault row kinds.U3) (action_of_word (field fields 4))
  day ← guard (fault row kinds.U4) (nat_le depart 2879)
  action ← or_else (fault row kinds.U4) (checked_dwell does dwell)
  Ok (line_of bid track depart from_halt action)

-- What a record adds to the lines: its form, its numbers, and then the refusals: there are 8,000 lines already, no bid or no
-- track has the name, a word is unknown, or a number is out of range.
unfoldable pub line_row : Net → List (List ℕ) → List Line → ℕ → Record → Result (List Line) RowFault
line_row net names lines row fields = do
  form ← shaped (fault row kinds.Csv) 6 fields
  depart ← number_at (fault row kinds.Number) fields 2
  dwell ← number_at (fault row kinds.Number) fields 5
  few ← guard (fault row kinds.U5) (nat_lt (length lines) 8000)
  bid ← or_else (fault row kinds.U1) (place_of (field fields 0) names)
  track ← or_else (fault row kinds.U2) (track_named net (field fields 1))
  line ← leg_line row fields depart dwell bid track
  Ok (lines ++ line ∷ [])

-- The lines that a table means where the bids have these names, in the order of its records, or its first fault.
unfoldable pub lines_of : Net → List (List ℕ) → List ℕ → Result (List Line) RowFault
lines_of net names bytes = table_of (line_row net names) (fault 1 kinds.Header) times_header [] bytes

-- how many more records the table may have
abbrev pub lines_room : List Line → ℕ
lines_room lines = 8000 - length lines

-- a fault of a call is the fault of the table, or want of memory, which says nothing
abbrev pub Fails : {Y : Type 0} → TimesError → Result Y RowFault → Type 0
Fails errors.NoMemory read = Unit {0}
Fails (errors.Fault row kind) read = read ≡ Err (fault row kind)

-- what a call answers, seen by view, is what reading gives, unless memory ran out
abbrev pub Gives : {X Y : Type 0} → (X → Y) → Result X TimesError → Result Y RowFault → Type 0
Gives view (Ok x) read = read ≡ Ok (view x)
Gives view (Err e) read = Fails e read

-- why a table isn't read, as the caller is told
abbrev pub error_of : TableError RowFault → TimesError
error_of (unread.Fault f) = errors.Fault f.row f.kind
error_of unread.NoMemory = errors.NoMemory
