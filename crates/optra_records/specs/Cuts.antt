-- Records that are cut: the first bytes of their first fields, and what a reader of them does with each byte.
use Rattle.std.specs.Prelude.{ℕ, nat_lt, List, [], ◌∷◌, ◌++◌, length, map, take, Option, Some, None, if◌then◌else◌}
use Rattle.csv.specs.Machine.{Read}
use Rattle.csv.specs.Reading.{default_config, records}
use Rattle.csv.specs.declared.parser.Action as csv_action
use Rattle.csv.specs.declared.parser.Action.TheVariants as act
use Rattle.csv.specs.declared.parser.State as csv_state
use Rattle.csv.specs.declared.parser.State.TheVariants as st
use Rattle.optra_records.specs.Reading.{Field, Record, records_after}
use Rattle.optra_records.specs.declared.steps.Action.{Action}
use Rattle.optra_records.specs.declared.steps.Action.TheVariants as actions
use Rattle.optra_records.specs.declared.steps.State.{State}
use Rattle.optra_records.specs.declared.steps.State.TheVariants as states

-- the first 65 bytes of a field
abbrev pub cut_field : Field → Field
cut_field = take 65

-- the first 65 bytes of each of the first 40 fields of a record
abbrev pub cut : Record → Record
cut fields = map cut_field (take 40 fields)

-- The records of a text, each cut.
abbrev pub cut_records : List ℕ → List Record
cut_records bytes = map cut (records default_config bytes)

-- ---- a reader of them

-- its states and actions are those of csv's default reader
abbrev pub state_of : State → csv_state.State
state_of states.StartRecord = st.StartRecord
state_of states.StartField = st.StartField
state_of states.InField = st.InField
state_of states.InQuoted = st.InQuoted
state_of states.AfterQuote = st.AfterQuote
state_of states.AfterCr = st.AfterCr

abbrev pub action_of : Action → csv_action.Action
action_of actions.Skip = act.Skip
action_of actions.Copy = act.Copy
action_of actions.EndField = act.EndField
action_of actions.EndRecord = act.EndRecord

-- a field with one byte more, where it has room
abbrev pub field_with : Field → ℕ → Field
field_with field b = if nat_lt (length field) 65 then field ++ b ∷ [] else field

-- a record with one field more, where it has room
abbrev pub fields_with : Record → Field → Record
fields_with fields field = if nat_lt (length fields) 40 then fields ++ field ∷ [] else fields

-- the field at hand behind an action of a byte
abbrev pub field_behind : Action → Field → ℕ → Field
field_behind actions.Skip field b = field
field_behind actions.Copy field b = field_with field b
field_behind actions.EndField field b = []
field_behind actions.EndRecord field b = []

-- the fields behind an action
abbrev pub fields_behind : Action → Record → Field → Record
fields_behind actions.Skip fields field = fields
fields_behind actions.Copy fields field = fields
fields_behind actions.EndField fields field = fields_with fields field
fields_behind actions.EndRecord fields field = fields_with fields field

-- a record that was read, cut
abbrev pub cut_read : Option Read → Option Read
cut_read None = None
cut_read (Some read) = Some (cut read.0, read.1, read.2)

-- what a reader in a state has left of a text, each record cut
abbrev pub cut_left : State → List ℕ → List Record
cut_left state text = map cut (records_after (state_of state) (Some text))
