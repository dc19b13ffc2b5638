-- A value, or the first fault of a table.
use Rattle.std.specs.Prelude.{◌≡◌, ℕ, Option, None, Some, Result, Ok, Err}
use Rattle.optra_network.specs.declared.NetRefusal.{NetRefusal}
use Rattle.optra_network.specs.declared.NetFault.{NetFault}
use Rattle.optra_network.specs.declared.NetFault.TheVariants as net_faults
use Rattle.optra_bid.specs.declared.BidRefusal.{BidRefusal}
use Rattle.optra_bid.specs.declared.BidFault.{BidFault}
use Rattle.optra_bid.specs.declared.BidFault.TheVariants as bid_faults
use Rattle.optra_records.specs.Tables.{or_else}
pub use Rattle.optra_records.specs.Tables.{◌>>=◌, guard}
use Rattle.optra_records.specs.declared.TableError.{TableError}
use Rattle.optra_records.specs.declared.TableError.TheVariants as unread
use Rattle.optra_tables.specs.declared.Kind.{Kind}
use Rattle.optra_tables.specs.declared.Kind.TheVariants as kinds
use Rattle.optra_tables.specs.declared.ReadError.{ReadError}
use Rattle.optra_tables.specs.declared.ReadError.TheVariants as errors
use Rattle.optra_tables.specs.declared.Table.{Table}
use Rattle.optra_tables.specs.declared.TableFault.{TableFault}

-- a fault of a call is the fault of the table, or want of memory, which says nothing
abbrev pub Fails : {Y : Type 0} → ReadError → Result Y TableFault → Type 0
Fails errors.NoMemory read = Unit {0}
Fails (errors.Fault f) read = read ≡ Err f

-- What a call answers, seen by view, is what reading gives, unless memory ran out.
abbrev pub Gives : {X Y : Type 0} → (X → Y) → Result X ReadError → Result Y TableFault → Type 0
Gives view (Ok x) read = read ≡ Ok (view x)
Gives view (Err e) read = Fails e read

-- the fault of a row of a table
abbrev pub fault : Table → ℕ → Kind → TableFault
fault table row kind = record { table = table; row = row; kind = kind }

-- a value that is there, or a fault
abbrev pub or_fault : {A : Type 0} → TableFault → Option A → Result A TableFault
or_fault f found = or_else f found

-- what is known after a record, or what the network refuses in it
abbrev pub net_outcome : {A : Type 0} → Table → ℕ → Option NetRefusal → A → Result A TableFault
net_outcome table row None after = Ok after
net_outcome table row (Some why) after = Err (fault table row (kinds.Net why))

-- what is known after a record, or what the bid refuses in it
abbrev pub bid_outcome : {A : Type 0} → Table → ℕ → Option BidRefusal → A → Result A TableFault
bid_outcome table row None after = Ok after
bid_outcome table row (Some why) after = Err (fault table row (kinds.Bid why))

-- an answer of the network with its refusal as the fault of a row
abbrev pub IsNetAnswer : {X : Type 0} → Table → ℕ → Result X NetFault → Result X ReadError → Type 0
IsNetAnswer table row (Ok x) result = result ≡ Ok x
IsNetAnswer table row (Err (net_faults.Refused why)) result = result ≡ Err (errors.Fault (fault table row (kinds.Net why)))
IsNetAnswer table row (Err net_faults.NoMemory) result = result ≡ Err errors.NoMemory

-- an answer of a bid with its refusal as the fault of a row
abbrev pub IsBidAnswer : {X : Type 0} → Table → ℕ → Result X BidFault → Result X ReadError → Type 0
IsBidAnswer table row (Ok x) result = result ≡ Ok x
IsBidAnswer table row (Err (bid_faults.Refused why)) result = result ≡ Err (errors.Fault (fault table row (kinds.Bid why)))
IsBidAnswer table row (Err bid_faults.NoMemory) result = result ≡ Err errors.NoMemory

-- why a table isn't read, as the crate tells it
abbrev pub error_of : TableError TableFault → ReadError
error_of (unread.Fault f) = errors.Fault f
error_of unread.NoMemory = errors.NoMemory

-- an answer as the reader of records takes it
abbrev pub IsRowAnswer : Result (Unit {0}) ReadError → Result (Unit {0}) (TableError TableFault) → Type 0
IsRowAnswer (Ok x) result = result ≡ Ok tt
IsRowAnswer (Err (errors.Fault f)) result = result ≡ Err (unread.Fault f)
IsRowAnswer (Err errors.NoMemory) result = result ≡ Err unread.NoMemory
