-- The line of each fault that ends a command.
use Rattle.std.specs.Prelude.{ℕ, List, [], ◌∷◌, ◌++◌, codes}
use Rattle.std.specs.Fmt.{decimal}
use Rattle.optra_network.specs.declared.NetRefusal.{NetRefusal}
use Rattle.optra_network.specs.declared.NetRefusal.TheVariants as net
use Rattle.optra_bid.specs.declared.BidRefusal.{BidRefusal}
use Rattle.optra_bid.specs.declared.BidRefusal.TheVariants as bid
use Rattle.optra_tables.specs.declared.Kind.{Kind}
use Rattle.optra_tables.specs.declared.Kind.TheVariants.{Csv, Header, Name, Number, Net, Bid}
use Rattle.optra_tables.specs.declared.Table.{Table}
use Rattle.optra_tables.specs.declared.Table.TheVariants.{Stations, Tracks, Types, Running, Headways, Crossings, Bids, Stops, Rules, Actions}
use Rattle.optra_tables.specs.declared.TableFault.{TableFault}
use Rattle.optra_text.specs.declared.faults.FaultView.{FaultView}
use Rattle.optra_text.specs.declared.faults.FaultView.TheVariants as view

-- a text and one line feed
abbrev pub line : List ℕ → List ℕ
line text = text ++ 10 ∷ []

-- the name of a table in a line
abbrev pub table_word : Table → List ℕ
table_word Stations = codes "stations"
table_word Tracks = codes "tracks"
table_word Types = codes "types"
table_word Running = codes "running"
table_word Headways = codes "headways"
table_word Crossings = codes "crossings"
table_word Bids = codes "bids"
table_word Stops = codes "stops"
table_word Rules = codes "rules"
table_word Actions = codes "actions"

-- the code of what the network refuses
abbrev pub net_code : NetRefusal → List ℕ
net_code net.TakenName = codes "N1"
net_code net.UnknownName = codes "N2"
net_code net.Range = codes "N3"
net_code net.SelfLoop = codes "N4"
net_code net.Repeated = codes "N5"
net_code net.MissingHeadway = codes "N6"
net_code net.TooMany = codes "N7"
net_code net.OneWayCrossing = codes "N8"
net_code net.Reach = codes "N9"

-- the code of what a bid refuses
abbrev pub bid_code : BidRefusal → List ℕ
bid_code bid.Ends = codes "B1"
bid_code bid.Window = codes "B2"
bid_code bid.Range = codes "B3"
bid_code bid.UnknownName = codes "B4"
bid_code bid.Stops = codes "B5"

-- the code of a fault
abbrev pub kind_code : Kind → List ℕ
kind_code Csv = codes "Csv"
kind_code Header = codes "Header"
kind_code Name = codes "Name"
kind_code Number = codes "Number"
kind_code (Net why) = net_code why
kind_code (Bid why) = bid_code why

-- refused: <table> row <row> <code>
abbrev pub row_line : List ℕ → ℕ → List ℕ → List ℕ
row_line table row code = codes "refused: " ++ table ++ codes " row " ++ decimal row ++ codes " " ++ line code

-- the line of a table's first fault
abbrev pub refusal_line : TableFault → List ℕ
refusal_line fault = row_line (table_word fault.table) fault.row (kind_code fault.kind)

-- usage: <forms>
abbrev pub usage_line : List ℕ → List ℕ
usage_line forms = codes "usage: " ++ line forms

-- journal: <code>
abbrev pub journal_line : List ℕ → List ℕ
journal_line code = codes "journal: " ++ line code

abbrev pub read_line : List ℕ → List ℕ
read_line name = codes "read fault: " ++ line name

abbrev pub absent_line : List ℕ → List ℕ
absent_line name = codes "absent: " ++ line name

abbrev pub too_long_line : List ℕ → List ℕ
too_long_line name = codes "too long: " ++ line name

abbrev pub write_line : List ℕ
write_line = line (codes "write fault")

abbrev pub disk_line : List ℕ
disk_line = line (codes "disk fault")

abbrev pub memory_line : List ℕ
memory_line = line (codes "no memory")

-- the line of a fault
abbrev pub fault_line : FaultView → List ℕ
fault_line (view.Usage forms) = usage_line forms.now
fault_line (view.Table fault) = refusal_line fault
fault_line (view.Coded table row code) = row_line table.now row code.now
fault_line (view.Journal code) = journal_line code.now
fault_line (view.Read name) = read_line name.now
fault_line (view.Absent name) = absent_line name.now
fault_line (view.TooLong name) = too_long_line name.now
fault_line view.Write = write_line
fault_line view.Disk = disk_line
fault_line view.NoMemory = memory_line
