-- The files that a command gets: what each is for, its name, and what it held when it was got.
use Rattle.std.specs.Prelude.{◌≡◌, ℕ, ◌≤◌, Bool, true, false, nat_eq, List, [], ◌∷◌, length, map, Some, string_bytes, if◌then◌else◌}
use Rattle.std.specs.List.{AllByRecursion}
use Rattle.std.specs.FinMap.{get}
use Rattle.optra_outside.specs.Shelf.{ShelfState}
use Rattle.optra_tables.specs.declared.Table.{Table}
use Rattle.optra_tables.specs.declared.Table.TheVariants.{Stations, Tracks, Types, Running, Headways, Crossings, Bids, Stops, Rules, Actions}
use Rattle.optra_frame.specs.declared.files.Role.{Role}
use Rattle.optra_frame.specs.declared.files.Role.TheVariants as roles
use Rattle.optra_frame.specs.declared.files.Asked as asked_file
use Rattle.optra_frame.specs.declared.files.Got as got_file

-- a file that a command asks for
pub record File : Type 0 where
  pub role : Role
  pub name : List ℕ

-- a file that was got
pub record Held : Type 0 where
  pub file : File
  pub content : List ℕ

-- files that were got, in order
abbrev pub Contents : Type 0
Contents = List Held

-- what the code asks for, and what it got
abbrev pub file_asked : asked_file.Asked → File
file_asked asked = record { role = asked.role; name = string_bytes asked.name }

abbrev pub file_got : got_file.Got → Held
file_got got = record { file = file_asked got.asked; content = got.content.items }

abbrev pub files_got : List got_file.Got → Contents
files_got files = map file_got files

-- each table has a number of its own
abbrev pub table_number : Table → ℕ
table_number Stations = 0
table_number Tracks = 1
table_number Types = 2
table_number Running = 3
table_number Headways = 4
table_number Crossings = 5
table_number Bids = 6
table_number Stops = 7
table_number Rules = 8
table_number Actions = 9

abbrev pub same_role : Role → Role → Bool
same_role (roles.Table a) (roles.Table b) = nat_eq (table_number a) (table_number b)
same_role (roles.Table a) roles.Certificate = false
same_role (roles.Table a) roles.Timetable = false
same_role roles.Certificate (roles.Table b) = false
same_role roles.Certificate roles.Certificate = true
same_role roles.Certificate roles.Timetable = false
same_role roles.Timetable (roles.Table b) = false
same_role roles.Timetable roles.Certificate = false
same_role roles.Timetable roles.Timetable = true

-- the content of the first file in the role; nothing where there is none
abbrev pub content_of : Contents → Role → List ℕ
content_of [] role = []
content_of (held ∷ rest) role = if same_role held.file.role role then held.content else content_of rest role

-- the shelf's files have the name, with this content, within the limit
pub record HoldsFile (shelf : ShelfState) (held : Held) : Type 0 where
  pub there : get shelf.files held.file.name ≡ Some held.content
  pub within : length held.content ≤ shelf.limit

abbrev pub HoldsAll : ShelfState → Contents → Type 0
HoldsAll shelf contents = AllByRecursion (HoldsFile shelf) contents
