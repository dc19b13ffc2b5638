-- The tables that a command over a network and its bids gets, what they mean, and a reply by their meaning.
use Rattle.std.specs.Prelude.{◌≡◌, ℕ, List, [], ◌++◌, length, Option, None, Some, slice_get, Result, Ok, Err, codes}
use Rattle.std.specs.Option.{option_map}
use Rattle.optra_network.specs.Net.{Net}
use Rattle.optra_tables.specs.declared.Table.{Table}
use Rattle.optra_tables.specs.declared.Table.TheVariants.{Stations, Tracks, Types, Running, Headways, Crossings, Bids, Stops, Rules, Actions}
use Rattle.optra_tables.specs.declared.TableFault.{TableFault}
use Rattle.optra_tables.specs.Outcomes.{◌>>=◌}
use Rattle.optra_tables.specs.Networks as networks
use Rattle.optra_tables.specs.Bids.{Parts}
use Rattle.optra_tables.specs.Stops.{bids_of}
use Rattle.optra_text.specs.FaultLines.{refusal_line}
use Rattle.optra_frame.specs.declared.files.Role.TheVariants as roles
use Rattle.optra_frame.specs.Files.{File, Contents, content_of}
use Rattle.optra_frame.specs.Replies.{Reply, refused, answered}
use Rattle.optra_frame.specs.Statuses.{refused_status}
use Rattle.optra_frame.specs.Versions.{tables_in}
use Rattle.optra_frame.specs.VersionsTold.{version_in}
use Rattle.optra_frame.specs.declared.version.Version.{Version}
use Rattle.optra_frame.specs.declared.version.Version.TheVariants.{First, Second}

-- ---- their files

-- the name of a table's file, where the words name the network's folder, the bids and the stops; the tables of an auction have none
abbrev pub table_file_name : List ℕ → List ℕ → List ℕ → Table → List ℕ
table_file_name net bids stops Stations = net ++ codes "/stations.csv"
table_file_name net bids stops Tracks = net ++ codes "/tracks.csv"
table_file_name net bids stops Types = net ++ codes "/types.csv"
table_file_name net bids stops Running = net ++ codes "/running.csv"
table_file_name net bids stops Headways = net ++ codes "/headways.csv"
table_file_name net bids stops Crossings = net ++ codes "/crossings.csv"
table_file_name net bids stops Bids = bids
table_file_name net bids stops Stops = stops
table_file_name net bids stops Rules = []
table_file_name net bids stops Actions = []

-- a table's file
abbrev pub table_file : List ℕ → List ℕ → List ℕ → Table → File
table_file net bids stops table = record { role = roles.Table table; name = table_file_name net bids stops table }

-- the content of a table's file
abbrev pub table_content : Contents → Table → List ℕ
table_content contents table = content_of contents (roles.Table table)

-- the tables that are got, in order: those of the version
abbrev pub all_tables : Contents → List Table
all_tables contents = tables_in (version_in contents)

-- the file of the next table after these files; none once all are got
abbrev pub next_table_file : List ℕ → List ℕ → List ℕ → Contents → Option File
next_table_file net bids stops contents = option_map (table_file net bids stops) (slice_get (all_tables contents) (length contents))

-- ---- what they mean

-- a network and its bids, and the version of their tables
pub record Tables : Type 0 where
  pub version : Version
  pub net : Net
  pub bids : List Parts

-- the crossings among the files, in version 2
abbrev pub crossings_in : Version → Contents → Option (List ℕ)
crossings_in First contents = None
crossings_in Second contents = Some (table_content contents Crossings)

-- the network's tables among the files
abbrev pub net_files : Contents → networks.Files
net_files contents = record {
  stations = table_content contents Stations;
  tracks = table_content contents Tracks;
  types = table_content contents Types;
  running = table_content contents Running;
  headways = table_content contents Headways;
  crossings = crossings_in (version_in contents) contents;
}

-- what the contents of the files mean, or their first fault
unfoldable pub meaning_of : Contents → Result Tables TableFault
meaning_of contents = do
  net ← networks.network_of (net_files contents)
  bids ← bids_of net (table_content contents Bids) (table_content contents Stops)
  Ok (record { version = version_in contents; net = net; bids = bids })

-- ---- a reply by their meaning

-- what a command answers to contents that are accepted, by what they mean: a status, a text and the files that it puts
abbrev pub AnswerTo : Type 0 → Type 1
AnswerTo T = T → ℕ → List ℕ → List (List ℕ × List ℕ) → Type 0

-- contents that have a first fault are refused with the fault's status and line, and others are answered
abbrev pub ReplyTo : {T F : Type 0} → (F → ℕ) → (F → List ℕ) → AnswerTo T → Result T F → Reply → Type 0
ReplyTo status_by line_by Answers (Err fault) (refused status line) = (status ≡ status_by fault) × (line ≡ line_by fault)
ReplyTo status_by line_by Answers (Err fault) (answered status text puts) = ⊥
ReplyTo status_by line_by Answers (Ok read) (refused status line) = ⊥
ReplyTo status_by line_by Answers (Ok read) (answered status text puts) = Answers read status text puts

-- the status of tables that are refused
abbrev pub table_status : TableFault → ℕ
table_status fault = refused_status

-- the reply of a command over the tables of a network, its bids or an auction
abbrev pub TablesReply : {T : Type 0} → AnswerTo T → Result T TableFault → Reply → Type 0
TablesReply Answers read reply = ReplyTo table_status refusal_line Answers read reply
