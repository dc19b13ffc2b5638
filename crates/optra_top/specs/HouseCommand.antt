-- The house command: the files that it gets are those of an auction, and what it replies to their contents and to its journal. Where
-- the disk doesn't tell its file, the state as which the journal opened is some state.
use Rattle.std.specs.Prelude.{◌≡◌, ℕ, List, [], ◌∷◌, ◌&&◌, Bool, map, not, Option, None, Some, Result, Ok, Err, codes, true, if◌then◌else◌}
use Rattle.std.specs.Option.{option_and_then}
use Rattle.optra_outside.specs.Disk.{DiskState, MayLeave}
use Rattle.optra_network.specs.Net.{Net}
use Rattle.optra_bid.specs.declared.bids.Bid.{Bid}
use Rattle.optra_walk.specs.Families.{Entry}
use Rattle.optra_auction.specs.Machine.{State, spec_names}
use Rattle.optra_auction.specs.declared.Rules as declared_rules
use Rattle.optra_house.specs.Answers.{IsUnwritten, open_refusal, opened_gate}
use Rattle.optra_house.specs.PostAnswers.{has_no_room}
use Rattle.optra_house.specs.Replay.{opens_as}
use Rattle.optra_house.specs.Stamps.{Stamp, payload_of}
use Rattle.optra_house.specs.declared.refusals.OpenError.{OpenError}
use Rattle.optra_house.specs.declared.refusals.OpenError.TheVariants.{NotAJournal, Full, Disk, NoMemory}
use Rattle.optra_rounds.specs.Rounds.{acts_of, asked_of}
use Rattle.optra_tables.specs.Bids.{parts_of}
use Rattle.optra_tables.specs.declared.Table.TheVariants.{Bids, Stops, Rules}
use Rattle.optra_tables.specs.declared.TableFault.{TableFault}
use Rattle.optra_tables.specs.declared.TimedAct.{TimedAct}
use Rattle.optra_text.specs.FaultLines.{journal_line, refusal_line}
use Rattle.optra_frame.specs.Files.{Contents}
use Rattle.optra_frame.specs.Replies.{Reply, refused, answered}
use Rattle.optra_frame.specs.Statuses.{journal_status}
use Rattle.optra_frame.specs.TableFiles.{table_content, table_status}
use Rattle.optra_frame.specs.declared.version.Version.{Version}
use Rattle.optra_verdict.specs.Families.{OfVersion}
use Rattle.optra_verdict.specs.FamilyOf.{FamilyOf}
use Rattle.optra_play.specs.HouseRounds.{GoesOn}
use Rattle.optra_top.specs.AuctionCommand.{AuctionTables, auction_of}

-- ---- the journal

-- the stamp of the journal: the bytes of the bids, of the stops and of the rules
abbrev pub stamp_in : Contents → Stamp
stamp_in contents = record { bids = table_content contents Bids; stops = table_content contents Stops; rules = table_content contents Rules }

-- the code of a journal that isn't opened
abbrev pub open_code : OpenError → List ℕ
open_code NotAJournal = codes "H1"
open_code Full = codes "H4"
open_code Disk = []
open_code NoMemory = []

-- the auction is open, and its round may not fit into the file
abbrev pub round_refusal : Stamp → List TimedAct → List ℕ → State → Option (List ℕ)
round_refusal stamp actions file s =
    if not s.closed && has_no_room (record { auction = s; gate = opened_gate stamp file }) (asked_of (acts_of s.round actions)) then Some (codes "H4") else None

-- a journal that isn't opened is refused for that, and else for what comes later
abbrev pub refused_or : Option OpenError → Option (List ℕ) → Option (List ℕ)
refused_or (Some why) later = Some (open_code why)
refused_or None later = later

-- ---- the reply

-- a journal: its name, its stamp, and the specifications and rules of its auction
pub record Journal : Type 0 where
  pub name : List ℕ
  pub stamp : Stamp
  pub specs : List Bid
  pub rules : declared_rules.Rules

-- what a run of the house asks for: a journal, and the auction's actions
pub record HouseAsked : Type 0 where
  pub journal : Journal
  pub actions : List TimedAct

-- the state as which a file opens as the journal, and why it isn't opened
abbrev pub opened_as : Journal → List ℕ → Option State
opened_as journal file = opens_as (payload_of journal.stamp) journal.specs journal.rules file

abbrev pub unopened : Journal → List ℕ → Option OpenError
unopened journal file = open_refusal journal.stamp journal.specs journal.rules file

-- Why a file is refused as the journal of an auction, by a code: it isn't one, or there is no room for its stamp or for its next round.
abbrev pub journal_refusal : HouseAsked → List ℕ → Option (List ℕ)
journal_refusal asked file =
    refused_or (unopened asked.journal file) (option_and_then (round_refusal asked.journal.stamp asked.actions file) (opened_as asked.journal file))

-- The journal is refused, with the line of this code. One that isn't opened is not written.
pub record RefusesJournal (asked : HouseAsked) (before now : DiskState) (status : ℕ) (line : List ℕ) : Type 0 where
  pub code : List ℕ
  pub due : before.tells ≡ true → journal_refusal asked before.file.now.bytes ≡ Some code
  pub unwritten : before.tells ≡ true → (why : OpenError) → unopened asked.journal before.file.now.bytes ≡ Some why → IsUnwritten before.file now.file
  pub name_is : before.tells ≡ true → now.name ≡ asked.journal.name
  pub status_is : status ≡ journal_status
  pub line_is : line ≡ journal_line code

-- The journal opened as a state of the auction, and what is printed is its next round, or its close where it has none. Nothing is put,
-- and each crash leaves a journal that opens as the state after that.
pub record PrintsHouse {R : Type 0} (family : FamilyOf R) (Keeps : List Entry → Type 0) (net : Net) (asked : HouseAsked) (before now : DiskState) (status : ℕ) (text : List ℕ) (puts : List (List ℕ × List ℕ)) : Type 0 where
  pub state : State
  pub last : State
  pub accepted : before.tells ≡ true → journal_refusal asked before.file.now.bytes ≡ None
  pub opens : before.tells ≡ true → opened_as asked.journal before.file.now.bytes ≡ Some state
  pub goes : GoesOn family Keeps net (spec_names asked.journal.specs) asked.actions state last status text
  pub stands : before.tells ≡ true → (image : List ℕ) → MayLeave now.file.now image → opened_as asked.journal image ≡ Some last
  pub name_is : before.tells ≡ true → now.name ≡ asked.journal.name
  pub put : puts ≡ []

-- the reply over tables of this version and network that are not refused
abbrev pub JournalReplies : Version → Net → HouseAsked → DiskState → DiskState → Reply → Type 0
JournalReplies version net asked before now (refused status line) = RefusesJournal asked before now status line
JournalReplies version net asked before now (answered status text puts) =
    OfVersion version net (λ R family Keeps. PrintsHouse family Keeps net asked before now status text puts)

-- what a run asks for over these tables, where the specifications are these
abbrev pub asked_over : List ℕ → Stamp → AuctionTables → List Bid → HouseAsked
asked_over name stamp tables specs = record { journal = record { name = name; stamp = stamp; specs = specs; rules = tables.rules }; actions = tables.actions }

-- the reply over what the tables mean, or their first fault
abbrev pub RepliesOver : List ℕ → Stamp → Result AuctionTables TableFault → DiskState → DiskState → Reply → Type 0
RepliesOver name stamp (Ok tables) before now reply =
    (specs : List Bid) × (map parts_of specs ≡ tables.specs) × JournalReplies tables.version tables.net (asked_over name stamp tables specs) before now reply
RepliesOver name stamp (Err fault) before now reply = reply ≡ refused (table_status fault) (refusal_line fault)

-- the reply to the contents of the files and to the journal of this name
abbrev pub HouseReplies : List ℕ → Contents → DiskState → DiskState → Reply → Type 0
HouseReplies name contents before now reply = RepliesOver name (stamp_in contents) (auction_of contents) before now reply
