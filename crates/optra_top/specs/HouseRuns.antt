-- What the parts of a run of the house answer.
use Rattle.std.specs.Prelude.{◌≡◌, ◌<◌, ℕ, List, [], length, Option, None, Some, codes, false, true, ◌⊎◌}
use Rattle.optra_outside.specs.Disk.{DiskState, HasCause, MayLeave}
use Rattle.optra_network.specs.Net.{Net}
use Rattle.optra_bid.specs.declared.bids.Bid.{Bid}
use Rattle.optra_walk.specs.Families.{Entry}
use Rattle.optra_auction.specs.Machine.{State}
use Rattle.optra_auction.specs.declared.Rules as declared_rules
use Rattle.optra_frame.specs.declared.answer.Answer.{Answer}
use Rattle.optra_frame.specs.declared.declined.Declined.{Declined}
use Rattle.optra_frame.specs.declared.fault.Fault.{Fault}
use Rattle.optra_frame.specs.declared.fault.Fault.TheVariants.{Refused, Read, Absent, TooLong, Write, Disk, NoMemory}
use Rattle.optra_frame.specs.Puts.{texts_of}
use Rattle.optra_frame.specs.Replies.{Reply, refused}
use Rattle.optra_frame.specs.Faults.{declined_line, declined_status}
use Rattle.optra_frame.specs.Statuses.{journal_status}
use Rattle.optra_house.specs.Answers.{IsUnwritten, opened_gate}
use Rattle.optra_house.specs.Ledger.{IsAtRest, Ledger}
use Rattle.optra_house.specs.PostAnswers.{has_no_room}
use Rattle.optra_house.specs.Replay.{opens_as}
use Rattle.optra_house.specs.Stamps.{Stamp, payload_of}
use Rattle.optra_house.specs.declared.refusals.OpenError.{OpenError}
use Rattle.optra_rounds.specs.Rounds.{acts_of, asked_of}
use Rattle.optra_tables.specs.declared.TimedAct.{TimedAct}
use Rattle.optra_text.specs.FaultLines.{journal_line}
use Rattle.optra_verdict.specs.FamilyOf.{FamilyOf}
use Rattle.optra_play.specs.HouseRounds.{GoesOn}
use Rattle.optra_top.specs.HouseCommand.{HouseAsked, Journal, open_code, opened_as, unopened}
use Rattle.optra_top.specs.declared.house_command.Sale.{Sale}

-- ---- what is asked for

abbrev pub journal_asked : List ℕ → Stamp → List Bid → declared_rules.Rules → Journal
journal_asked name stamp specs rules = record { name = name; stamp = stamp; specs = specs; rules = rules }

abbrev pub house_asked : List ℕ → Stamp → Sale → HouseAsked
house_asked name stamp sale = record { journal = journal_asked name stamp sale.specs.items sale.rules; actions = sale.actions.items }

-- ---- the journal is opened

-- The journal is open as this house: it is not refused, the house is the auction as which it opens, and it rests on the disk.
pub record HasOpened (journal : Journal) (before now : DiskState) (house : Ledger) : Type 0 where
  pub chosen : now.chosen ≡ true
  pub specs_are : house.auction.specs ≡ journal.specs
  pub accepted : before.tells ≡ true → unopened journal before.file.now.bytes ≡ None
  pub opens : before.tells ≡ true → opened_as journal before.file.now.bytes ≡ Some house.auction
  pub gate : before.tells ≡ true → house.gate ≡ opened_gate journal.stamp before.file.now.bytes
  pub rests : before.tells ≡ true → IsAtRest (payload_of journal.stamp) journal.specs journal.rules house now.file.now
  pub name_is : before.tells ≡ true → now.name ≡ journal.name

-- the journal is declined by a code
abbrev pub IsDeclinedAs : List ℕ → Declined → Type 0
IsDeclinedAs code declined = (declined_status declined ≡ journal_status) × (declined_line declined ≡ journal_line code)

-- The journal isn't opened, and nothing was written.
pub record IsNotOpened (journal : Journal) (before now : DiskState) (declined : Declined) : Type 0 where
  pub why : OpenError
  pub due : before.tells ≡ true → unopened journal before.file.now.bytes ≡ Some why
  pub told : IsDeclinedAs (open_code why) declined
  pub unwritten : before.tells ≡ true → IsUnwritten before.file now.file
  pub name_is : before.tells ≡ true → now.name ≡ journal.name

-- the journal isn't opened, a call of the disk failed, or memory ran out
abbrev pub IsUnopened : Journal → DiskState → DiskState → Fault → Type 0
IsUnopened journal before now (Refused declined) = IsNotOpened journal before now declined
IsUnopened journal before now (Read name) = ⊥
IsUnopened journal before now (Absent name) = ⊥
IsUnopened journal before now (TooLong name) = ⊥
IsUnopened journal before now Write = ⊥
IsUnopened journal before now Disk = HasCause before now
IsUnopened journal before now NoMemory = Unit {0}

-- ---- and what follows

-- The auction goes on from an open house, and where its journal rested each crash leaves one that opens as the auction then.
pub record GoesOnFrom {R : Type 0} (family : FamilyOf R) (Keeps : List Entry → Type 0) (net : Net) (names : List (List ℕ)) (actions : List TimedAct) (house : Ledger) (before now : DiskState) (answer : Answer) : Type 0 where
  pub last : State
  pub goes : GoesOn family Keeps net names actions house.auction last answer.status answer.text.items
  pub room : house.auction.closed ≡ true ⊎ (has_no_room house (asked_of (acts_of house.auction.round actions)) ≡ false)
  pub stands : before.tells ≡ true → (stamp : List ℕ) (specs : List Bid) (rules : declared_rules.Rules) → IsAtRest stamp specs rules house before.file.now
      → (image : List ℕ) → MayLeave now.file.now image → opens_as stamp specs rules image ≡ Some last
  pub put : texts_of answer.puts.items ≡ []

-- The next round may not fit, and the disk is as it was.
pub record HasNoRoom (house : Ledger) (actions : List TimedAct) (declined : Declined) : Type 0 where
  pub is_open : house.auction.closed ≡ false
  pub full : has_no_room house (asked_of (acts_of house.auction.round actions)) ≡ true
  pub told : IsDeclinedAs (codes "H4") declined

-- the next round may not fit, a call of the disk failed, or memory ran out
abbrev pub IsRefusedLater : Ledger → List TimedAct → DiskState → DiskState → Fault → Type 0
IsRefusedLater house actions before now (Refused declined) = HasNoRoom house actions declined
IsRefusedLater house actions before now (Read name) = ⊥
IsRefusedLater house actions before now (Absent name) = ⊥
IsRefusedLater house actions before now (TooLong name) = ⊥
IsRefusedLater house actions before now Write = ⊥
IsRefusedLater house actions before now Disk = HasCause before now
IsRefusedLater house actions before now NoMemory = Unit {0}
