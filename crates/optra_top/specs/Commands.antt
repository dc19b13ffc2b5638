-- The commands: which words ask for one, which files each gets, and what it may reply to their contents. A command more
-- is an arm more in each definition here.
use Rattle.std.specs.Prelude.{◌≡◌, ◌⊎◌, ℕ, List, Option, None, Some, map, String, string_bytes, Result, Ok, Err, ⊤}
use Rattle.std.specs.declared.alloc.Global.{Global}
use Rattle.optra_outside.specs.Disk.{DiskState}
use Rattle.optra_text.specs.Words.{words_of}
use Rattle.optra_text.specs.declared.words.Words.{Words}
use Rattle.optra_text.specs.declared.words.Words.TheVariants.{Plan, Check, Auction, Demo, Audit, Pay, House, Compress}
use Rattle.optra_text.specs.declared.faults.TheConstants.{FORMS}
use Rattle.optra_frame.specs.Commands.{Meaning, Request, asks, no_form}
use Rattle.optra_top.specs.AuctionCommand.{AuctionReplies, next_auction_file}
use Rattle.optra_top.specs.AuditCommand.{AuditReplies}
use Rattle.optra_top.specs.CompressCommand.{CompressReplies}
use Rattle.optra_top.specs.HouseCommand.{HouseReplies}
use Rattle.optra_top.specs.PayCommand.{PayReplies}
use Rattle.optra_top.specs.TimetableRead.{next_times_file}
use Rattle.optra_verdict.specs.CheckCommand.{CheckReplies, next_check_file}
use Rattle.optra_top.specs.DemoCommand.{DemoReplies}
use Rattle.optra_frame.specs.Files.{File, Contents}
use Rattle.optra_top.specs.PlanCommand.{PlanReplies}
use Rattle.optra_frame.specs.Replies.{Reply}
use Rattle.optra_frame.specs.Statuses.{optimal_status, gap_status, valid_status, denied_status, faultless_status, faulty_status}
use Rattle.optra_frame.specs.TableFiles.{next_table_file}
use Rattle.optra_frame.specs.Faults.{unread_fault}
use Rattle.optra_frame.specs.declared.answer.Answer.{Answer}
use Rattle.optra_frame.specs.declared.fault.Fault.{Fault}
use Rattle.optra_tables.specs.declared.ReadError.{ReadError}

-- the file that it gets after these; none once it has got all
abbrev pub next_file : Words → Contents → Option File
next_file (Plan net bids stops steps budget cert) contents = next_table_file net bids stops contents
next_file (Check net bids stops cert) contents = next_check_file net bids stops cert contents
next_file (Auction net bids stops rules actions certs) contents = next_auction_file net bids stops rules actions contents
next_file (Demo seed size) contents = None
next_file (Audit net bids stops times) contents = next_times_file net bids stops times contents
next_file (Pay net bids stops steps budget) contents = next_table_file net bids stops contents
next_file (House net bids stops rules actions journal) contents = next_auction_file net bids stops rules actions contents
next_file (Compress net bids stops times) contents = next_times_file net bids stops times contents

-- what it may reply to the contents of its files, with the disk before and after
abbrev pub MayReply : Words → Contents → DiskState → DiskState → Reply → Type 0
MayReply (Plan net bids stops steps budget cert) contents before now reply = PlanReplies (record { steps = steps; budget = budget; cert = cert }) contents reply
MayReply (Check net bids stops cert) contents before now reply = CheckReplies contents reply
MayReply (Auction net bids stops rules actions certs) contents before now reply = AuctionReplies certs contents reply
MayReply (Demo seed size) contents before now reply = DemoReplies seed size reply
MayReply (Audit net bids stops times) contents before now reply = AuditReplies contents reply
MayReply (Pay net bids stops steps budget) contents before now reply = PayReplies (record { steps = steps; budget = budget }) contents reply
MayReply (House net bids stops rules actions journal) contents before now reply = HouseReplies journal contents before now reply
MayReply (Compress net bids stops times) contents before now reply = CompressReplies contents reply

-- the statuses of one that did its work
abbrev pub IsDoneStatus : Words → ℕ → Type 0
IsDoneStatus (Plan net bids stops steps budget cert) status = (status ≡ optimal_status) ⊎ (status ≡ gap_status)
IsDoneStatus (Check net bids stops cert) status = (status ≡ valid_status) ⊎ (status ≡ denied_status)
IsDoneStatus (Auction net bids stops rules actions certs) status = (status ≡ optimal_status) ⊎ (status ≡ gap_status)
IsDoneStatus (Demo seed size) status = (status ≡ optimal_status) ⊎ (status ≡ gap_status)
IsDoneStatus (Audit net bids stops times) status = (status ≡ faultless_status) ⊎ (status ≡ faulty_status)
IsDoneStatus (Pay net bids stops steps budget) status = (status ≡ optimal_status) ⊎ (status ≡ gap_status)
IsDoneStatus (House net bids stops rules actions journal) status = (status ≡ optimal_status) ⊎ (status ≡ gap_status)
IsDoneStatus (Compress net bids stops times) status = (status ≡ faultless_status) ⊎ (status ≡ faulty_status)

-- whether it calls the disk
abbrev pub UsesDisk : Words → Type 0
UsesDisk (Plan net bids stops steps budget cert) = ⊥
UsesDisk (Check net bids stops cert) = ⊥
UsesDisk (Auction net bids stops rules actions certs) = ⊥
UsesDisk (Demo seed size) = ⊥
UsesDisk (Audit net bids stops times) = ⊥
UsesDisk (Pay net bids stops steps budget) = ⊥
UsesDisk (House net bids stops rules actions journal) = ⊤
UsesDisk (Compress net bids stops times) = ⊥

-- what it is, as a command of a program
abbrev pub command_of : Words → Meaning
command_of words = record {
  next_file = next_file words;
  MayReply = MayReply words;
  IsDoneStatus = IsDoneStatus words;
  UsesDisk = UsesDisk words;
}

-- what words that were read, or are no command form, ask for
abbrev pub request_of : Option Words → Request
request_of None = no_form FORMS.now
request_of (Some words) = asks (command_of words)

-- what these words ask for
abbrev pub asked : List (String Global) → Request
asked words = request_of (words_of (map string_bytes words))

-- an answer is handed on, and tables that were not read are told as what ended the command
abbrev pub IsToldUnread : Result Answer ReadError → Result Answer Fault → Type 0
IsToldUnread (Ok answer) (Ok told) = told ≡ answer
IsToldUnread (Ok answer) (Err told) = ⊥
IsToldUnread (Err error) (Ok told) = ⊥
IsToldUnread (Err error) (Err told) = told ≡ unread_fault error
