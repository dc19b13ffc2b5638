-- The audit command: what it replies to the contents of its files.
use Rattle.std.specs.Prelude.{◌≡◌, ◌⊎◌, ◌↔◌, ℕ, List, [], length, map}
use Rattle.optra_network.specs.Net.{Net}
use Rattle.optra_bid.specs.Offers.{offer_of}
use Rattle.optra_bid.specs.declared.bids.Bid.{Bid}
use Rattle.optra_walk.specs.declared.Leg.{Leg}
use Rattle.optra_walk.specs.Choices.{IsConflictFree}
use Rattle.optra_audit.specs.Reports.{Findings, IsEmpty, IsReport}
use Rattle.optra_audit.specs.Trains.{choice_of, trains_of}
use Rattle.optra_text.specs.AuditTexts.{audit_text_of}
use Rattle.optra_frame.specs.Files.{Contents}
use Rattle.optra_frame.specs.Replies.{Reply}
use Rattle.optra_frame.specs.Statuses.{faultless_status, faulty_status}
use Rattle.optra_top.specs.TimetableRead.{Timed, TimedReply, timed_of}

-- ---- what is printed

-- The report on the trains of a timetable lists exactly what is wrong with them. It is empty exactly where they are walks of their
-- bids and the choice of these is free of conflict.
pub record IsAudited (net : Net) (bids : List Bid) (trains : List (List Leg)) (findings : Findings) : Type 0 where
  pub is_report : IsReport net bids trains findings
  pub empty : IsEmpty findings ↔ IsConflictFree net bids (choice_of trains)

-- one status exactly where nothing is wrong, and another where something is
abbrev pub IsAuditStatus : Findings → ℕ → Type 0
IsAuditStatus findings status = ((status ≡ faultless_status) × IsEmpty findings) ⊎ ((status ≡ faulty_status) × (IsEmpty findings → ⊥))

-- The text of the report is printed, and its status is given.
pub record PrintsReport (net : Net) (bids : List Bid) (trains : List (List Leg)) (status : ℕ) (text : List ℕ) : Type 0 where
  pub findings : Findings
  pub audited : IsAudited net bids trains findings
  pub printed : text ≡ audit_text_of net bids trains findings
  pub ends : IsAuditStatus findings status

-- ---- the reply

-- The report on the timetable is printed, and nothing is put.
pub record PrintsAudit (timed : Timed) (status : ℕ) (text : List ℕ) (puts : List (List ℕ × List ℕ)) : Type 0 where
  pub bids : List Bid
  pub are_those : map offer_of bids ≡ timed.tables.bids
  pub report : PrintsReport timed.tables.net bids (trains_of (length bids) timed.lines) status text
  pub put : puts ≡ []

-- the reply to the contents of the files
abbrev pub AuditReplies : Contents → Reply → Type 0
AuditReplies contents reply = TimedReply PrintsAudit (timed_of contents) reply
