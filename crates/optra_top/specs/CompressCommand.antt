-- The compress command: what it replies to the contents of its files.
use Rattle.std.specs.Prelude.{◌≡◌, ◌⊎◌, ℕ, List, [], length, map, Option}
use Rattle.optra_network.specs.Net.{Net}
use Rattle.optra_bid.specs.Offers.{offer_of}
use Rattle.optra_bid.specs.declared.bids.Bid.{Bid}
use Rattle.optra_walk.specs.declared.Leg.{Leg}
use Rattle.optra_walk.specs.Choices.{IsConflictFree}
use Rattle.optra_audit.specs.Trains.{choice_of, trains_of}
use Rattle.optra_compress.specs.Chains.{AreChains}
use Rattle.optra_compress.specs.Done.{Done}
use Rattle.optra_compress.specs.Starts.{AreLeast, AreStarts, start_at}
use Rattle.optra_compress.specs.Trains.{trains_of as uses_of_trains}
use Rattle.optra_text.specs.CompressedTexts.{compress_text_of}
use Rattle.optra_frame.specs.Files.{Contents}
use Rattle.optra_frame.specs.Replies.{Reply}
use Rattle.optra_frame.specs.Statuses.{faultless_status, faulty_status}
use Rattle.optra_top.specs.AuditCommand.{PrintsReport}
use Rattle.optra_top.specs.TimetableRead.{Timed, TimedReply, timed_of}

-- Least starts of the trains of a choice, with what each rests on, are printed. The choice is free of conflict.
pub record PrintsLeast (net : Net) (bids : List Bid) (walks : List (Option (List Leg))) (status : ℕ) (text : List ℕ) : Type 0 where
  pub free : IsConflictFree net bids walks
  pub done : Done
  pub starts : AreStarts (uses_of_trains bids walks) done.starts
  pub least : AreLeast net (uses_of_trains bids walks) (start_at done.starts)
  pub chains : AreChains net (uses_of_trains bids walks) (start_at done.starts) done.chains
  pub printed : text ≡ compress_text_of net bids walks done
  pub ends : status ≡ faultless_status

-- What is wrong with a timetable is printed: something is.
pub record PrintsFaults (net : Net) (bids : List Bid) (trains : List (List Leg)) (status : ℕ) (text : List ℕ) : Type 0 where
  pub report : PrintsReport net bids trains status text
  pub ends : status ≡ faulty_status

-- The least starts are printed where nothing is wrong with the timetable, and else the report on it. Nothing is put.
pub record PrintsCompressed (timed : Timed) (status : ℕ) (text : List ℕ) (puts : List (List ℕ × List ℕ)) : Type 0 where
  pub bids : List Bid
  pub are_those : map offer_of bids ≡ timed.tables.bids
  pub printed : PrintsLeast timed.tables.net bids (choice_of (trains_of (length bids) timed.lines)) status text
      ⊎ PrintsFaults timed.tables.net bids (trains_of (length bids) timed.lines) status text
  pub put : puts ≡ []

-- the reply to the contents of the files
abbrev pub CompressReplies : Contents → Reply → Type 0
CompressReplies contents reply = TimedReply PrintsCompressed (timed_of contents) reply
