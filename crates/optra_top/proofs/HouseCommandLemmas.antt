-- What a run of the house replies, from the journal that was opened and what followed.
use Rattle.std.proofs.Common.{◌≡◌, ◌∙◌, ◌≤◌, ◌⊎◌, inl, inr, ℕ, Bool, true, false, not, List, Option, Some, None, refl, sym, ap, subst, arith}
use Rattle.std.specs.Prelude.{◌&&◌, codes, if◌then◌else◌}
use Rattle.std.specs.Option.{option_and_then}
use Rattle.optra_outside.specs.Counts.{Rose}
use Rattle.optra_outside.specs.Disk.{DiskState, HasCause, Leaves, SameChosen}
use Rattle.optra_network.specs.Net.{Net}
use Rattle.optra_bid.specs.declared.bids.Bid.{Bid}
use Rattle.optra_walk.specs.Families.{Entry}
use Rattle.optra_auction.specs.Machine.{State, spec_names}
use Rattle.optra_auction.specs.declared.Act.{Act}
use Rattle.optra_house.specs.Answers.{opened_gate}
use Rattle.optra_house.specs.Ledger.{Ledger}
use Rattle.optra_house.specs.PostAnswers.{has_no_room}
use Rattle.optra_house.specs.Stamps.{payload_of}
use Rattle.optra_house.specs.declared.refusals.OpenError.{OpenError}
use Rattle.optra_rounds.specs.Rounds.{acts_of, asked_of}
use Rattle.optra_frame.specs.declared.answer.Answer.{Answer}
use Rattle.optra_frame.specs.declared.fault.Fault.{Fault}
use Rattle.optra_frame.specs.declared.fault.Fault.TheVariants.{Refused, Read, Absent, TooLong, Write, Disk, NoMemory}
use Rattle.optra_frame.specs.declared.version.Version.{Version}
use Rattle.optra_frame.specs.Puts.{texts_of}
use Rattle.optra_frame.specs.Replies.{Reply}
use Rattle.optra_verdict.specs.FamilyOf.{FamilyOf}
use Rattle.optra_play.specs.HouseRounds.{GoesOn}
use Rattle.optra_top.specs.HouseCommand.{HouseAsked, Journal, JournalReplies, PrintsHouse, journal_refusal, open_code, opened_as, refused_or, round_refusal, unopened}
use Rattle.optra_top.specs.HouseEnds.{EndsBy}
use Rattle.optra_top.specs.HouseRuns.{GoesOnFrom, HasOpened, IsRefusedLater, IsUnopened}

-- ---- counts of faults

rose-later : (a b c : ℕ) → a ≤ b → Rose b c → Rose a c
rose-later a b c le rose = omega (arith, le, rose)

-- ---- what a house that was opened refuses

module _ (asked : HouseAsked) (before mid : DiskState) (house : Ledger) (opened : HasOpened asked.journal before mid house) (tells : before.tells ≡ true) where
  -- it is refused for its round alone
  by-round : journal_refusal asked before.file.now.bytes ≡ round_refusal asked.journal.stamp asked.actions before.file.now.bytes house.auction
  by-round = λ i. refused_or (opened.accepted tells i) (option_and_then (round_refusal asked.journal.stamp asked.actions before.file.now.bytes) (opened.opens tells i))

  room-is : (acts : List Act) → has_no_room (record { auction = house.auction; gate = opened_gate asked.journal.stamp before.file.now.bytes }) acts ≡ has_no_room house acts
  room-is acts = ap (λ (k : ℕ). has_no_room (record { auction = house.auction; gate = k }) acts) (sym (opened.gate tells))

  both-false : (a b : Bool) → b ≡ false → (a && b) ≡ false
  both-false true b is = is
  both-false false b is = refl

  pub accepted-when : house.auction.closed ≡ true ⊎ (has_no_room house (asked_of (acts_of house.auction.round asked.actions)) ≡ false) → journal_refusal asked before.file.now.bytes ≡ None
  accepted-when (inl closed) = by-round
      ∙ ap (λ (b : Bool). if not b && has_no_room (record { auction = house.auction; gate = opened_gate asked.journal.stamp before.file.now.bytes }) (asked_of (acts_of house.auction.round asked.actions)) then Some (codes "H4") else None) closed
  accepted-when (inr room) = by-round
      ∙ ap (λ (b : Bool). if b then Some (codes "H4") else None) (both-false (not house.auction.closed) _ (room-is (asked_of (acts_of house.auction.round asked.actions)) ∙ room))

  pub refused-when : house.auction.closed ≡ false → has_no_room house (asked_of (acts_of house.auction.round asked.actions)) ≡ true → journal_refusal asked before.file.now.bytes ≡ Some (codes "H4")
  refused-when open_is full = by-round
      ∙ (λ i. if not (open_is i) && (room-is (asked_of (acts_of house.auction.round asked.actions)) ∙ full) i then Some (codes "H4") else None)

-- ---- the reply

module _ (asked : HouseAsked) (before mid now : DiskState) (house : Ledger) (opened : HasOpened asked.journal before mid house) (leaves : Leaves before mid) where
  still : before.tells ≡ true → mid.tells ≡ true
  still tells = leaves.tells ∙ tells

  pub house-printed : {R : Type 0} (family : FamilyOf R) (Keeps : List Entry → Type 0) (net : Net) (names : List (List ℕ)) (answer : Answer) → names ≡ spec_names asked.journal.specs → SameChosen mid now
      → GoesOnFrom family Keeps net names asked.actions house mid now answer → PrintsHouse family Keeps net asked before now answer.status answer.text.items (texts_of answer.puts.items)
  house-printed family Keeps net names answer named same goes = record {
    state = house.auction;
    last = goes.last;
    accepted = λ tells. accepted-when asked before mid house opened tells goes.room;
    opens = opened.opens;
    goes = subst (λ (ns : List (List ℕ)). GoesOn family Keeps net ns asked.actions house.auction goes.last answer.status answer.text.items) named goes.goes;
    stands = λ tells image left. goes.stands (still tells) (payload_of asked.journal.stamp) asked.journal.specs asked.journal.rules (opened.rests tells) image left;
    name_is = λ tells. same.name ∙ opened.name_is tells;
    put = goes.put;
  }

  no_why : (o : Option OpenError) (why : OpenError) → o ≡ None → o ≡ Some why → ⊥
  no_why o why none some = let no : None ≡ Some why = sym none ∙ some in cc

  pub house-refused : (version : Version) (net : Net) (fault : Fault) → SameChosen mid now → IsRefusedLater house asked.actions mid now fault → EndsBy (JournalReplies version net asked) before now fault
  house-refused version net (Refused declined) same full = (
    record {
      code = codes "H4";
      due = λ tells. refused-when asked before mid house opened tells full.is_open full.full;
      unwritten = λ tells why some. absurd (no_why (unopened asked.journal before.file.now.bytes) why (opened.accepted tells) some);
      name_is = λ tells. same.name ∙ opened.name_is tells;
      status_is = full.told.0;
      line_is = full.told.1;
    },
    λ is. absurd (omega (arith, is, full.told.0)),
  )
  house-refused version net (Read name) same none = none
  house-refused version net (Absent name) same none = none
  house-refused version net (TooLong name) same none = none
  house-refused version net Write same none = none
  house-refused version net Disk same cause = rose-later before.faults mid.faults now.faults leaves.faults cause
  house-refused version net NoMemory same none = tt

-- a journal that isn't opened is refused
pub house-unopened : (asked : HouseAsked) (before now : DiskState) (version : Version) (net : Net) (fault : Fault) → IsUnopened asked.journal before now fault → EndsBy (JournalReplies version net asked) before now fault
house-unopened asked before now version net (Refused declined) is = (
  record {
    code = open_code is.why;
    due = λ tells. ap (λ (o : Option OpenError). refused_or o (option_and_then (round_refusal asked.journal.stamp asked.actions before.file.now.bytes) (opened_as asked.journal before.file.now.bytes))) (is.due tells);
    unwritten = λ tells why some. is.unwritten tells;
    name_is = is.name_is;
    status_is = is.told.0;
    line_is = is.told.1;
  },
  λ same. absurd (omega (arith, same, is.told.0)),
)
house-unopened asked before now version net (Read name) none = none
house-unopened asked before now version net (Absent name) none = none
house-unopened asked before now version net (TooLong name) none = none
house-unopened asked before now version net Write none = none
house-unopened asked before now version net Disk cause = cause
house-unopened asked before now version net NoMemory none = tt
