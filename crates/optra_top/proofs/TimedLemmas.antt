-- What a command over a timetable refuses, and what is told of tables that were not read.
use Rattle.std.proofs.Common.{◌≡◌, List, [], ◌∷◌, ℕ, Result, Ok, Err, refl, sym, ap, ◌∙◌, subst, map, IfOk, IfErr}
use Rattle.optra_outside.specs.Disk.{DiskState}
use Rattle.optra_bid.specs.Offers.{offer_of}
use Rattle.optra_bid.specs.declared.bids.Bid.{Bid}
use Rattle.optra_audit.specs.Timetables.{Fails as FailsTimes, bid_names, lines_of}
use Rattle.optra_audit.specs.declared.Line.{Line}
use Rattle.optra_audit.specs.declared.TimesError.{TimesError}
use Rattle.optra_audit.specs.declared.TimesError.TheVariants as errors
use Rattle.optra_tables.specs.Bids.{names_of}
use Rattle.optra_tables.specs.Outcomes.{Fails}
use Rattle.optra_tables.specs.declared.ReadError.{ReadError}
use Rattle.optra_tables.specs.declared.ReadError.TheVariants as unread
use Rattle.optra_frame.specs.declared.answer.Answer.{Answer}
use Rattle.optra_frame.specs.declared.fault.Fault.{Fault}
use Rattle.optra_frame.specs.declared.fault.Fault.TheVariants.{Refused, Read, Absent, TooLong, Write, Disk, NoMemory}
use Rattle.optra_frame.specs.Commands.{Meaning}
use Rattle.optra_frame.specs.Faults.{EndsReply, declined_line, declined_status, unread_fault}
use Rattle.optra_frame.specs.Files.{Contents}
use Rattle.optra_frame.specs.Replies.{Reply, refused}
use Rattle.optra_frame.specs.TableFiles.{AnswerTo, Tables, meaning_of}
use Rattle.optra_top.specs.Commands.{IsToldUnread}
use Rattle.optra_top.specs.TimetableRead.{EndsTimed, IsToldTimes, Timed, TimedReply, of_tables, of_times, timed, timed_by, timed_in, timed_of, timed_on, times_in}

-- ---- what was read

-- the names of bids are those of their offers
names-of_offers : (bids : List Bid) → names_of (map offer_of bids) ≡ bid_names bids
names-of_offers [] = refl
names-of_offers (b ∷ bids) = ap (λ (names : List (List ℕ)). b.name ∷ names) (names-of_offers bids)

-- on tables that were read, the contents mean what the timetable means
pub timed-read : (contents : Contents) (tables : Tables) → meaning_of contents ≡ Ok tables → timed_of contents ≡ timed_in (times_in contents) tables
timed-read contents tables is = ap (timed_on (times_in contents)) is

-- tables that were not read end the command
pub unread-ends : (contents : Contents) (error : ReadError) → Fails error (meaning_of contents) → EndsTimed (timed_of contents) (unread_fault error)
unread-ends contents (unread.Fault first) fails = record { fault = of_tables first; is = ap (timed_on (times_in contents)) fails; status = refl; line = refl }
unread-ends contents unread.NoMemory fails = tt

-- lines that were read are those of the timetable
pub lines-read : (tables : Tables) (bids : List Bid) (bytes : List ℕ) (lines : List Line) → map offer_of bids ≡ tables.bids → lines_of tables.net (bid_names bids) bytes ≡ Ok lines
    → timed_in bytes tables ≡ Ok (timed tables lines)
lines-read tables bids bytes lines those is =
    ap (timed_by tables) (ap (λ names. lines_of tables.net names bytes) (ap names_of (sym those) ∙ names-of_offers bids) ∙ is)

-- a timetable that was not read ends the command
pub times-end : (tables : Tables) (bids : List Bid) (bytes : List ℕ) (error : TimesError) (fault : Fault) → map offer_of bids ≡ tables.bids → FailsTimes error (lines_of tables.net (bid_names bids) bytes)
    → IsToldTimes error fault → EndsTimed (timed_in bytes tables) fault
times-end tables bids bytes errors.NoMemory fault those fails told = rw told tt
times-end tables bids bytes (errors.Fault row kind) (Refused declined) those fails told = record {
  fault = of_times (record { row = row; kind = kind });
  is = ap (timed_by tables) (ap (λ names. lines_of tables.net names bytes) (ap names_of (sym those) ∙ names-of_offers bids) ∙ fails);
  status = told.0;
  line = told.1;
}
times-end tables bids bytes (errors.Fault row kind) (Read name) those fails told = absurd told
times-end tables bids bytes (errors.Fault row kind) (Absent name) those fails told = absurd told
times-end tables bids bytes (errors.Fault row kind) (TooLong name) those fails told = absurd told
times-end tables bids bytes (errors.Fault row kind) Write those fails told = absurd told
times-end tables bids bytes (errors.Fault row kind) Disk those fails told = absurd told
times-end tables bids bytes (errors.Fault row kind) NoMemory those fails told = absurd told

-- ---- how the command ends

-- what ends it is its only reply; the disk is as it was
pub EndsReply-timed : (command : Meaning) (contents : Contents) (disk : DiskState) (Answers : AnswerTo Timed) (fault : Fault)
    → ((reply : Reply) → TimedReply Answers (timed_of contents) reply → command.MayReply contents disk disk reply) → EndsTimed (timed_of contents) fault → EndsReply command contents disk disk fault
EndsReply-timed command contents disk Answers (Refused declined) may ends =
    (may (refused (declined_status declined) (declined_line declined)) (subst (λ r. TimedReply Answers r (refused (declined_status declined) (declined_line declined))) (sym ends.is) (ends.status, ends.line)), λ is. refl)
EndsReply-timed command contents disk Answers (Read name) may ends = ends
EndsReply-timed command contents disk Answers (Absent name) may ends = ends
EndsReply-timed command contents disk Answers (TooLong name) may ends = ends
EndsReply-timed command contents disk Answers Write may ends = ends
EndsReply-timed command contents disk Answers Disk may ends = absurd ends
EndsReply-timed command contents disk Answers NoMemory may ends = tt

-- ---- what is told of tables that were not read

pub told-ok : (P : Answer → Type 0) (read : Result Answer ReadError) (told : Result Answer Fault) → IsToldUnread read told → IfOk read P → IfOk told P
told-ok P (Ok answer) (Ok same) is holds = rw is holds
told-ok P (Ok answer) (Err fault) is holds = absurd is
told-ok P (Err error) (Ok same) is holds = absurd is
told-ok P (Err error) (Err fault) is holds = tt

pub told-err : (P : Fault → Type 0) (read : Result Answer ReadError) (told : Result Answer Fault) → IsToldUnread read told → IfErr read (λ error. P (unread_fault error)) → IfErr told P
told-err P (Ok answer) (Ok same) is holds = tt
told-err P (Ok answer) (Err fault) is holds = absurd is
told-err P (Err error) (Ok same) is holds = absurd is
told-err P (Err error) (Err fault) is holds = rw is holds
