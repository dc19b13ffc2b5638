-- What a command over tables refuses: contents that are refused have no other reply, and what the tables' faults are.
use Rattle.std.proofs.Common.{◌≡◌, ℕ, List, Result, Ok, Err, refl, sym, ◌∙◌, subst}
use Rattle.std.specs.Prelude.{IsErrAnd}
use Rattle.optra_network.specs.Net.{Net}
use Rattle.optra_tables.specs.declared.ReadError.{ReadError}
use Rattle.optra_tables.specs.declared.ReadError.TheVariants as unread
use Rattle.optra_tables.specs.declared.TableFault.{TableFault}
use Rattle.optra_tables.specs.Outcomes.{Fails, Gives}
use Rattle.optra_tables.specs.Networks.{network_of}
use Rattle.optra_tables.specs.Bids.{Parts}
use Rattle.optra_tables.specs.Stops.{bids_of}
use Rattle.optra_text.specs.FaultLines.{refusal_line}
use Rattle.optra_tables.specs.declared.Table.TheVariants.{Bids, Stops}
use Rattle.optra_frame.specs.Faults.{unread_fault, EndsReply}
use Rattle.optra_frame.specs.Files.{Contents}
use Rattle.optra_frame.specs.TableFiles.{AnswerTo, ReplyTo, TablesReply, meaning_of, net_files, table_content}
use Rattle.optra_frame.specs.VersionsTold.{version_in}
use Rattle.optra_frame.specs.Commands.{Meaning}
use Rattle.optra_outside.specs.Disk.{DiskState}
use Rattle.optra_frame.specs.Puts.{texts_of}
use Rattle.optra_frame.specs.declared.answer.Answer.{Answer}
use Rattle.optra_frame.specs.Replies.{Reply, refused, answered, reply_of}
use Rattle.optra_frame.specs.Statuses.{refused_status}

-- contents that are refused have no other reply
pub refused-alone : {T F : Type 0} (status_by : F → ℕ) (line_by : F → List ℕ) (Answers : AnswerTo T) (read : Result T F) (status : ℕ) (line : List ℕ) (reply : Reply)
    → ReplyTo status_by line_by Answers read (refused status line) → ReplyTo status_by line_by Answers read reply → reply ≡ refused status line
refused-alone status_by line_by Answers (Err fault) status line (refused status' other) refuses replies =
    λ i. refused ((replies.0 ∙ sym refuses.0) i) ((replies.1 ∙ sym refuses.1) i)
refused-alone status_by line_by Answers (Err fault) status line (answered status' text puts) refuses replies = absurd replies
refused-alone status_by line_by Answers (Ok read) status line reply refuses replies = absurd refuses

-- tables that were not read say why, or memory ran out; the disk is as it was
pub EndsReply-unread : {T : Type 0} (command : Meaning) (contents : Contents) (disk : DiskState) (Answers : AnswerTo T) (read : Result T TableFault) (error : ReadError)
    → ((reply : Reply) → TablesReply Answers read reply → command.MayReply contents disk disk reply) → Fails error read → EndsReply command contents disk disk (unread_fault error)
EndsReply-unread command contents disk Answers read (unread.Fault first) may fails =
    (may (refused refused_status (refusal_line first)) (subst (λ r. TablesReply Answers r (refused refused_status (refusal_line first))) (sym fails) (refl, refl)), λ is. refl)
EndsReply-unread command contents disk Answers read unread.NoMemory may fails = tt

-- the network's first fault is that of the tables
pub Fails-net : (contents : Contents) (error : ReadError) → Fails error (network_of (net_files contents)) → Fails error (meaning_of contents)
unfolding meaning_of
Fails-net contents (unread.Fault first) fails = rw fails refl
Fails-net contents unread.NoMemory fails = tt

-- where the network has no fault, the bids' first one is that of the tables
pub Fails-bids : (contents : Contents) (net : Net) (error : ReadError) → network_of (net_files contents) ≡ Ok net → Fails error (bids_of net (table_content contents Bids) (table_content contents Stops)) → Fails error (meaning_of contents)
unfolding meaning_of
Fails-bids contents net (unread.Fault first) is fails = rw (is, fails) refl
Fails-bids contents net unread.NoMemory is fails = tt

-- a network and bids without a fault are what the tables mean
pub meaning-read : (contents : Contents) (net : Net) (bids : List Parts) → network_of (net_files contents) ≡ Ok net → bids_of net (table_content contents Bids) (table_content contents Stops) ≡ Ok bids → meaning_of contents ≡ Ok (record { version = version_in contents; net = net; bids = bids })
unfolding meaning_of
meaning-read contents net bids is read = rw (is, read) refl

-- an error that is handed on says what it said
pub Gives-kept : {X Y : Type 0} (view : X → Y) (result : Result X ReadError) (error : ReadError) (read : Result Y TableFault) → IsErrAnd result (λ e. e ≡ error) → Fails error read → Gives view result read
Gives-kept view (Ok x) error read is fails = absurd is
Gives-kept view (Err e) error read is fails = rw is fails

-- an answer to what the contents mean is the reply
pub meaning-answered : {T F : Type 0} (status_by : F → ℕ) (line_by : F → List ℕ) (Answers : AnswerTo T) (meaning : Result T F) (read : T) (answer : Answer) → meaning ≡ Ok read → Answers read answer.status answer.text.items (texts_of answer.puts.items)
    → ReplyTo status_by line_by Answers meaning (reply_of answer)
meaning-answered status_by line_by Answers meaning read answer is answers =
    subst (λ m. ReplyTo status_by line_by Answers m (reply_of answer)) (sym is) answers
