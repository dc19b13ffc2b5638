-- When a journal isn't opened.
use Rattle.std.specs.Prelude.{◌≡◌, ◌⊎◌, ℕ, Bool, false, List, [], ◌∷◌, length, nat_eq, nat_lt, ◌&&◌, if◌then◌else◌, is_none, unwrap_or, Option, None, Some, Result, Ok, Err, ⊤}
use Rattle.std.specs.Option.{option_map_or}
use Rattle.optra_network.specs.Refusals.{first_of}
use Rattle.optra_bid.specs.declared.bids.Bid.{Bid}
use Rattle.optra_auction.specs.declared.Rules.{Rules}
use Rattle.optra_outside.specs.declared.disks.DiskError.{DiskError}
use Rattle.optra_outside.specs.declared.disks.DiskError.TheVariants as disk_errors
use Rattle.optra_house.specs.declared.fields.Unread.{Unread}
use Rattle.optra_house.specs.declared.fields.Unread.TheVariants as unread
use Rattle.optra_house.specs.declared.refusals.OpenError.{OpenError}
use Rattle.optra_house.specs.declared.refusals.OpenError.TheVariants.{NotAJournal, Full, Disk, NoMemory}
use Rattle.optra_house.specs.Entries.{entries, most_bytes, payloads_of}
use Rattle.optra_house.specs.Replay.{opens_as}
use Rattle.optra_house.specs.Stamps.{Stamp, payload_of, stamped_size}
use Rattle.optra_outside.specs.Disk.{File, after_sync}

-- the file's entries are none, so that the stamp is to be appended
abbrev pub has_no_entry : List ℕ → Bool
has_no_entry file = option_map_or (λ payloads. nat_eq (length payloads) 0) (payloads_of file) false

-- Why a file isn't opened with a stamp: it isn't a journal of this auction; else the stamp is to be appended, and doesn't fit.
abbrev pub open_refusal : Stamp → List Bid → Rules → List ℕ → Option OpenError
open_refusal stamp specs rules file =
    first_of (
    (is_none (opens_as (payload_of stamp) specs rules file), NotAJournal)
    ∷ (has_no_entry file && nat_lt most_bytes (stamped_size stamp), Full)
    ∷ [])

-- the payloads of a file's entries once it is opened with this stamp: the stamp stands where there was none
abbrev pub opened_payloads : Stamp → List ℕ → List (List ℕ)
opened_payloads stamp file = if has_no_entry file then payload_of stamp ∷ [] else unwrap_or (payloads_of file) []

-- the place of the last gate of a file that is opened with this stamp
abbrev pub opened_gate : Stamp → List ℕ → ℕ
opened_gate stamp file = length (entries (opened_payloads stamp file))

-- between success and the refusals, the answer is the one of the rule
abbrev pub FollowsOpenRule : {T : Type 0} → Option OpenError → Result T OpenError → Type 0
FollowsOpenRule rule (Ok x) = rule ≡ None
FollowsOpenRule rule (Err NotAJournal) = rule ≡ Some NotAJournal
FollowsOpenRule rule (Err Full) = rule ≡ Some Full
FollowsOpenRule rule (Err Disk) = ⊤
FollowsOpenRule rule (Err NoMemory) = ⊤

-- nothing was written: the file is as it was, or was synced
abbrev pub IsUnwritten : File → File → Type 0
IsUnwritten old new = (new ≡ old) ⊎ (new ≡ after_sync old)

-- a fault of the disk, as the call of a house tells it
abbrev pub of_disk : DiskError → OpenError
of_disk disk_errors.Failed = Disk
of_disk disk_errors.NoMemory = NoMemory

-- why there is no field, as the call of a house tells it
abbrev pub of_unread : Unread → OpenError
of_unread unread.Malformed = NotAJournal
of_unread unread.NoMemory = NoMemory
