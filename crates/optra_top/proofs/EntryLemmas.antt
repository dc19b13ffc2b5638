-- What a run's clauses say of the words, by what was read of them.
use Rattle.std.proofs.Common.{◌≡◌, ◌⊎◌, ◌≤◌, lit≤, ℕ, List, Option, Some, String, map, string_bytes, inl, inr, refl, sym, subst}
use Rattle.std.specs.declared.alloc.Global.{Global}
use Rattle.optra_outside.specs.Shelf.{GetLeaves}
use Rattle.optra_text.specs.Ranges.{HasRanges}
use Rattle.optra_text.specs.Words.{IsUsage, words_of}
use Rattle.optra_text.specs.declared.faults.TheConstants.{FORMS}
use Rattle.optra_text.specs.declared.words.Words.{Words}
use Rattle.optra_text.specs.declared.words.Words.TheVariants.{Plan, Check, Auction, Demo, Audit, Pay, House, Compress}
use Rattle.optra_text.specs.declared.words.WordsError.{WordsError}
use Rattle.optra_text.specs.declared.words.WordsError.TheVariants as errors
use Rattle.optra_frame.specs.Commands.{AsksAnd, IfAsks, asks}
use Rattle.optra_frame.specs.Ending.{Completes, Ends}
use Rattle.optra_frame.specs.Faults.{unread_line, unread_status}
use Rattle.optra_frame.specs.Outside.{Outside, Says}
use Rattle.optra_frame.specs.Statuses.{IsFaultStatus, usage_status}
use Rattle.optra_frame.proofs.CompletionLemmas.{Completes-unread, Completes-usage}
use Rattle.optra_frame.proofs.EndingLemmas.{Ends-unread, Ends-usage}
use Rattle.optra_frame.proofs.GetLemmas.{GetLeaves-itself}
use Rattle.optra_top.specs.WordNumbers.{budget_in, size_in}
use Rattle.optra_top.specs.Commands.{asked, command_of, request_of}

module _ (words : List (String Global)) where
  abbrev read : Option Words
  read = words_of (map string_bytes words)

  -- ---- words that ask for a command

  pub ends-asked : (command : Words) (before now : Outside) (status : ℕ) → read ≡ Some command → Ends (asks (command_of command)) before now status → Ends (asked words) before now status
  ends-asked command before now status is ends = subst (λ (o : Option Words). Ends (request_of o) before now status) (sym is) ends

  pub completes-asked : (command : Words) (before now : Outside) (status : ℕ) → read ≡ Some command → Completes (asks (command_of command)) before now status → Completes (asked words) before now status
  completes-asked command before now status is completes = subst (λ (o : Option Words). Completes (request_of o) before now status) (sym is) completes

  pub statuses-asked : (command : Words) (status : ℕ) → read ≡ Some command → IsFaultStatus status ⊎ (command_of command).IsDoneStatus status → IsFaultStatus status ⊎ AsksAnd (asked words) (λ c. c.IsDoneStatus status)
  statuses-asked command status is known = subst (λ (o : Option Words). IsFaultStatus status ⊎ AsksAnd (request_of o) (λ c. c.IsDoneStatus status)) (sym is) known

  pub disk-asked : (command : Words) → read ≡ Some command → IfAsks (asked words) (λ c. ¬ c.UsesDisk) → ¬ (command_of command).UsesDisk
  disk-asked command is none = subst (λ (o : Option Words). IfAsks (request_of o) (λ c. ¬ c.UsesDisk)) is none

  -- ---- words that ask for none, or were not read for want of memory

  pub ends-unread : (why : WordsError) (before now : Outside) → IsUsage why read → now.shelf ≡ before.shelf → now.out ≡ before.out → Says before now (unread_line why FORMS.now) → Ends (asked words) before now (unread_status why)
  ends-unread errors.Usage before now is shelf out says = subst (λ (o : Option Words). Ends (request_of o) before now usage_status) (sym is) (Ends-usage FORMS.now before now shelf out says)
  ends-unread errors.NoMemory before now is shelf out says = Ends-unread (asked words) before now (subst (GetLeaves before.shelf) (sym shelf) (GetLeaves-itself before.shelf)) out says

  pub completes-unread : (why : WordsError) (before now : Outside) → IsUsage why read → Completes (asked words) before now (unread_status why)
  completes-unread errors.Usage before now is = subst (λ (o : Option Words). Completes (request_of o) before now usage_status) (sym is) (Completes-usage FORMS.now before now)
  completes-unread errors.NoMemory before now is = Completes-unread (asked words) before now

-- the status of words that were not read is one of a fault
pub unread-fault : (why : WordsError) → IsFaultStatus (unread_status why)
unread-fault errors.Usage = inl refl
unread-fault errors.NoMemory = inr (inr (inr (inr (inr (inl refl)))))

-- the numbers that are read are in their ranges
pub numbers-read : (words : Words) → HasRanges words → (1 ≤ budget_in words) × (1 ≤ size_in words) × (size_in words ≤ 9)
numbers-read (Plan net bids stops steps budget cert) is = (is, lit≤ tt, lit≤ tt)
numbers-read (Check net bids stops cert) is = (lit≤ tt, lit≤ tt, lit≤ tt)
numbers-read (Auction net bids stops rules actions certs) is = (lit≤ tt, lit≤ tt, lit≤ tt)
numbers-read (Demo seed size) is = (lit≤ tt, is.0, is.1)
numbers-read (Audit net bids stops times) is = (lit≤ tt, lit≤ tt, lit≤ tt)
numbers-read (Pay net bids stops steps budget) is = (is, lit≤ tt, lit≤ tt)
numbers-read (House net bids stops rules actions journal) is = (lit≤ tt, lit≤ tt, lit≤ tt)
numbers-read (Compress net bids stops times) is = (lit≤ tt, lit≤ tt, lit≤ tt)
