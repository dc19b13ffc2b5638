-- What a run's clauses say of the words, by what was read of them.
use Rattle.std.proofs.Common.{◌≡◌, ◌⊎◌, ℕ, List, Option, Some, String, map, string_bytes, inl, inr, refl, sym, subst}
use Rattle.std.specs.declared.alloc.Global.{Global}
use Rattle.optra_outside.specs.Shelf.{GetLeaves}
use Rattle.optra_text.specs.EvidenceWords.{evidence_words}
use Rattle.optra_text.specs.Words.{IsUsage}
use Rattle.optra_text.specs.declared.evidence_words.EvidenceWords.{EvidenceWords}
use Rattle.optra_text.specs.declared.evidence_words.TheConstants.{EVIDENCE_FORM}
use Rattle.optra_text.specs.declared.words.WordsError.{WordsError}
use Rattle.optra_text.specs.declared.words.WordsError.TheVariants as errors
use Rattle.optra_frame.specs.Commands.{AsksAnd, asks}
use Rattle.optra_frame.specs.Ending.{Completes, Ends}
use Rattle.optra_frame.specs.Faults.{unread_line, unread_status}
use Rattle.optra_frame.specs.Outside.{Outside, Says}
use Rattle.optra_frame.specs.Statuses.{IsFaultStatus, usage_status}
use Rattle.optra_frame.proofs.CompletionLemmas.{Completes-unread, Completes-usage}
use Rattle.optra_frame.proofs.EndingLemmas.{Ends-unread, Ends-usage}
use Rattle.optra_frame.proofs.GetLemmas.{GetLeaves-itself}
use Rattle.optra_evidence_top.specs.Commands.{asked, command_of, request_of}

module _ (words : List (String Global)) where
  abbrev read : Option EvidenceWords
  read = evidence_words (map string_bytes words)

  -- ---- words of the form

  pub ends-asked : (command : EvidenceWords) (before now : Outside) (status : ℕ) → read ≡ Some command → Ends (asks (command_of command)) before now status → Ends (asked words) before now status
  ends-asked command before now status is ends = subst (λ (o : Option EvidenceWords). Ends (request_of o) before now status) (sym is) ends

  pub completes-asked : (command : EvidenceWords) (before now : Outside) (status : ℕ) → read ≡ Some command → Completes (asks (command_of command)) before now status → Completes (asked words) before now status
  completes-asked command before now status is completes = subst (λ (o : Option EvidenceWords). Completes (request_of o) before now status) (sym is) completes

  pub statuses-asked : (command : EvidenceWords) (status : ℕ) → read ≡ Some command → IsFaultStatus status ⊎ (command_of command).IsDoneStatus status → IsFaultStatus status ⊎ AsksAnd (asked words) (λ c. c.IsDoneStatus status)
  statuses-asked command status is known = subst (λ (o : Option EvidenceWords). IsFaultStatus status ⊎ AsksAnd (request_of o) (λ c. c.IsDoneStatus status)) (sym is) known

  -- ---- words of another form, or that were not read for want of memory

  pub ends-unread : (why : WordsError) (before now : Outside) → IsUsage why read → now.shelf ≡ before.shelf → now.out ≡ before.out → Says before now (unread_line why EVIDENCE_FORM.now) → Ends (asked words) before now (unread_status why)
  ends-unread errors.Usage before now is shelf out says = subst (λ (o : Option EvidenceWords). Ends (request_of o) before now usage_status) (sym is) (Ends-usage EVIDENCE_FORM.now before now shelf out says)
  ends-unread errors.NoMemory before now is shelf out says = Ends-unread (asked words) before now (subst (GetLeaves before.shelf) (sym shelf) (GetLeaves-itself before.shelf)) out says

  pub completes-unread : (why : WordsError) (before now : Outside) → IsUsage why read → Completes (asked words) before now (unread_status why)
  completes-unread errors.Usage before now is = subst (λ (o : Option EvidenceWords). Completes (request_of o) before now usage_status) (sym is) (Completes-usage EVIDENCE_FORM.now before now)
  completes-unread errors.NoMemory before now is = Completes-unread (asked words) before now

-- the status of words that were not read is one of a fault
pub unread-fault : (why : WordsError) → IsFaultStatus (unread_status why)
unread-fault errors.Usage = inl refl
unread-fault errors.NoMemory = inr (inr (inr (inr (inr (inl refl)))))
