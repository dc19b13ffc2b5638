-- What the program replies to the contents of its files.
use Rattle.std.specs.Prelude.{◌≡◌, ◌⊎◌, ℕ, ℤ, List, [], map, Option, None, Some, slice_get, IsSomeAnd}
use Rattle.std.specs.Prelude.{◌≤ℤ◌}
use Rattle.optra_network.specs.Net.{Net}
use Rattle.optra_bid.specs.declared.bids.Bid.{Bid}
use Rattle.optra_tables.specs.Bids.{Parts, parts_of}
use Rattle.optra_walk.specs.declared.Leg.{Leg}
use Rattle.optra_walk.specs.Choices.{IsConflictFree, revenue_of}
use Rattle.optra_walk.specs.Families.{Rows, Entry}
use Rattle.optra_cert.specs.Certs.{Cert}
use Rattle.optra_evidence.specs.Evidence.{IsEvidence}
use Rattle.optra_evidence.specs.declared.figures.Figures.{Figures}
use Rattle.optra_text.specs.EvidenceTexts.{evidence_text_of}
use Rattle.optra_text.specs.VerdictTexts.{verdict_text_of}
use Rattle.optra_text.specs.declared.evidence_texts.BidFigures.{BidFigures}
use Rattle.optra_text.specs.declared.verdicts.VerdictView.{VerdictView}
use Rattle.optra_frame.specs.Files.{Contents}
use Rattle.optra_frame.specs.Replies.{Reply}
use Rattle.optra_frame.specs.Statuses.{denied_status, valid_status}
use Rattle.optra_frame.specs.TableFiles.{Tables, TablesReply, meaning_of}
use Rattle.optra_verdict.specs.CheckCommand.{certificate_in}
use Rattle.optra_verdict.specs.Families.{OfVersion}
use Rattle.optra_verdict.specs.FamilyOf.{FamilyOf}
use Rattle.optra_verdict.specs.Promises.{KeepsPromise}
use Rattle.optra_verdict.specs.VerdictsOn.{IsNoneFor, IsTextOfValid}

-- the figures, as they are printed
abbrev pub seen : Figures → BidFigures
seen figures = record { served = figures.served; left = figures.left }

-- a choice that is free of conflict and serves the bid earns at most the first figure, and there is none where that is none; and one
-- that leaves the bid out earns at most the second
pub record Bound (net : Net) (bids : List Bid) (number : ℕ) (figures : Figures) : Type 0 where
  pub served : (walks : List (Option (List Leg))) (legs : List Leg) → IsConflictFree net bids walks → slice_get walks number ≡ Some (Some legs) → IsSomeAnd figures.served (λ cents. revenue_of net bids walks ≤ℤ cents)
  pub left : (walks : List (Option (List Leg))) → IsConflictFree net bids walks → slice_get walks number ≡ Some None → IsSomeAnd figures.left (λ cents. revenue_of net bids walks ≤ℤ cents)

-- The text is that of the figures which the certificate gives each bid.
pub record TellsEvidence {R : Type 0} (net : Net) (rows : Rows R) (bids : List Bid) (cert : Cert R) (text : List ℕ) : Type 0 where
  pub figures : List Figures
  pub evidence : IsEvidence net rows bids cert.tree figures
  pub printed : text ≡ evidence_text_of net bids cert.choice cert.revenue cert.bound (map seen figures)

-- The bytes are the text of a valid certificate, which keeps the planning promise. Printed are its revenue and its bound, and of each
-- bid the figures that its leaves give, which bound what each choice earns that is free of conflict. Nothing is put.
pub record PrintsFigures {R : Type 0} (family : FamilyOf R) (Keeps : List Entry → Type 0) (bytes : List ℕ) (net : Net) (bids : List Bid) (status : ℕ) (text : List ℕ) : Type 0 where
  pub cert : Cert R
  pub reads : IsTextOfValid family Keeps net bids bytes cert
  pub promise : KeepsPromise net bids cert.choice cert.revenue cert.bound
  pub tells : TellsEvidence net family.rows bids cert text
  pub bounds : (number : ℕ) (bid : Bid) (f : Figures) → slice_get bids number ≡ Some bid → slice_get tells.figures number ≡ Some f → Bound net bids number f
  pub ends : status ≡ valid_status

-- The bytes are no valid certificate's text, and why is printed, as the check prints it. Nothing is put.
pub record PrintsDenied {R : Type 0} (family : FamilyOf R) (Keeps : List Entry → Type 0) (bytes : List ℕ) (net : Net) (bids : List Bid) (status : ℕ) (text : List ℕ) : Type 0 where
  pub why : VerdictView
  pub none : IsNoneFor family Keeps net bids bytes why
  pub printed : text ≡ verdict_text_of why
  pub ends : status ≡ denied_status

-- the evidence of a valid certificate is printed, or why the bytes are none
pub record PrintsEvidence {R : Type 0} (family : FamilyOf R) (Keeps : List Entry → Type 0) (bytes : List ℕ) (net : Net) (parts : List Parts) (status : ℕ) (text : List ℕ) (puts : List (List ℕ × List ℕ)) : Type 0 where
  pub bids : List Bid
  pub are_those : map parts_of bids ≡ parts
  pub prints : PrintsFigures family Keeps bytes net bids status text ⊎ PrintsDenied family Keeps bytes net bids status text
  pub put : puts ≡ []

-- by the rows of the tables' version
abbrev pub PrintsTablesEvidence : List ℕ → Tables → ℕ → List ℕ → List (List ℕ × List ℕ) → Type 0
PrintsTablesEvidence bytes tables status text puts =
    OfVersion tables.version tables.net (λ R family Keeps. PrintsEvidence family Keeps bytes tables.net tables.bids status text puts)

-- the reply to the contents of the files
abbrev pub EvidenceReplies : Contents → Reply → Type 0
EvidenceReplies contents reply = TablesReply (PrintsTablesEvidence (certificate_in contents)) (meaning_of contents) reply
