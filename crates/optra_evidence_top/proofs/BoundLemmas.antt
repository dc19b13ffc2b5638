-- What the figures of a valid certificate bound, and that they can be printed.
use Rattle.std.proofs.Common.{◌≡◌, ◌⊎◌, inl, inr, ℕ, List, length, map, get_or, Option, None, Some, slice_get, refl, sym, ◌∙◌, subst, ap}
use Rattle.std.specs.Prelude.{All, IsSomeAnd}
use Rattle.std.specs.Prelude.{◌≤ℤ◌}
use Rattle.std.proofs.lemmas.List.Elements.{All-map}
use Rattle.optra_network.specs.Net.{Net}
use Rattle.optra_bid.specs.declared.bids.Bid.{Bid}
use Rattle.optra_walk.specs.declared.Leg.{Leg}
use Rattle.optra_walk.specs.Choices.{IsConflictFree, revenue_of}
use Rattle.optra_walk.specs.Families.{Rows, Entry}
use Rattle.optra_cert.specs.Certs.{Cert}
use Rattle.optra_node.specs.Certificates.{IsValid}
use Rattle.optra_node.specs.Evidence.{IsCover, WithHolds, WithoutHolds}
use Rattle.optra_node.specs.Trees.{IsTree}
use Rattle.optra_evidence.specs.Evidence.{IsEvidence}
use Rattle.optra_evidence.specs.Figures.{AreSmall}
use Rattle.optra_evidence.specs.declared.figures.Figures.{Figures}
use Rattle.optra_text.specs.EvidenceTexts.{AreFigures}
use Rattle.optra_frame.specs.Statuses.{denied_status, valid_status}
use Rattle.optra_frame.specs.TableFiles.{Tables}
use Rattle.optra_verdict.proofs.FamilyLemmas.{of_version-then}
use Rattle.optra_verdict.specs.Promises.{TellsConflicts}
use Rattle.optra_evidence_top.specs.EvidenceCommand.{Bound, PrintsEvidence, PrintsTablesEvidence, PrintsFigures, PrintsDenied, seen}
use Rattle.optra_verdict.specs.FamilyOf.{FamilyOf}

-- the figures can be printed
pub figures_shown : (figures : List Figures) → All AreSmall figures → All AreFigures (map seen figures)
figures_shown figures small = All-map AreFigures seen figures (λ k d l. let is = small k d l in record { served = is.served; left = is.left })

module _ {R : Type 0} (net : Net) (rows : Rows R) (Keeps : List Entry → Type 0) (bids : List Bid) (tells : TellsConflicts net bids Keeps) (with_holds : WithHolds net rows Keeps bids) (without_holds : WithoutHolds net rows Keeps bids) where
  pub bounds_are : (cert : Cert R) → IsTree cert.tree → IsValid net rows Keeps bids cert.revenue cert.bound cert.choice cert.tree → (figures : List Figures) → IsEvidence net rows bids cert.tree figures
      → (number : ℕ) (bid : Bid) (f : Figures) → slice_get bids number ≡ Some bid → slice_get figures number ≡ Some f → Bound net bids number f
  bounds_are cert whole valid figures evidence number bid f at here =
      let is = evidence.each number bid f at here in
      let cover : IsCover net rows bids cert.tree = record { whole = whole; splits = valid.splits; dead = valid.dead } in
      record {
        served = λ walks legs free w. with_holds cert.tree evidence.prices_at number bid f.served walks legs cover evidence.listed.proper at is.with free.choice ((tells walks free.choice).1 free) w;
        left = λ walks free w. without_holds cert.tree evidence.prices_at number bid f.left walks cover evidence.listed.proper at is.without free.choice ((tells walks free.choice).1 free) w;
      }

status-prints : {R : Type 0} (family : FamilyOf R) (Keeps : List Entry → Type 0) (bytes : List ℕ) (net : Net) (bids : List Bid) (status : ℕ) (text : List ℕ)
    → PrintsFigures family Keeps bytes net bids status text ⊎ PrintsDenied family Keeps bytes net bids status text → (status ≡ valid_status) ⊎ (status ≡ denied_status)
status-prints family Keeps bytes net bids status text (inl p) = inl p.ends
status-prints family Keeps bytes net bids status text (inr p) = inr p.ends

pub status-evidence : (bytes : List ℕ) (tables : Tables) (status : ℕ) (text : List ℕ) (puts : List (List ℕ × List ℕ)) → PrintsTablesEvidence bytes tables status text puts → (status ≡ valid_status) ⊎ (status ≡ denied_status)
status-evidence bytes tables status text puts says =
    of_version-then (λ R family Keeps. PrintsEvidence family Keeps bytes tables.net tables.bids status text puts) ((status ≡ valid_status) ⊎ (status ≡ denied_status)) tables.version tables.net
    (λ R family Keeps p. status-prints family Keeps bytes tables.net p.bids status text p.prints) says
