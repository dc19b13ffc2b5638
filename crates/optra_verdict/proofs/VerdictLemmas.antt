-- The verdict on bytes, and its status.
use Rattle.std.proofs.Common.{◌≡◌, ◌⊎◌, inl, inr, ℕ, List, length, ℤ, sym, ap, ◌∙◌, subst}
use Rattle.optra_network.specs.Net.{Net}
use Rattle.optra_bid.specs.declared.bids.Bid.{Bid}
use Rattle.optra_cert.specs.CertLaws.{IsTextOf, TextTellsCert, TextHasNoFault}
use Rattle.optra_cert.specs.Certs.{Cert}
use Rattle.optra_node.specs.Certificates.{IsValid}
use Rattle.optra_node.specs.Laws.{BoundHolds}
use Rattle.optra_text.specs.declared.verdicts.VerdictView.{VerdictView}
use Rattle.optra_text.specs.declared.verdicts.VerdictView.TheVariants.{Yes, No, Unreadable}
use Rattle.optra_checker.proofs.VerdictLemmas.{no_reason}
use Rattle.optra_walk.specs.Families.{Entry}
use Rattle.optra_frame.specs.Statuses.{denied_status, valid_status}
use Rattle.optra_frame.specs.TableFiles.{Tables}
use Rattle.optra_verdict.specs.CheckCommand.{PrintsTablesVerdict, PrintsVerdict, verdict_status}
use Rattle.optra_verdict.specs.VerdictsOn.{IsConfirmed, IsTextOfValid, IsVerdictOn}
use Rattle.optra_verdict.specs.FamilyOf.{FamilyOf}
use Rattle.optra_verdict.specs.Promises.{KeepsPromise, TellsConflicts}
use Rattle.optra_verdict.proofs.FamilyLemmas.{of_version-then}
use Rattle.optra_verdict.proofs.PromiseLemmas.{promise-from_valid}

-- the text of a valid certificate is confirmed, where the rule of the rows is freedom of conflict
pub confirmed-from_valid : {R : Type 0} (family : FamilyOf R) (net : Net) (Keeps : List Entry → Type 0) (bids : List Bid) → TellsConflicts net bids Keeps → BoundHolds net family.rows Keeps bids
    → (bytes : List ℕ) (cert : Cert R) (revenue bound : ℤ) → IsTextOfValid family Keeps net bids bytes cert → revenue ≡ cert.revenue → bound ≡ cert.bound → IsConfirmed family Keeps net bids bytes revenue bound
confirmed-from_valid family net Keeps bids tells holds bytes cert revenue bound reads revenue_is bound_is = record {
  cert = cert;
  reads = reads;
  revenue_is = revenue_is;
  bound_is = bound_is;
  promise = subst (λ r. KeepsPromise net bids cert.choice r bound) (sym revenue_is) (subst (λ b. KeepsPromise net bids cert.choice cert.revenue b) (sym bound_is)
      (promise-from_valid net family.rows Keeps bids tells holds cert.revenue cert.bound cert.choice cert.tree reads.text.writable.formed.whole reads.valid));
}

module _ {R : Type 0} (family : FamilyOf R) (Keeps : List Entry → Type 0) (net : Net) (bids : List Bid) (tells : TextTellsCert family.cmp family.texts net (length bids)) (faultless : TextHasNoFault family.cmp family.texts net (length bids)) where
  abbrev pub ValidHere : Cert R → Type 0
  ValidHere cert = IsValid net family.rows Keeps bids cert.revenue cert.bound cert.choice cert.tree

  -- the verdict on the text of a valid certificate is Yes, with its numbers
  pub verdict-yes : (bytes : List ℕ) (cert : Cert R) (verdict : VerdictView) → IsTextOf family.cmp family.texts net (length bids) bytes cert → ValidHere cert
      → IsVerdictOn family Keeps net bids bytes verdict → verdict ≡ Yes cert.revenue cert.bound
  verdict-yes bytes cert (Yes revenue bound) text valid found =
      let same : found.cert ≡ cert = tells bytes found.cert cert found.reads.text text in
      let r = found.revenue_is ∙ ap (λ (c : Cert R). c.revenue) same in
      let b = found.bound_is ∙ ap (λ (c : Cert R). c.bound) same in
      λ i. Yes (r i) (b i)
  verdict-yes bytes cert (No number) text valid found =
      let same : cert ≡ found.cert = tells bytes cert found.cert text found.text in
      absurd (no_reason net family.rows Keeps bids found.cert found.reason found.fails (subst ValidHere same valid))
  verdict-yes bytes cert (Unreadable row number) text valid found = absurd (faultless bytes cert found.fault text found.first)

pub status-of_verdict : (verdict : VerdictView) (status : ℕ) → status ≡ verdict_status verdict → (status ≡ valid_status) ⊎ (status ≡ denied_status)
status-of_verdict (Yes revenue bound) status is = inl is
status-of_verdict (No reason) status is = inr is
status-of_verdict (Unreadable row fault) status is = inr is

pub status-verdict : (bytes : List ℕ) (tables : Tables) (status : ℕ) (text : List ℕ) (puts : List (List ℕ × List ℕ)) → PrintsTablesVerdict bytes tables status text puts → (status ≡ valid_status) ⊎ (status ≡ denied_status)
status-verdict bytes tables status text puts says =
    of_version-then (λ R family Keeps. PrintsVerdict family Keeps bytes tables.net tables.bids status text puts) ((status ≡ valid_status) ⊎ (status ≡ denied_status)) tables.version tables.net
    (λ R family Keeps p. status-of_verdict p.verdict status p.ends) says
