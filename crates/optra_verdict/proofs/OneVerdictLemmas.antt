-- There is one verdict on bytes, and so one text of it.
use Rattle.std.proofs.Common.{◌≡◌, ℕ, List, length, sym, ap, ◌∙◌, subst}
use Rattle.optra_network.specs.Net.{Net}
use Rattle.optra_bid.specs.declared.bids.Bid.{Bid}
use Rattle.optra_cert.specs.CertLaws.{IsTextOf, OneFirstFault, TextHasNoFault, TextTellsCert}
use Rattle.optra_cert.specs.Certs.{Cert}
use Rattle.optra_cert.specs.declared.CertFault.{CertFault}
use Rattle.optra_checker.specs.VerdictLaws.{OneVerdict as OneOfCert}
use Rattle.optra_checker.specs.Verdicts.{IsVerdict}
use Rattle.optra_checker.specs.declared.Verdict.{Verdict}
use Rattle.optra_checker.specs.declared.Verdict.TheVariants as verdicts
use Rattle.optra_rows.specs.Headways.{KeepsHeadwayRule}
use Rattle.optra_text.specs.VerdictTexts.{verdict_text_of}
use Rattle.optra_text.specs.declared.verdicts.VerdictView.{VerdictView}
use Rattle.optra_text.specs.declared.verdicts.VerdictView.TheVariants.{Yes, No, Unreadable}
use Rattle.optra_walk.specs.Families.{Entry}
use Rattle.optra_verdict.specs.CheckCommand.{verdict_status}
use Rattle.optra_verdict.specs.VerdictsOn.{IsVerdictOn, fault_number, reason_number}
use Rattle.optra_verdict.specs.Families.{KeepsAllRules, all_family, headway_family}
use Rattle.optra_verdict.specs.FamilyOf.{FamilyOf}
use Rattle.optra_verdict.specs.OneVerdict.{HasOneVerdict, OneVerdict}
use Rattle.optra_frame.specs.declared.version.Version.TheVariants as versions
use Rattle.optra_verdict.proofs.BidLemmas.{bids-from_offers}

-- a verdict as it is printed
abbrev view_of : Verdict → VerdictView
view_of (verdicts.Yes revenue bound) = Yes revenue bound
view_of (verdicts.No reason) = No (reason_number reason)

module _ {R : Type 0} (family : FamilyOf R) (Keeps : List Entry → Type 0) (net : Net) (bids : List Bid)
    (tells : TextTellsCert family.cmp family.texts net (length bids)) (faultless : TextHasNoFault family.cmp family.texts net (length bids))
    (one_fault : OneFirstFault family.cmp family.texts net (length bids)) (one : OneOfCert net family.rows Keeps bids) where
  abbrev Checked : Cert R → Verdict → Type 0
  Checked cert verdict = IsVerdict net family.rows Keeps bids cert verdict

  -- what is checked is one certificate
  one_checked : (bytes : List ℕ) (c d : Cert R) (v w : Verdict) → IsTextOf family.cmp family.texts net (length bids) bytes c → IsTextOf family.cmp family.texts net (length bids) bytes d
      → Checked c v → Checked d w → view_of v ≡ view_of w
  one_checked bytes c d v w text other x y = ap view_of (one d v w (subst (λ (cert : Cert R). Checked cert v) (tells bytes c d text other) x) y)

  one_found : (bytes : List ℕ) (a b : VerdictView) → IsVerdictOn family Keeps net bids bytes a → IsVerdictOn family Keeps net bids bytes b → a ≡ b
  one_found bytes (Yes r b) (Yes s d) x y =
      one_checked bytes x.cert y.cert (verdicts.Yes r b) (verdicts.Yes s d) x.reads.text y.reads.text (x.reads.valid, x.revenue_is, x.bound_is) (y.reads.valid, y.revenue_is, y.bound_is)
  one_found bytes (Yes r b) (No n) x y =
      one_checked bytes x.cert y.cert (verdicts.Yes r b) (verdicts.No y.reason) x.reads.text y.text (x.reads.valid, x.revenue_is, x.bound_is) y.fails ∙ ap No (sym y.number_is)
  one_found bytes (No m) (Yes s d) x y =
      ap No x.number_is ∙ one_checked bytes x.cert y.cert (verdicts.No x.reason) (verdicts.Yes s d) x.text y.reads.text x.fails (y.reads.valid, y.revenue_is, y.bound_is)
  one_found bytes (No m) (No n) x y =
      ap No x.number_is ∙ one_checked bytes x.cert y.cert (verdicts.No x.reason) (verdicts.No y.reason) x.text y.text x.fails y.fails ∙ ap No (sym y.number_is)
  one_found bytes (Yes r b) (Unreadable row code) x y = absurd (faultless bytes x.cert y.fault x.reads.text y.first)
  one_found bytes (No n) (Unreadable row code) x y = absurd (faultless bytes x.cert y.fault x.text y.first)
  one_found bytes (Unreadable row code) (Yes r b) x y = absurd (faultless bytes y.cert x.fault y.reads.text x.first)
  one_found bytes (Unreadable row code) (No n) x y = absurd (faultless bytes y.cert x.fault y.text x.first)
  one_found bytes (Unreadable row code) (Unreadable other last) x y =
      let same : x.fault ≡ y.fault = one_fault bytes x.fault y.fault x.first y.first in
      let rows : row ≡ other = x.row_is ∙ ap (λ (f : CertFault). f.row) same ∙ sym y.row_is in
      let numbers : code ≡ last = x.number_is ∙ ap (λ (f : CertFault). fault_number f.code) same ∙ sym y.number_is in
      λ i. Unreadable (rows i) (numbers i)

  pub one_verdict : HasOneVerdict family Keeps net bids
  one_verdict bytes status status' text text' puts puts' p q =
      let here : p.bids ≡ bids = bids-from_offers p.bids bids p.are_those in
      let there : q.bids ≡ bids = bids-from_offers q.bids bids q.are_those in
      let same : p.verdict ≡ q.verdict = one_found bytes p.verdict q.verdict
      (subst (λ (b : List Bid). IsVerdictOn family Keeps net b bytes p.verdict) here p.finds) (subst (λ (b : List Bid). IsVerdictOn family Keeps net b bytes q.verdict) there q.finds) in (
        p.ends ∙ ap verdict_status same ∙ sym q.ends,
        p.printed ∙ ap verdict_text_of same ∙ sym q.printed,
        p.put ∙ sym q.put,
      )

pub one_verdict-each : (net : Net) (bids : List Bid) → HasOneVerdict (headway_family net) (KeepsHeadwayRule net) net bids → HasOneVerdict (all_family net) (KeepsAllRules net) net bids → OneVerdict net bids
one_verdict-each net bids first second versions.First = first
one_verdict-each net bids first second versions.Second = second
