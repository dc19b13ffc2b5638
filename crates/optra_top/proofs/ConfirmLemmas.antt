-- What a plan puts is confirmed.
use Rattle.std.proofs.Common.{◌≡◌, ◌≤◌, ℕ, List, [], ◌∷◌, length, Option, None, Some, ap, ◌∙◌, subst, arith}
use Rattle.optra_network.specs.Net.{Net}
use Rattle.optra_bid.specs.declared.bids.Bid.{Bid}
use Rattle.optra_cert.specs.CertLaws.{IsTextOf, TextTellsCert, TextHasNoFault}
use Rattle.optra_cert.specs.CertTexts.{cert_text}
use Rattle.optra_cert.specs.Certs.{Cert, IsWritable}
use Rattle.optra_node.specs.Certificates.{IsValid}
use Rattle.optra_text.specs.VerdictTexts.{verdict_text_of}
use Rattle.optra_walk.specs.Families.{Entry}
use Rattle.optra_verdict.specs.CheckCommand.{verdict_status}
use Rattle.optra_verdict.specs.VerdictsOn.{IsVerdictOn}
use Rattle.optra_verdict.specs.Families.{KeepsAllRules, all_family, headway_family}
use Rattle.optra_verdict.specs.FamilyOf.{FamilyOf}
use Rattle.optra_verdict.proofs.BidLemmas.{bids-from_offers}
use Rattle.optra_verdict.proofs.VerdictLemmas.{ValidHere, verdict-yes}
use Rattle.optra_rows.specs.Headways.{KeepsHeadwayRule}
use Rattle.optra_frame.specs.declared.version.Version.TheVariants as versions
use Rattle.optra_play.specs.Certificates.{certificate_of}
use Rattle.optra_top.specs.CheckLaws.{ConfirmsBy, ConfirmsPlan}
use Rattle.optra_top.specs.PlanCommand.{certificate_puts}

module _ {R : Type 0} (family : FamilyOf R) (Keeps : List Entry → Type 0) (net : Net) (bids : List Bid) (tells : TextTellsCert family.cmp family.texts net (length bids)) (faultless : TextHasNoFault family.cmp family.texts net (length bids))
    (from : 1 ≤ family.texts.version) where
  abbrev text_put : List (List ℕ × List ℕ) → List ℕ
  text_put [] = []
  text_put (put ∷ puts) = put.1

  put-text : (path : Option (List ℕ)) (name bytes : List ℕ) (cert : Cert R) → (name, bytes) ∷ [] ≡ certificate_puts family.texts net path cert → bytes ≡ cert_text family.texts net family.texts.version cert
  put-text None name bytes cert e = absurd (cc e)
  put-text (Some path) name bytes cert e = ap text_put e

  -- the verdict on what a plan puts is Yes
  pub confirms : ConfirmsBy family Keeps net bids
  confirms asks name bytes status status' text text' puts p v =
      let cert = certificate_of p.plan in
      let planned : p.bids ≡ bids = bids-from_offers p.bids bids p.are_those in
      let checked : v.bids ≡ bids = bids-from_offers v.bids bids v.are_those in
      let is_text : IsTextOf family.cmp family.texts net (length bids) bytes cert = record {
        version = family.texts.version;
        least = from;
        most = omega arith;
        writable = subst (λ (b : List Bid). IsWritable family.cmp family.texts net (length b) family.texts.version cert) planned p.writable;
        text = put-text asks.cert name bytes cert p.put;
      } in
      let valid : ValidHere family Keeps net bids tells faultless cert = subst (λ (b : List Bid). IsValid net family.rows Keeps b cert.revenue cert.bound cert.choice cert.tree) planned p.is_plan.plan_is.certified.valid in
      let found = subst (λ (b : List Bid). IsVerdictOn family Keeps net b bytes v.verdict) checked v.finds in
      let yes = verdict-yes family Keeps net bids tells faultless bytes cert v.verdict is_text valid found in (
        v.ends ∙ ap verdict_status yes,
        v.printed ∙ ap verdict_text_of yes,
      )

-- so it is by the rows of each version
pub confirms-each : (net : Net) (bids : List Bid) → ConfirmsBy (headway_family net) (KeepsHeadwayRule net) net bids → ConfirmsBy (all_family net) (KeepsAllRules net) net bids → ConfirmsPlan net bids
confirms-each net bids first second versions.First = first
confirms-each net bids first second versions.Second = second
