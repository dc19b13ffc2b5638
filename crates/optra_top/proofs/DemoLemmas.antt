-- The verdict on the certificate of a demo's plan is Yes.
use Rattle.std.proofs.Common.{◌≡◌, ℕ, List, length, arith}
use Rattle.optra_network.specs.Net.{Net}
use Rattle.optra_bid.specs.declared.bids.Bid.{Bid}
use Rattle.optra_cert.specs.CertLaws.{IsTextOf, TextHasNoFault, TextTellsCert}
use Rattle.optra_cert.specs.CertTexts.{cert_text}
use Rattle.optra_cert.specs.Certs.{IsWritable}
use Rattle.optra_cert.specs.Headways.{headway_texts}
use Rattle.optra_rows.specs.Headways.{headway_rows, KeepsHeadwayRule}
use Rattle.optra_rows.specs.TouchedLemmas.{row_cmp}
use Rattle.optra_rows.specs.declared.HRow.{HRow}
use Rattle.optra_search.specs.Planner.{Planned}
use Rattle.optra_text.specs.declared.verdicts.VerdictView.{VerdictView}
use Rattle.optra_text.specs.declared.verdicts.VerdictView.TheVariants.{Yes}
use Rattle.optra_verdict.specs.VerdictsOn.{IsVerdictOn}
use Rattle.optra_verdict.specs.Families.{headway_family}
use Rattle.optra_play.specs.Certificates.{certificate_of}
use Rattle.optra_play.specs.Plans.{IsPlanOf}
use Rattle.optra_verdict.proofs.VerdictLemmas.{verdict-yes}

-- the verdict on the text of a plan's certificate is Yes, with the plan's numbers
pub plan-confirmed : (net : Net) (bids : List Bid) → TextTellsCert row_cmp headway_texts net (length bids) → TextHasNoFault row_cmp headway_texts net (length bids)
    → (steps budget : ℕ) (plan : Planned HRow) (bytes : List ℕ) (verdict : VerdictView) → IsPlanOf row_cmp net (headway_rows net) (KeepsHeadwayRule net) bids steps budget plan
    → IsWritable row_cmp headway_texts net (length bids) headway_texts.version (certificate_of plan) → bytes ≡ cert_text headway_texts net headway_texts.version (certificate_of plan)
    → IsVerdictOn (headway_family net) (KeepsHeadwayRule net) net bids bytes verdict → verdict ≡ Yes plan.revenue plan.bound
plan-confirmed net bids tells faultless steps budget plan bytes verdict is writable text found =
    let is_text : IsTextOf row_cmp headway_texts net (length bids) bytes (certificate_of plan) = record {
      version = headway_texts.version;
      least = omega arith;
      most = omega arith;
      writable = writable;
      text = text;
    } in
    verdict-yes (headway_family net) (KeepsHeadwayRule net) net bids tells faultless bytes (certificate_of plan) verdict is_text is.plan_is.certified.valid found
