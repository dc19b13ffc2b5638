-- A text tells one certificate, which has one verdict, and bytes have one first fault.
use Rattle.std.proofs.Common.{length, subst}
use Rattle.optra_cert.specs.CertLaws.{OneFirstFault, TextHasNoFault, TextTellsCert}
use Rattle.optra_rows.specs.Headways.{KeepsHeadwayRule}
use Rattle.optra_verdict.specs.Families.{KeepsAllRules, all_family, headway_family}
use Rattle.optra_verdict.proofs.OneVerdictLemmas.{one_verdict, one_verdict-each}
use Rattle.optra_verdict.proofs.laws.one_verdict.Goals as goal

pub returns : goal.returns
returns c =
    let net = c.args.inst.net.now in
    let bids = c.args.inst.bids.now in
    let order = c.all_rows_are_told.ensures.order in
    one_verdict-each net bids
    (one_verdict (headway_family net) (KeepsHeadwayRule net) net bids c.text_tells_cert.ensures c.text_has_no_fault.ensures c.first_fault_is_one.ensures c.verdict_is_one.ensures)
    (one_verdict (all_family net) (KeepsAllRules net) net bids
    (subst (λ cmp. TextTellsCert cmp (all_family net).texts net (length bids)) order c.text_tells_cert-2.ensures)
    (subst (λ cmp. TextHasNoFault cmp (all_family net).texts net (length bids)) order c.text_has_no_fault-2.ensures)
    (subst (λ cmp. OneFirstFault cmp (all_family net).texts net (length bids)) order c.first_fault_is_one-2.ensures)
    c.verdict_is_one-2.ensures)
