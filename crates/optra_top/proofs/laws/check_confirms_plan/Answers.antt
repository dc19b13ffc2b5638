-- The text of the plan's certificate tells it, and has no fault.
use Rattle.std.proofs.Common.{length, subst, arith}
use Rattle.optra_cert.specs.CertLaws.{TextHasNoFault, TextTellsCert}
use Rattle.optra_rows.specs.Headways.{KeepsHeadwayRule}
use Rattle.optra_verdict.specs.Families.{KeepsAllRules, all_family, headway_family}
use Rattle.optra_top.proofs.ConfirmLemmas.{confirms, confirms-each}
use Rattle.optra_top.proofs.laws.check_confirms_plan.Goals as goal

pub returns : goal.returns
returns c =
    let net = c.args.inst.net.now in
    let bids = c.args.inst.bids.now in
    let order = c.all_rows_are_told.ensures.order in
    confirms-each net bids
    (confirms (headway_family net) (KeepsHeadwayRule net) net bids c.text_tells_cert.ensures c.text_has_no_fault.ensures (omega arith))
    (confirms (all_family net) (KeepsAllRules net) net bids
    (subst (λ cmp. TextTellsCert cmp (all_family net).texts net (length bids)) order c.text_tells_cert-2.ensures)
    (subst (λ cmp. TextHasNoFault cmp (all_family net).texts net (length bids)) order c.text_has_no_fault-2.ensures)
    (omega arith))
