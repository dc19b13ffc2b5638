-- The records are printed one list after another.
use Rattle.std.proofs.Common.{append_assoc, ◌≡◌, ◌++◌, ◌∙◌, List, [], ◌∷◌, ℕ, Vec, All, length, map, sym, ap, subst, IfOk}
use Rattle.std.specs.declared.alloc.Global.{Global}
use Rattle.optra_network.specs.Net.{IsStation}
use Rattle.optra_audit.specs.Trains.{trains_of}
use Rattle.optra_audit.specs.declared.Clash.{Clash}
use Rattle.optra_audit.specs.declared.Over.{Over}
use Rattle.optra_records.specs.Reading.{Record}
use Rattle.optra_records.specs.Texts.{record_text, records_text}
use Rattle.optra_text.specs.AuditTexts.{audit_text_of, clash_record, fault_record, faults_record, over_record, revenue_records}
use Rattle.optra_text.proofs.AuditLemmas.{found-long, overs-within}
use Rattle.optra_text.proofs.RoundLemmas.{more-printed, one-printed}
use Rattle.optra_text.proofs.audits.audit_text.Goals as goal

pub print_overs-requires : goal.print_overs-requires
print_overs-requires c =
    subst (λ (overs : List Over). All (λ over. IsStation c.args.inst.net.now over.station) overs) (sym (c.deref-3.ensures.value ∙ ap (λ f. f.overs) c.report.view_is))
    (overs-within c.args.inst.net.now c.args.inst.bids.now (trains_of (length c.args.inst.bids.now) c.args.lines.now) c.args.report.now c.args.inst.proper c.requires.report)

pub returns : goal.returns
unfolding audit_text_of
returns c =
    let net = c.args.inst.net.now in
    let bids = c.args.inst.bids.now in
    let report = c.args.report.now in
    let trains = trains_of (length bids) c.args.lines.now in
    let a1 : List Record = map fault_record report.faults in
    let a2 : List Record = map clash_record report.clashes in
    let a3 : List Record = map (over_record net) report.overs in
    let count = length (a1 ++ a2 ++ a3) in
    let a4 : List Record = revenue_records net bids trains count in
    let e1 : c.print_faults.new.printer ≡ records_text a1 =
    c.in_ok-print_faults.ensures ∙ (λ i. c.new-printer.ensures i ++ records_text (map fault_record ((c.deref.ensures.value ∙ ap (λ f. f.faults) c.report.view_is) i))) in
    let e2 : c.print_clashes.new.printer ≡ records_text (a1 ++ a2) = more-printed c.print_faults.new.printer c.print_clashes.new.printer a1 a2 e1
    (c.in_ok-print_clashes.ensures ∙ ap (λ (t : List Clash). c.print_faults.new.printer ++ records_text (map clash_record t)) (c.deref-2.ensures.value ∙ ap (λ f. f.clashes) c.report.view_is)) in
    let e3 : c.print_overs.new.printer ≡ records_text (a1 ++ a2 ++ a3) = more-printed c.print_clashes.new.printer c.print_overs.new.printer (a1 ++ a2) a3 e2
    (c.in_ok-print_overs.ensures ∙ ap (λ (t : List Over). c.print_clashes.new.printer ++ records_text (map (over_record net) t)) (c.deref-3.ensures.value ∙ ap (λ f. f.overs) c.report.view_is)) in
    let e4 : c.print_count.new.printer ≡ records_text (a1 ++ a2 ++ a3 ++ faults_record count ∷ []) = one-printed c.print_overs.new.printer c.print_count.new.printer (a1 ++ a2 ++ a3) (faults_record count) e3
    (c.in_ok-print_count.ensures ∙ ap (λ (n : ℕ). c.print_overs.new.printer ++ record_text (faults_record n)) (c.found-count.ensures ∙ sym (found-long net report))) in
    let e5 : c.print_revenue.new.printer ≡ records_text (a1 ++ a2 ++ a3 ++ faults_record count ∷ [] ++ a4) =
    more-printed c.print_count.new.printer c.print_revenue.new.printer (a1 ++ a2 ++ a3 ++ faults_record count ∷ []) a4 e4 c.in_ok-print_revenue.ensures in
    let same = append_assoc (a1 ++ a2 ++ a3) (faults_record count ∷ []) a4 in
    subst (λ (t : List ℕ). IfOk c.finish.result (λ (text : Vec ℕ Global). text.items ≡ t)) (e5 ∙ ap records_text same) c.finish.ensures
