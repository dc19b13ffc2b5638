-- The records are printed one list after another.
use Rattle.std.proofs.Common.{◌≡◌, ◌++◌, ◌∙◌, List, ℕ, Vec, map, ap, subst, IfOk, rules}
use Rattle.std.specs.Prelude.{FitsSigned}
use Rattle.std.specs.Int.{w64}
use Rattle.std.proofs.lemmas.Int.{to_z-of_z}
use Rattle.std.specs.declared.alloc.Global.{Global}
use Rattle.optra_records.specs.Reading.{Record}
use Rattle.optra_records.specs.Texts.{records_text}
use Rattle.optra_text.specs.PlanTexts.{head_records}
use Rattle.optra_text.specs.PaymentTexts.{pay_record, pay_text_of}
use Rattle.optra_text.proofs.RoundLemmas.{more-printed}
use Rattle.optra_text.proofs.payments.pay_text.Goals as goal

pub returns : goal.returns
unfolding pay_text_of
returns c =
    let view = c.args.view in
    let revenue_fits : FitsSigned w64 view.revenue = search rules in
    let bound_fits : FitsSigned w64 view.bound = search rules in
    let head : List Record = head_records view.revenue view.bound view.nodes in
    let pays : List Record = map pay_record c.args.pays.now in
    let e1 : c.print_head.new.printer ≡ records_text head =
    c.in_ok-print_head.ensures
    ∙ (λ i. c.new-printer.result ++ records_text (head_records (to_z-of_z w64 view.revenue revenue_fits i) (to_z-of_z w64 view.bound bound_fits i) view.nodes))
    ∙ ap (λ (t : List ℕ). t ++ records_text head) c.new-printer.ensures in
    let e2 : c.print_pays.new.printer ≡ records_text (head ++ pays) = more-printed c.print_head.new.printer c.print_pays.new.printer head pays e1 c.in_ok-print_pays.ensures in
    subst (λ (t : List ℕ). IfOk c.finish.result (λ (text : Vec ℕ Global). text.items ≡ t)) e2 c.finish.ensures
