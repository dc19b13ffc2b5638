-- The text is that of the first records and then of the trains.
use Rattle.std.proofs.Common.{◌≡◌, ◌++◌, sym, rules, ◌∙◌}
use Rattle.std.proofs.lemmas.Result.{IfOk-weaker}
use Rattle.std.proofs.lemmas.Grind.{flat_map-append}
use Rattle.optra_records.specs.Texts.{record_text, records_text}
use Rattle.optra_text.specs.PlanTexts.{head_records, train_records, plan_text_of}
use Rattle.optra_text.proofs.plans.plan_text.Goals as goal

pub returns : goal.returns
unfolding plan_text_of
returns c =
    let view = c.args.view in
    let head = head_records view.revenue view.bound view.nodes in
    let trains = train_records view.inst.net.now 1 view.inst.bids.now view.choice.now in
    let printed : c.print_trains.new.printer ≡ records_text head ++ records_text trains = search (rules, c.in_ok-print_trains.ensures, c.in_ok-print_head.ensures, c.new-printer.ensures, c.deref.ensures.value, c.choice.view_is) in
    IfOk-weaker c.finish.result _ _ (λ text is. is ∙ printed ∙ sym (flat_map-append record_text head trains)) c.finish.ensures
