-- The records are printed one list after another.
use Rattle.std.proofs.Common.{◌≡◌, ◌++◌, ◌∙◌, List, [], ◌∷◌, ℕ, Option, Vec, length, map, sym, ap, subst, IfOk, codes, rules}
use Rattle.std.specs.Prelude.{FitsSigned}
use Rattle.std.specs.Int.{w64}
use Rattle.std.proofs.lemmas.Int.{to_z-of_z}
use Rattle.std.specs.declared.alloc.Global.{Global}
use Rattle.optra_walk.specs.declared.Leg.{Leg}
use Rattle.optra_records.specs.Reading.{Record}
use Rattle.optra_records.specs.Texts.{record_text, records_text}
use Rattle.optra_text.specs.PlanTexts.{head_records, train_records}
use Rattle.optra_text.specs.RoundTexts.{count_record, outcome_record, standing_records}
use Rattle.optra_text.specs.RoundViews.{round_text_of}
use Rattle.optra_text.proofs.RoundLemmas.{first-printed, more-printed, one-printed}
use Rattle.optra_walk.proofs.EarnLemmas.{choice_long}
use Rattle.optra_text.proofs.rounds.round_text.Goals as goal

pub print_standing-requires-clause-walks : goal.print_standing-requires-clause-walks
print_standing-requires-clause-walks c =
    ap length (c.deref.ensures.value ∙ c.choice.view_is) ∙ sym (choice_long c.args.view.plan.inst.net.now c.args.view.plan.inst.bids.now c.args.view.plan.choice.now c.requires.choice)

pub returns : goal.returns
unfolding round_text_of
returns c =
    let view = c.args.view in
    let plan = view.plan in
    let revenue_fits : FitsSigned w64 plan.revenue = search rules in
    let bound_fits : FitsSigned w64 plan.bound = search rules in
    let a1 : List Record = count_record (codes "round") view.round ∷ [] in
    let a2 : List Record = map outcome_record view.outcomes.now in
    let a3 : List Record = head_records plan.revenue plan.bound plan.nodes in
    let a4 : List Record = standing_records view.specs.now plan.inst.bids.now plan.choice.now in
    let a5 : List Record = train_records plan.inst.net.now 1 plan.inst.bids.now plan.choice.now in
    let e1 : c.print_count.new.printer ≡ records_text a1 =
    first-printed c.new-printer.result c.print_count.new.printer (count_record (codes "round") view.round) c.new-printer.ensures
    (c.in_ok-print_count.ensures ∙ ap (λ (n : ℕ). c.new-printer.result ++ record_text (count_record (codes "round") n)) c.from.ensures) in
    let e2 : c.print_outcomes.new.printer ≡ records_text (a1 ++ a2) = more-printed c.print_count.new.printer c.print_outcomes.new.printer a1 a2 e1 c.in_ok-print_outcomes.ensures in
    let e3 : c.print_head.new.printer ≡ records_text (a1 ++ a2 ++ a3) = more-printed c.print_outcomes.new.printer c.print_head.new.printer (a1 ++ a2) a3 e2
    (c.in_ok-print_head.ensures ∙ (λ i. c.print_outcomes.new.printer ++ records_text (head_records (to_z-of_z w64 plan.revenue revenue_fits i) (to_z-of_z w64 plan.bound bound_fits i) plan.nodes))) in
    let e4 : c.print_standing.new.printer ≡ records_text (a1 ++ a2 ++ a3 ++ a4) = more-printed c.print_head.new.printer c.print_standing.new.printer (a1 ++ a2 ++ a3) a4 e3
    (c.in_ok-print_standing.ensures ∙ ap (λ (walks : List (Option (List Leg))). c.print_head.new.printer ++ records_text (standing_records view.specs.now plan.inst.bids.now walks)) (c.deref.ensures.value ∙ c.choice.view_is)) in
    let e5 : c.print_trains.new.printer ≡ records_text (a1 ++ a2 ++ a3 ++ a4 ++ a5) = more-printed c.print_standing.new.printer c.print_trains.new.printer (a1 ++ a2 ++ a3 ++ a4) a5 e4
    (c.in_ok-print_trains.ensures ∙ ap (λ (walks : List (Option (List Leg))). c.print_standing.new.printer ++ records_text (train_records plan.inst.net.now 1 plan.inst.bids.now walks)) (c.deref-2.ensures.value ∙ c.choice.view_is)) in
    let e6 : c.print_count-2.new.printer ≡ records_text (a1 ++ a2 ++ a3 ++ a4 ++ a5 ++ count_record (codes "graphs") view.graphs ∷ []) =
    one-printed c.print_trains.new.printer c.print_count-2.new.printer (a1 ++ a2 ++ a3 ++ a4 ++ a5) (count_record (codes "graphs") view.graphs) e5 c.in_ok-print_count-2.ensures in
    subst (λ (t : List ℕ). IfOk c.finish.result (λ (text : Vec ℕ Global). text.items ≡ t)) e6 c.finish.ensures
