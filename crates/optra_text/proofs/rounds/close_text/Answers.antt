-- The records are printed one list after another.
use Rattle.std.proofs.Common.{◌≡◌, ◌++◌, ◌∙◌, List, [], ◌∷◌, ℕ, Vec, map, ap, subst, IfOk, codes}
use Rattle.std.specs.declared.alloc.Global.{Global}
use Rattle.optra_records.specs.Reading.{Record}
use Rattle.optra_records.specs.Texts.{record_text, records_text}
use Rattle.optra_text.specs.RoundTexts.{award_record, count_record, late_record}
use Rattle.optra_text.specs.RoundViews.{award_of, close_text_of}
use Rattle.optra_text.proofs.RoundLemmas.{first-printed, more-printed}
use Rattle.optra_text.proofs.rounds.close_text.Goals as goal

pub returns : goal.returns
unfolding close_text_of
returns c =
    let first : List Record = count_record (codes "closed") c.args.view.round ∷ [] in
    let late : List Record = map late_record c.args.view.late.now in
    let awards : List Record = map award_record (map award_of c.args.view.awards.now) in
    let e1 : c.print_count.new.printer ≡ records_text first =
    first-printed c.new-printer.result c.print_count.new.printer (count_record (codes "closed") c.args.view.round) c.new-printer.ensures
    (c.in_ok-print_count.ensures ∙ ap (λ (n : ℕ). c.new-printer.result ++ record_text (count_record (codes "closed") n)) c.from.ensures) in
    let e2 : c.print_late.new.printer ≡ records_text (first ++ late) = more-printed c.print_count.new.printer c.print_late.new.printer first late e1 c.in_ok-print_late.ensures in
    let e3 : c.print_awards.new.printer ≡ records_text (first ++ late ++ awards) = more-printed c.print_late.new.printer c.print_awards.new.printer (first ++ late) awards e2 c.in_ok-print_awards.ensures in
    subst (λ (t : List ℕ). IfOk c.finish.result (λ (text : Vec ℕ Global). text.items ≡ t)) e3 c.finish.ensures
