use Rattle.std.proofs.Common.{◌<◌, ◌∙◌, length, arith}
use Rattle.std.proofs.lemmas.List.{get_or_read}
use Rattle.optra_prices.specs.declared.columns.Mark.TheVariants.{Still, Due}
use Rattle.optra_prices.proofs.ColumnLemmas.{listed_more, keeps_set}
use Rattle.optra_prices.proofs.columns.mark_group.Goals as goal

pub returns-clause-listed : goal.returns-clause-listed
returns-clause-listed c =
    let marks = c.args.marks.now.items in
    let g = c.args.g in
    let read = get_or_read marks g _ (omega arith) c.index.ensures Still in
    listed_more marks c.args.due.now.items c.list_group.new.due.items g Due c.requires.listed (λ still. c.in_ok-list_group.ensures.here (read ∙ still)) c.in_ok-list_group.ensures.kept

pub returns-clause-keeps : goal.returns-clause-keeps
returns-clause-keeps c =
    let within : c.args.g < length c.args.marks.now.items = omega arith in
    keeps_set c.args.marks.now.items c.args.g within
