use Rattle.std.proofs.Common.{◌&&◌, sym, ◌∙◌}
use Rattle.optra_rows.specs.Headways.{is_started, is_not_over}
use Rattle.optra_rows.proofs.CountLemmas.{length_from_to}
use Rattle.optra_rows.proofs.DayLemmas.{day_from_to}
use Rattle.optra_rows.proofs.headways.pair_count.Goals as goal

pub returns-clause-count : goal.returns-clause-count
returns-clause-count c =
    let time = c.args.time in
    let start = c.first_started.result in
    let over = c.first_over.result in
    c.saturating_sub.ensures
    ∙ sym (length_from_to (λ partner. is_started time partner && is_not_over time partner) c.args.partners.now start over
    (day_from_to time c.args.partners.now start over c.first_started.ensures.parts c.first_over.ensures))
