-- The texts are the header.
use Rattle.std.proofs.Common.{◌≡◌, ◌++◌, OnOk, ap, ◌∙◌, subst}
use Rattle.optra_records.specs.Reading.{Record}
use Rattle.optra_records.specs.Texts.{record_text}
use Rattle.optra_tables.specs.Stops.{stops_header}
use Rattle.optra_tables.proofs.writing.print_stops_header.Goals as goal

pub returns : goal.returns
returns c =
    let same : c.texts.new.self ≡ stops_header = c.in_ok-texts.ensures ∙ ap (λ (t : Record). t ++ stops_header) c.clear.ensures in
    subst (λ (f : Record). OnOk c.print.result (c.print.new.self ≡ c.args.printer.now ++ record_text f)) same c.print.ensures
