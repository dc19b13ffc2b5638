-- What is printed so far, with the prices that are left, is the whole.
use Rattle.std.proofs.Common.{◌≡◌, ◌++◌, drop, map}
use Rattle.optra_records.specs.Texts.{records_text}
use Rattle.optra_cert.specs.CertTexts.{price_record}
use Rattle.optra_cert.proofs.certificate_writer.print_entries.Given as goal

abbrev pub invariant-entries : goal.invariant-entries
invariant-entries g l =
    l.printer ++ records_text (map (price_record (g.F.RowText.texts_of l.rows) l.net) (drop l.entry-index l.entries))
    ≡ l.fn.printer ++ records_text (map (price_record (g.F.RowText.texts_of l.rows) l.net) l.entries)
