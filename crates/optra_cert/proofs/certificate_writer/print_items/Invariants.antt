-- What is printed so far, with the items that are left, is the whole.
use Rattle.std.proofs.Common.{◌≡◌, ◌++◌, drop, flat_map}
use Rattle.optra_records.specs.Texts.{records_text}
use Rattle.optra_cert.specs.CertTexts.{item_records}
use Rattle.optra_cert.proofs.certificate_writer.print_items.Given as goal

abbrev pub invariant-items : goal.invariant-items
invariant-items g l =
    l.printer ++ records_text (flat_map (item_records (g.F.RowText.texts_of l.rows) l.net) (drop l.item-index l.tree))
    ≡ l.fn.printer ++ records_text (flat_map (item_records (g.F.RowText.texts_of l.rows) l.net) l.tree)
