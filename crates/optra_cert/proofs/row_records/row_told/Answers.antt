-- Too many fields tell no row.
use Rattle.std.proofs.Common.{arith}
use Rattle.csv.specs.Records.{fields_of}
use Rattle.optra_cert.proofs.CellLemmas.{length_behind}
use Rattle.optra_cert.proofs.LongRows.{long_told}
use Rattle.optra_cert.proofs.row_records.row_told.Goals as goal

pub returns-then-n-gt-MOST_FIELDS : goal.returns-then-n-gt-MOST_FIELDS
returns-then-n-gt-MOST_FIELDS g c =
    let frame = c.args.frame.now in
    let texts = g.F.RowText.texts_of frame.rows.now in
    let fields = fields_of c.args.row.now in
    long_told texts (g.met.F.RowText.are_texts frame.rows.now c.requires.can.apart) frame.inst.net.now frame.version fields c.args.n (omega (arith, c.requires.few, length_behind fields)) c.if-n-gt-MOST_FIELDS.true
