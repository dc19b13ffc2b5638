-- What is printed so far, with the legs of the bids that are left, is the whole.
use Rattle.std.proofs.Common.{◌≡◌, ◌++◌, drop}
use Rattle.optra_records.specs.Texts.{records_text}
use Rattle.optra_cert.specs.CertTexts.{leg_records}
use Rattle.optra_cert.proofs.certificate_writer.print_walks.Given as goal

abbrev pub invariant-walks : goal.invariant-walks
invariant-walks l = l.printer ++ records_text (leg_records l.net l.i (drop l.i l.walks)) ≡ l.fn.printer ++ records_text (leg_records l.net 0 l.walks)
