-- What is printed so far, with the legs that are left, is the whole.
use Rattle.std.proofs.Common.{◌≡◌, ◌++◌, map, drop, codes}
use Rattle.optra_records.specs.Texts.{records_text}
use Rattle.optra_cert.specs.CertTexts.{leg_record}
use Rattle.optra_cert.proofs.certificate_writer.print_legs.Given as goal

abbrev pub invariant-legs : goal.invariant-legs
invariant-legs l =
    l.printer ++ records_text (map (leg_record l.net (codes "leg") l.bid) (drop l.leg-index l.legs)) ≡ l.fn.printer ++ records_text (map (leg_record l.net (codes "leg") l.bid) l.legs)
