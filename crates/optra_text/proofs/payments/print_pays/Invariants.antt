-- What is printed so far, with what is left, is the whole.
use Rattle.std.proofs.Common.{◌≡◌, ◌++◌, map, drop}
use Rattle.optra_records.specs.Texts.{records_text}
use Rattle.optra_text.specs.PaymentTexts.{pay_record}
use Rattle.optra_text.proofs.payments.print_pays.Given as goal

abbrev pub invariant-pays : goal.invariant-pays
invariant-pays l = l.printer ++ records_text (map pay_record (drop l.pay-index l.pays)) ≡ l.fn.printer ++ records_text (map pay_record l.pays)
