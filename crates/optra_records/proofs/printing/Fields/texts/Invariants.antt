-- The fields so far, with the texts that are left, are all fields.
use Rattle.std.proofs.Common.{◌≡◌, ◌++◌, drop, map}
use Rattle.optra_records.proofs.printing.Fields.texts.Given as goal

abbrev pub invariant-texts : goal.invariant-texts
invariant-texts l = l.self ++ map (λ text. text.now) (drop l.text-index l.texts) ≡ l.fn.self ++ map (λ text. text.now) l.texts
