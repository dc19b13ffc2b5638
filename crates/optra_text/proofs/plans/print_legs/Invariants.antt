-- What is printed so far, with the legs that are left, is the whole.
use Rattle.std.proofs.Common.{◌≡◌, ◌++◌, map, drop}
use Rattle.optra_records.specs.Texts.{records_text}
use Rattle.optra_text.specs.PlanTexts.{leg_record}
use Rattle.optra_text.proofs.plans.print_legs.Given as goal

abbrev pub invariant-legs : goal.invariant-legs
invariant-legs l =
    l.printer ++ records_text (map (leg_record l.net l.kind) (drop l.leg-index l.legs)) ≡ l.fn.printer ++ records_text (map (leg_record l.net l.kind) l.legs)
