-- The printed verdict on a certificate.
use Rattle.std.specs.Prelude.{ℕ, List, [], ◌∷◌, ◌++◌, codes}
use Rattle.std.specs.Fmt.{decimal, signed_decimal}
use Rattle.optra_records.specs.Reading.{Record}
use Rattle.optra_records.specs.Texts.{record_text}
use Rattle.optra_text.specs.declared.verdicts.VerdictView.{VerdictView}
use Rattle.optra_text.specs.declared.verdicts.VerdictView.TheVariants.{Yes, No, Unreadable}

-- the code of a reason, and of a fault, which count from 1
abbrev pub reason_code : ℕ → List ℕ
reason_code reason = codes "K" ++ decimal reason

abbrev pub fault_code : ℕ → List ℕ
fault_code code = codes "C" ++ decimal code

-- verdict,yes,<revenue>,<bound> or verdict,no,<reason> or verdict,unreadable,<row>,<fault>
abbrev pub verdict_record : VerdictView → Record
verdict_record (Yes revenue bound) = codes "verdict" ∷ codes "yes" ∷ signed_decimal revenue ∷ signed_decimal bound ∷ []
verdict_record (No reason) = codes "verdict" ∷ codes "no" ∷ reason_code reason ∷ []
verdict_record (Unreadable row code) = codes "verdict" ∷ codes "unreadable" ∷ decimal row ∷ fault_code code ∷ []

abbrev pub verdict_text_of : VerdictView → List ℕ
verdict_text_of view = record_text (verdict_record view)
