-- The last field stands alone.
use Rattle.std.proofs.Common.{◌-◌, ◌∙◌, ap, ◌∷◌, [], List, ℕ, arith, subst, refl}
use Rattle.csv.specs.Records.{fields_of}
use Rattle.optra_cert.specs.Forms.{field_at}
use Rattle.optra_cert.specs.Outcomes.{Gives}
use Rattle.optra_cert.specs.RecordFields.{amount_told}
use Rattle.optra_cert.proofs.CellLemmas.{last_is, no_last}
use Rattle.optra_cert.proofs.row_records.last_amount.Goals as goal

pub returns-then-len-lt2 : goal.returns-then-len-lt2
unfolding amount_told
returns-then-len-lt2 c = rw (no_last (fields_of c.args.row.now) (omega (arith, c.len.ensures, c.if-len-lt2.true))) refl

pub returns : goal.returns
returns c = rw (last_is (fields_of c.args.row.now) (omega (arith, c.len.ensures, c.if-len-lt2.false)))
    (subst (λ (f : List ℕ). Gives (λ n. n) c.amount_in.result (amount_told (f ∷ []))) (c.field.ensures ∙ ap (λ n. field_at (fields_of c.args.row.now) (n - 1)) c.len-2.ensures) c.amount_in.ensures)
