-- Answers that are yes or no.
use Rattle.std.proofs.Common.{◌≡◌, Bool, false, sym, ◌∙◌}
use Rattle.std.specs.Prelude.{IsTrue}
use Rattle.std.proofs.lemmas.Bool.{false≢true}

-- an answer that is no isn't yes
pub not_both : (r : Bool) → r ≡ false → IsTrue r → ⊥
not_both r e t = false≢true (sym e ∙ t)
