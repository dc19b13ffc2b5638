-- Rows that are named at once, and the touches of them.
use Rattle.std.proofs.Common.{◌≡◌, ℕ, zero, suc, ◌+◌, List, [], ◌∷◌, ◌++◌, drop, append_assoc, slice_get, refl, ap, ◌∙◌, arith}
use Rattle.std.proofs.lemmas.Option.{none-some}
use Rattle.optra_prices.specs.declared.touch.Touch.{Touch}
use Rattle.optra_prices.specs.Tables.{Extends, IsTouch, AddsTouches}
use Rattle.optra_prices.proofs.ListLemmas.{zip_append}
use Rattle.optra_prices.proofs.NumberLemmas.{touches_kept}

-- an element of those from a place on
pub at_drop : {X : Type 0} (n : ℕ) (xs : List X) (k : ℕ) → slice_get (drop n xs) k ≡ slice_get xs (n + k)
at_drop zero xs k = ap (slice_get xs) (let e : k ≡ 0 + k = omega arith in e)
at_drop (suc n) [] k = refl
at_drop (suc n) (x ∷ xs) k = at_drop n xs k ∙ ap (slice_get (x ∷ xs)) (let e : suc (n + k) ≡ suc n + k = omega arith in e)

-- rows keep their numbers where others are added
pub append_extends : {R : Type 0} (old more : List R) → Extends old (old ++ more)
append_extends [] more n row at = absurd (none-some row at)
append_extends (x ∷ old) more zero row at = at
append_extends (x ∷ old) more (suc n) row at = append_extends old more n row at

-- the touches of some rows, and then those of others
pub adds_both : {R : Type 0} (numbered after : List R) (uses : R → ℕ) (first rest : List R) (old mid new : List Touch) → AddsTouches numbered uses first old mid
    → Extends numbered after → AddsTouches after uses rest mid new → AddsTouches after uses (first ++ rest) old new
adds_both numbered after uses first rest old mid new adds extends more = record {
  more = adds.more ++ more.more;
  is = more.is ∙ ap (λ (xs : List Touch). xs ++ more.more) adds.is ∙ append_assoc old adds.more more.more;
  are = zip_append (IsTouch after uses) adds.more more.more first rest (touches_kept numbered after uses extends adds.more first adds.are) more.are;
}
