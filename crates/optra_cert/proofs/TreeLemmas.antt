-- A price of a tree that is read.
use Rattle.std.proofs.Common.{◌≡◌, ◌-◌, ◌∷◌, ◌++◌, [], true, sym, ap, ◌∙◌}
use Rattle.std.specs.Prelude.{ℤ, Ok}
use Rattle.std.specs.declared.cmp.Ordering.{Ordering}
use Rattle.optra_cert.specs.Steps.{TreeSoFar, filled, is_above, price_added}

-- a price of a row that is above is put, and then the leaf is filled
pub price_goes : {R : Type 0} (cmp : R → R → Ordering) (tree put new : TreeSoFar R) (entry : R × ℤ) → is_above cmp tree.prices entry.0 ≡ true
    → put ≡ record tree { due = tree.due - 1; prices = tree.prices ++ entry ∷ [] } → new ≡ filled put → price_added cmp tree entry ≡ Ok new
unfolding price_added
price_goes {R} cmp tree put new entry above is same =
    rw above (ap (λ (t : TreeSoFar R). Ok (filled t)) (sym is) ∙ ap (λ (t : TreeSoFar R). Ok t) (sym same))
