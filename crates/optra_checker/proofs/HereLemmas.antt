-- What is true of each item of a tree, at the item whose node is open.
use Rattle.std.proofs.Common.{◌≡◌, ℕ, ◌<◌, List, length, get_or, sym, subst}
use Rattle.std.specs.Prelude.{All}

-- the element at hand has what all elements have
pub all_here : {X : Type 0} (P : X → Type 0) (xs : List X) (i : ℕ) (x : X) → i < length xs → x ≡ get_or xs i x → All P xs → P x
all_here P xs i x l is all = subst P (sym is) (all i x l)
