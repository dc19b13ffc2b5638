-- Rows of two families together.
use Rattle.std.specs.Prelude.{ℕ, ◌+◌, ◌≤◌, ◌++◌, List, map, length, sum_by}
use Rattle.optra_walk.specs.Families.{Rows}
use Rattle.optra_rows.specs.declared.joining.Either.{Either}
use Rattle.optra_rows.specs.declared.joining.Either.TheVariants.{First, Second}

-- what the first or the second function says
abbrev pub either_of : {P Q X : Type 0} → (P → X) → (Q → X) → Either P Q → X
either_of f g (First p) = f p
either_of f g (Second q) = g q

-- the rows of both, each with its own capacity and uses
abbrev pub both_rows : {P Q : Type 0} → Rows P → Rows Q → Rows (Either P Q)
both_rows p q = record {
  is_row = either_of p.is_row q.is_row;
  capacity = either_of p.capacity q.capacity;
  uses = λ kind leg. either_of (p.uses kind leg) (q.uses kind leg);
}

-- the rows of the first, and then those of the second
abbrev pub both_lists : {P Q : Type 0} → List P → List Q → List (Either P Q)
both_lists ps qs = map First ps ++ map Second qs

-- the rows of both families that a leg uses are few, and it uses little of them
pub record AreFew {P Q : Type 0} (use_p : P → ℕ) (use_q : Q → ℕ) (ps : List P) (qs : List Q) : Type 0 where
  pub few : length ps + length qs ≤ 8192
  pub total : sum_by use_p ps + sum_by use_q qs ≤ 8192
