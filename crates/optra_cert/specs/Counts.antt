-- How many rows families have.
use Rattle.std.specs.Prelude.{◌≡◌, ℕ, ◌+◌, ◌<◌, true, List, length, All}
use Rattle.std.specs.List.{AllPairs}
use Rattle.std.specs.declared.cmp.Ordering.{Ordering}
use Rattle.std.specs.declared.cmp.Ordering.TheVariants.{Less}
use Rattle.optra_walk.specs.Families.{Rows}
use Rattle.optra_rows.specs.declared.joining.Either.{Either}
use Rattle.optra_rows.specs.Eithers.{both_rows}

-- an ascending list of rows has fewer than so many
abbrev pub AreFewerThan : {R : Type 0} → (R → R → Ordering) → Rows R → ℕ → Type 0
AreFewerThan {R} cmp rows most =
    (list : List R) → AllPairs (λ a b. cmp a b ≡ Less) list → All (λ row. rows.is_row row ≡ true) list → length list < most

-- two families together have fewer rows than the sum of what each has fewer than
abbrev pub AreFewTogether : {P Q : Type 0} → (P → P → Ordering) → (Q → Q → Ordering) → (Either P Q → Either P Q → Ordering) → Rows P → Rows Q → Type 0
AreFewTogether cmp_p cmp_q cmp p q =
    (m n : ℕ) → AreFewerThan cmp_p p m → AreFewerThan cmp_q q n → AreFewerThan cmp (both_rows p q) (m + n)
