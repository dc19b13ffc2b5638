-- Lists of rows, of which the first ones are told by numbers.
use Rattle.std.specs.Prelude.{◌≡◌, ℕ, List, ◌++◌, map, All, Option, None, Some, IfSome, slice_get}

-- a list
pub record Listed (X : Type 0) : Type 0 where
  pub items : List X

-- the rows that the numbers tell, and then the others
abbrev pub rows_in : {R : Type 0} → (ℕ → R) → List ℕ → List R → List R
rows_in row_of codes wide = map row_of codes ++ wide

-- each number is that of the row which it tells
abbrev pub AreCodes : {R : Type 0} → (R → Option ℕ) → (ℕ → R) → List ℕ → Type 0
AreCodes code_of row_of codes = All (λ code. code_of (row_of code) ≡ Some code) codes

-- the first of the other rows is there because it has no number
abbrev pub StartsUntold : {R : Type 0} → (R → Option ℕ) → List R → Type 0
StartsUntold code_of wide = IfSome (slice_get wide 0) (λ row. code_of row ≡ None)
