-- Which groups touch a row.
use Rattle.std.specs.Prelude.{ℕ, ◌+◌, ◌<◌, List, length, map, Contains}
use Rattle.optra_prices.specs.Indexes.{IndexHas}
use Rattle.optra_prices.specs.Tables.{group_at}
use Rattle.optra_prices.specs.declared.index.Index.{Index}
use Rattle.optra_prices.specs.declared.numbering.Groups.{Groups}
use Rattle.optra_prices.specs.declared.touch.Touch.{Touch}

-- the rows that are touched
abbrev pub rows_touched : List Touch → List ℕ
rows_touched touches = map (λ touch. touch.row) touches

-- the touches are of the row, among others
abbrev pub IsTouched : List Touch → ℕ → Type 0
IsTouched touches row = Contains (rows_touched touches) row

-- each group is one of those of each row that it touches
abbrev pub FindsUsers : Groups → Index → Type 0
FindsUsers groups users = (g row : ℕ) → g + 1 < length groups.starts.items → IsTouched (group_at groups.starts.items groups.touches g) row → IndexHas users row g
