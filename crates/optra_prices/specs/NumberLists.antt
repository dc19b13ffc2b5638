-- Lists of numbers, however they are held.
use Rattle.std.specs.Prelude.{ℕ, List}

-- numbers, one after the other
pub record NumberList : Type 0 where
  pub items : List ℕ
