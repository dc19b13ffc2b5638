-- What an arc of a bid's graph adds and touches.
use Rattle.std.specs.Prelude.{ℕ, ℤ, Bool}

-- what it adds apart from the prices of rows, the group that it touches, and whether it may be taken
pub record ArcTerm : Type 0 where
  pub value : ℤ
  pub group : ℕ
  pub allowed : Bool
