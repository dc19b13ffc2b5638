-- Where two weights of arcs agree.
use Rattle.std.specs.Prelude.{◌≡◌, ℕ, ◌<◌, Bool, ℤ}

-- of the arcs below a number, both allow the same ones, and give each the same weight
pub record AgreeBelow (count : ℕ) (allows : ℕ → Bool) (weight : ℕ → ℤ) (allows' : ℕ → Bool) (weight' : ℕ → ℤ) : Type 0 where
  pub allowed : (k : ℕ) → k < count → allows' k ≡ allows k
  pub weighed : (k : ℕ) → k < count → weight' k ≡ weight k
