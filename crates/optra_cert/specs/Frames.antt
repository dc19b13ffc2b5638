-- What a family and a version must keep so that rows can be read.
use Rattle.std.specs.Prelude.{ℕ, ◌≤◌}
use Rattle.optra_cert.specs.RowTexts.{RowTexts, AreApart}

-- the kinds are apart, and the version is from 1 to the family's
pub record CanRead {R : Type 0} (texts : RowTexts R) (version : ℕ) : Type 0 where
  pub apart : AreApart texts.kinds
  pub least : 1 ≤ version
  pub most : version ≤ texts.version
