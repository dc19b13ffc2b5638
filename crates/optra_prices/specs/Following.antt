-- A price path under way: its candidates so far, and the best of them.
use Rattle.std.specs.Prelude.{◌≡◌, ◌⊎◌, ℕ, ◌+◌, List, length, All, Some, slice_get}
use Rattle.std.specs.Prelude.{ℤ, ◌≤ℤ◌, ◌<ℤ◌}
use Rattle.std.specs.declared.cmp.Ordering.{Ordering}
use Rattle.optra_node.specs.Duals.{PriceList}
use Rattle.optra_prices.specs.Paths.{IsPathSoFar, IsPricePath, IsFirstLeast}
use Rattle.optra_prices.specs.Levels.{IsMove, HoldsPrices}
use Rattle.optra_prices.specs.Terms.{Setting}
use Rattle.optra_prices.specs.Courses.{listed_by, candidate_at, IsCourse, IsPriced}
use Rattle.optra_prices.specs.declared.Priced.{Priced}
use Rattle.optra_prices.specs.declared.arc_tables.ArcTables.{ArcTables}
use Rattle.optra_prices.specs.declared.following.Best.{Best}

-- prices of less dual value take the place of those that were kept
abbrev pub KeepsLess : {R : Type 0} → ArcTables R → Best → Best → Type 0
KeepsLess c old new =
    ((c.value <ℤ old.value) × HoldsPrices c.levels new.prices.items × (new.value ≡ c.value))
    ⊎ ((old.value ≤ℤ c.value) × (new.prices.items ≡ old.prices.items) × (new.value ≡ old.value))

-- the first candidate of least dual value has the prices and the dual value that are kept
pub record IsKept {R : Type 0} (c : ArcTables R) (best : Best) (path : List (Priced R)) : Type 0 where
  pub moves : All (IsMove (length c.numbering.rows.items)) best.prices.items
  pub candidate : Priced R
  pub prices : candidate.prices ≡ listed_by c best.prices.items
  pub value_is : candidate.dual.value ≡ best.value
  pub least : IsFirstLeast path candidate

-- the prices are those of the last of the candidates so far, and the first one of least dual value is kept
pub record IsFollowing {R : Type 0} (cmp : R → R → Ordering) (s : Setting R) (start : PriceList R) (steps : ℕ) (incumbent : ℤ) (c : ArcTables R) (best : Best) (path : List (Priced R)) : Type 0 where
  pub priced : IsPriced cmp s c
  pub so_far : IsPathSoFar cmp s.net s.rows s.bids s.node start steps incumbent path
  pub last : (n : ℕ) → n + 1 ≡ length path → slice_get path n ≡ Some (candidate_at s.rows c)
  pub kept : IsKept c best path

-- the path has ended
pub record IsFollowed {R : Type 0} (cmp : R → R → Ordering) (s : Setting R) (start : PriceList R) (steps : ℕ) (incumbent : ℤ) (c : ArcTables R) (best : Best) : Type 0 where
  pub course : IsCourse cmp s c
  pub path : List (Priced R)
  pub is_path : IsPricePath cmp s.net s.rows s.bids s.node start steps incumbent path
  pub kept : IsKept c best path
