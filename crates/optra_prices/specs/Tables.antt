-- What the planner keeps of rows and arcs while prices change.
use Rattle.std.specs.Prelude.{◌≡◌, ℕ, ◌+◌, ◌-◌, ◌<◌, ◌≤◌, Bool, false, List, [], ◌++◌, length, All, sum_by, Option, Some, slice_get, slice_index, slice_index_or}
use Rattle.std.specs.Prelude.{ℤ, pos, ◌-ℤ◌, ◌*ℤ◌, ◌≤ℤ◌}
use Rattle.std.specs.Int.{w64, int_wrapping_sub}
use Rattle.std.specs.List.{AllZip, slice_range}
use Rattle.std.specs.List.Sorted.{IsStrictlySortedBy}
use Rattle.std.specs.declared.cmp.Ordering.{Ordering}
use Rattle.std.specs.BTreeMap.{is_at}
use Rattle.std.specs.Map.{keys_of, lookup}
use Rattle.optra_bid.specs.Specs.{IsBetween}
use Rattle.optra_dag.specs.NarrowSums.{IsWithin}
use Rattle.optra_node.specs.Duals.{sum_of}
use Rattle.optra_prices.specs.Arcs.{IsArcValue}
use Rattle.optra_prices.specs.declared.touch.Touch.{Touch}
use Rattle.optra_prices.specs.ArcTerms.{ArcTerm}

-- the rows ascend, each of which stands with its number
abbrev pub AreUp : {R : Type 0} → (R → R → Ordering) → List (R × ℕ) → Type 0
AreUp cmp order = IsStrictlySortedBy cmp (keys_of order)

-- the number that stands with the row
abbrev pub number_in : {R : Type 0} → (R → R → Ordering) → List (R × ℕ) → R → Option ℕ
number_in cmp order row = lookup (is_at (cmp row)) order

-- the rows ascend; each number leads to its row, and each row to its number
pub record IsNumbering {R : Type 0} (cmp : R → R → Ordering) (order : List (R × ℕ)) (rows : List R) : Type 0 where
  pub ordered : AreUp cmp order
  pub found : (row : R) (n : ℕ) → number_in cmp order row ≡ Some n → slice_get rows n ≡ Some row
  pub known : (n : ℕ) (row : R) → slice_get rows n ≡ Some row → number_in cmp order row ≡ Some n

-- rows keep their numbers
abbrev pub Extends : {R : Type 0} → List R → List R → Type 0
Extends {R} old new = (n : ℕ) (row : R) → slice_get old n ≡ Some row → slice_get new n ≡ Some row

-- the touch has the row's number and the use of it
pub record IsTouch {R : Type 0} (numbered : List R) (uses : R → ℕ) (touch : Touch) (row : R) : Type 0 where
  pub number : slice_get numbered touch.row ≡ Some row
  pub use_is : touch.uses ≡ uses row

-- one touch for each row that is used
abbrev pub AreTouches : {R : Type 0} → List R → (R → ℕ) → List Touch → List R → Type 0
AreTouches numbered uses touches used = AllZip (IsTouch numbered uses) touches used

-- touches of rows that are used were added
pub record AddsTouches {R : Type 0} (numbered : List R) (uses : R → ℕ) (used : List R) (old new : List Touch) : Type 0 where
  pub more : List Touch
  pub is : new ≡ old ++ more
  pub are : AreTouches numbered uses more used

-- the touches of group g, which stand from its start up to the next one
abbrev pub group_at : List ℕ → List Touch → ℕ → List Touch
group_at starts touches g = slice_range touches (slice_index starts g) (slice_index starts (g + 1))

-- how much the touches use in all
abbrev pub uses_in_all : List Touch → ℕ
uses_in_all touches = sum_by (λ touch. touch.uses) touches

-- groups stand one after the other; the first one is empty, and none uses more than a leg may
pub record AreGroups (starts : List ℕ) (touches : List Touch) : Type 0 where
  pub two : 1 < length starts
  pub first : slice_index starts 0 ≡ 0
  pub ordered : (g : ℕ) → g + 1 < length starts → slice_index starts g ≤ slice_index starts (g + 1)
  pub within : (g : ℕ) → g < length starts → slice_index starts g ≤ length touches
  pub last : slice_index starts (length starts - 1) ≡ length touches
  pub few : (g : ℕ) → g + 1 < length starts → uses_in_all (group_at starts touches g) ≤ 8192
  pub none : group_at starts touches 0 ≡ []

-- groups stay as they are
pub record KeepsGroups (starts : List ℕ) (touches : List Touch) (starts' : List ℕ) (touches' : List Touch) : Type 0 where
  pub more : length starts ≤ length starts'
  pub same : (g : ℕ) → g + 1 < length starts → group_at starts' touches' g ≡ group_at starts touches g

-- a price of a row in the vector of prices
abbrev pub IsRowPrice : ℤ → Type 0
IsRowPrice price = IsBetween (pos 0) (pos 2000000000000) price

-- a price of a group
abbrev pub IsGroupPrice : ℤ → Type 0
IsGroupPrice price = IsBetween (pos 0) (pos 16384000000000000) price

-- prices of groups, none above the most
pub record AreUpTo (most : ℤ) (grouped : List ℤ) : Type 0 where
  pub range : All IsGroupPrice grouped
  pub high : IsGroupPrice most
  pub each : All (λ price. price ≤ℤ most) grouped

-- the price of a group, by the prices of rows by number
abbrev pub group_price : List ℤ → List Touch → ℤ
group_price prices touches = sum_of (λ touch. slice_index_or prices touch.row (pos 0) *ℤ pos touch.uses) touches

-- the price of each group
abbrev pub AreGroupPrices : List ℤ → List ℕ → List Touch → List ℤ → Type 0
AreGroupPrices prices starts touches grouped = (g : ℕ) → g + 1 < length starts → slice_index_or grouped g (pos 0) ≡ group_price prices (group_at starts touches g)

-- past the last arc
abbrev pub no_arc : ArcTerm
no_arc = record { value = pos 0; group = 0; allowed = false }

-- whether an arc may be taken
abbrev pub allows_by : List ArcTerm → ℕ → Bool
allows_by arcs k = (slice_index_or arcs k no_arc).allowed

-- what an arc weighs at prices of groups
abbrev pub weight_by : List ArcTerm → List ℤ → ℕ → ℤ
weight_by arcs grouped k = (slice_index_or arcs k no_arc).value -ℤ slice_index_or grouped (slice_index_or arcs k no_arc).group (pos 0)

-- the same in 64 bits
abbrev pub narrow_weight_by : List ArcTerm → List ℤ → ℕ → ℤ
narrow_weight_by arcs grouped k = int_wrapping_sub w64 (slice_index_or arcs k no_arc).value (slice_index_or grouped (slice_index_or arcs k no_arc).group (pos 0))

-- no arc weighs more than the most in size at prices of groups
pub record AreWeighedTo (most : ℕ) (arcs : List ArcTerm) (grouped : List ℤ) : Type 0 where
  pub values : All (λ arc. IsArcValue arc.value) arcs
  pub range : All IsGroupPrice grouped
  pub weights : (k : ℕ) → k < length arcs → IsWithin most (weight_by arcs grouped k)
