-- How much the paths of replies use of rows, by the numbers of rows.
use Rattle.std.specs.Prelude.{◌≡◌, ℕ, ◌+◌, ◌-◌, ◌<◌, ◌≤◌, cond, nat_eq, List, [], ◌∷◌, length, map, sum_by, All, slice_index, slice_index_or, Vec}
use Rattle.std.specs.Global.{Global}
use Rattle.std.specs.List.{slice_range}
use Rattle.optra_prices.specs.NarrowTouches.{touch_of}
use Rattle.optra_prices.specs.Tables.{group_at, no_arc, AreGroups}
use Rattle.optra_prices.specs.declared.numbering.BidTable.{BidTable}
use Rattle.optra_prices.specs.declared.numbering.Groups.{Groups}
use Rattle.optra_prices.specs.declared.numbering.Standing.{Standing}
use Rattle.optra_prices.specs.declared.touch.Touch.{Touch}

-- how much one touch uses of the row with number n
abbrev pub touch_use : Touch → ℕ → ℕ
touch_use touch n = cond (nat_eq touch.row n) touch.uses 0

-- how much touches use of the row with number n
abbrev pub touch_uses : List Touch → ℕ → ℕ
touch_uses touches n = sum_by (λ touch. touch_use touch n) touches

-- what an arc touches
abbrev pub arc_touches : Groups → BidTable → ℕ → List Touch
arc_touches groups table k = group_at groups.starts.items groups.touches (slice_index_or table.arcs k no_arc).group

-- how much the arcs of a path use of the row with number n
abbrev pub path_uses : Groups → BidTable → List ℕ → ℕ → ℕ
path_uses groups table path n = sum_by (λ k. touch_uses (arc_touches groups table k) n) path

-- what a group touches
abbrev pub touches_at : Groups → ℕ → List Touch
touches_at groups g = group_at groups.starts.items groups.touches g

-- how much the groups of a path use of the row with number n
abbrev pub list_uses : Groups → List ℕ → ℕ → ℕ
list_uses groups list n = sum_by (λ g. touch_uses (touches_at groups g) n) list

-- a part of the touches, from one place up to another
abbrev pub IsSpan : List Touch → ℕ × ℕ → Type 0
IsSpan touches span = (span.0 ≤ span.1) × (span.1 ≤ length touches)

-- how much the touches of all parts use of the row with number n
abbrev pub spans_use : List Touch → List (ℕ × ℕ) → ℕ → ℕ
spans_use touches spans n = sum_by (λ span. touch_uses (slice_range touches span.0 span.1) n) spans

-- how much of the row with number n is used by rows, each of which is used once
abbrev pub rows_use : List ℕ → ℕ → ℕ
rows_use rows n = sum_by (λ row. touch_use (touch_of row) n) rows

-- how much the groups of all paths use of the row with number n
abbrev pub all_uses : Groups → List (List ℕ) → ℕ → ℕ
all_uses groups [] n = 0
all_uses groups (list ∷ lists) n = list_uses groups list n + all_uses groups lists n

-- the groups of the paths of the replies
abbrev pub lists_of : List Standing → List (List ℕ)
lists_of standings = map (λ standing. standing.groups.items) standings

-- the groups of the paths that are counted
abbrev pub lists_in : List (Vec ℕ Global) → List (List ℕ)
lists_in counted = map (λ list. list.items) counted

-- no path has a group
abbrev pub AreEmpty : List (List ℕ) → Type 0
AreEmpty lists = (n : ℕ) → slice_index_or lists n [] ≡ []

-- so much is used of each row as the groups of all paths use
abbrev pub AreUses : Groups → List (List ℕ) → List ℕ → Type 0
AreUses groups lists uses = (n : ℕ) → n < length uses → slice_index uses n ≡ all_uses groups lists n

-- the groups of so many paths, and so much is used of each row as they use
pub record AreCounted (groups : Groups) (count : ℕ) (lists : List (List ℕ)) (uses : List ℕ) : Type 0 where
  pub count_is : length lists ≡ count
  pub uses_are : AreUses groups lists uses

-- so much more of each row is used
pub record AddsUses (extra : ℕ → ℕ) (old new : List ℕ) : Type 0 where
  pub count : length new ≡ length old
  pub each : (n : ℕ) → n < length old → slice_index new n ≡ slice_index old n + extra n

-- so much less of each row is used
pub record TakesUses (extra : ℕ → ℕ) (old new : List ℕ) : Type 0 where
  pub count : length new ≡ length old
  pub each : (n : ℕ) → n < length old → slice_index new n ≡ slice_index old n - extra n

-- what the groups of a path use is counted in place of what those of another one use that were counted
pub record CountsList (groups : Groups) (before list : List ℕ) (old new : List ℕ) : Type 0 where
  pub count : length new ≡ length old
  pub each : (n : ℕ) → n < length old → list_uses groups before n ≤ slice_index old n
      → slice_index new n + list_uses groups before n ≡ slice_index old n + list_uses groups list n

-- each arc of the table has a group
pub record HasGroups (groups : Groups) (table : BidTable) : Type 0 where
  pub are : AreGroups groups.starts.items groups.touches
  pub within : All (λ arc. arc.group + 1 < length groups.starts.items) table.arcs
