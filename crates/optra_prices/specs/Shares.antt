-- How much groups use of rows, beside the index of the groups that touch each row.
use Rattle.std.specs.Prelude.{◌≡◌, ℕ, zero, suc, ◌+◌, ◌-◌, ◌<◌, cond, nat_eq, List, length, map, slice_index}
use Rattle.optra_prices.specs.Indexes.{put_place}
use Rattle.optra_prices.specs.Tables.{group_at}
use Rattle.optra_prices.specs.Users.{rows_touched}
use Rattle.optra_prices.specs.Uses.{touch_uses}
use Rattle.optra_prices.specs.declared.index.Index.{Index}
use Rattle.optra_prices.specs.declared.numbering.Groups.{Groups}
use Rattle.optra_prices.specs.declared.touch.Touch.{Touch}

-- the sum of the values at the first places
abbrev pub sum_to : (ℕ → ℕ) → ℕ → ℕ
sum_to value zero = 0
sum_to value (suc n) = sum_to value n + value n

-- what stands at a place for the group
abbrev pub amount_at : Index → List ℕ → ℕ → ℕ → ℕ
amount_at users amounts g place = cond (nat_eq (slice_index users.items.items place) g) (slice_index amounts place) 0

-- what stands for the group at the first places of the row
abbrev pub share_to : Index → List ℕ → ℕ → ℕ → ℕ → ℕ
share_to users amounts row g count = sum_to (λ n. amount_at users amounts g (slice_index users.starts.items row + n)) count

-- what stands for the group at all places of the row
abbrev pub share_of : Index → List ℕ → ℕ → ℕ → ℕ
share_of users amounts row g = share_to users amounts row g (slice_index users.starts.items (row + 1) - slice_index users.starts.items row)

-- so much stands for a group at a row's places as its touches use of the row
abbrev pub AreShares : Groups → Index → List ℕ → Type 0
AreShares groups users amounts = (row g : ℕ) → g + 1 < length groups.starts.items → share_of users amounts row g ≡ touch_uses (group_at groups.starts.items groups.touches g) row

-- how much each touch uses
abbrev pub uses_touched : List Touch → List ℕ
uses_touched touches = map (λ touch. touch.uses) touches

-- what each touch uses stands where its group is put
abbrev pub ArePutUses : List Touch → List ℕ → Type 0
ArePutUses touches amounts = (place : ℕ) → place < length touches → slice_index amounts (put_place (rows_touched touches) place) ≡ slice_index (uses_touched touches) place
