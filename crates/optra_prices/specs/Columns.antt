-- The prices of groups, and how they have moved since the bids were searched.
use Rattle.std.specs.Prelude.{◌≡◌, ◌⊎◌, ℕ, ◌+◌, ◌<◌, List, length, All, Contains, slice_index_or}
use Rattle.std.specs.Prelude.{ℤ, pos, negsuc, ◌+ℤ◌, ◌*ℤ◌, ◌≤ℤ◌}
use Rattle.optra_bid.specs.Specs.{IsBetween}
use Rattle.optra_prices.specs.Shares.{AreShares}
use Rattle.optra_prices.specs.Tables.{group_at, group_price, AreGroups, AreGroupPrices, IsGroupPrice}
use Rattle.optra_prices.specs.Indexes.{IsIndex, IndexHas}
use Rattle.optra_prices.specs.Users.{FindsUsers}
use Rattle.optra_prices.specs.Uses.{touch_uses}
use Rattle.optra_prices.specs.declared.columns.Columns.{Columns}
use Rattle.optra_prices.specs.declared.columns.Mark.{Mark}
use Rattle.optra_prices.specs.declared.columns.Mark.TheVariants.{Still, Due, Rose, Fell}
use Rattle.optra_prices.specs.declared.numbering.Groups.{Groups}

-- past the last group nothing moves
abbrev pub mark_at : List Mark → ℕ → Mark
mark_at marks g = slice_index_or marks g Still

abbrev pub price_at : List ℤ → ℕ → ℤ
price_at grouped g = slice_index_or grouped g (pos 0)

-- each group that is marked is listed
abbrev pub AreListed : List Mark → List ℕ → Type 0
AreListed marks due = (g : ℕ) → (mark_at marks g ≡ Still → ⊥) → Contains due g

-- groups with a price and a mark each, and lists of what is marked and of what touches a row
pub record IsColumns (groups : Groups) (c : Columns) : Type 0 where
  pub groups_are : c.groups ≡ groups
  pub are : AreGroups c.groups.starts.items c.groups.touches
  pub users_are : IsIndex c.users
  pub found : FindsUsers c.groups c.users
  pub shares : AreShares c.groups c.users c.amounts.items
  pub running_count : length c.running.items ≡ length c.grouped.items
  pub count : length c.grouped.items + 1 ≡ length c.groups.starts.items
  pub mark_count : length c.marks.items ≡ length c.grouped.items
  pub range : All IsGroupPrice c.grouped.items
  pub high : IsGroupPrice c.highest
  pub most : All (λ price. price ≤ℤ c.highest) c.grouped.items
  pub listed : AreListed c.marks.items c.due.items

abbrev pub IsDue : Columns → ℕ → Type 0
IsDue c g = mark_at c.marks.items g ≡ Due

-- no group is marked
abbrev pub AreStill : Columns → Type 0
AreStill c = (g : ℕ) → mark_at c.marks.items g ≡ Still

-- as many marks, each of which stays or becomes due
pub record KeepsMarks (old new : List Mark) : Type 0 where
  pub count : length new ≡ length old
  pub marks : (g : ℕ) → (mark_at new g ≡ mark_at old g) ⊎ (mark_at new g ≡ Due)

-- so do they, and these groups become due
pub record MarksGroups (groups : List ℕ) (old new : List Mark) : Type 0 where
  pub keeps : KeepsMarks old new
  pub due : (g : ℕ) → g < length old → Contains groups g → mark_at new g ≡ Due

-- prices stay, and marks stay or become due
pub record MarksMore (old new : Columns) : Type 0 where
  pub users : new.users ≡ old.users
  pub prices : new.grouped ≡ old.grouped
  pub running : new.running ≡ old.running
  pub marks : (g : ℕ) → (mark_at new.marks.items g ≡ mark_at old.marks.items g) ⊎ IsDue new g

-- so do they, and the groups that touch the row are due
pub record MarksRow (row : ℕ) (old new : Columns) : Type 0 where
  pub more : MarksMore old new
  pub users_due : (g : ℕ) → g < length old.marks.items → IndexHas old.users row g → IsDue new g

-- so it is, whatever prices the groups have now
abbrev pub MarksMovedRow : ℕ → Columns → Columns → Type 0
MarksMovedRow row old new = MarksRow row old (record new { running = old.running })

-- the groups have the prices that they have at the prices of rows now
abbrev pub AreRunning : List ℤ → Columns → Type 0
AreRunning prices c = AreGroupPrices prices c.groups.starts.items c.groups.touches c.running.items

-- the group has its price and no mark, or is due
abbrev pub IsPricedOrDue : List ℤ → Columns → ℕ → Type 0
IsPricedOrDue prices c g = IsDue c g ⊎ ((mark_at c.marks.items g ≡ Still) × (price_at c.grouped.items g ≡ group_price prices (group_at c.groups.starts.items c.groups.touches g)))

-- each group has its price, or is due; the prices that the groups have now are known
pub record PricesAllButDue (prices : List ℤ) (c : Columns) : Type 0 where
  pub each : (g : ℕ) → g + 1 < length c.groups.starts.items → IsPricedOrDue prices c g
  pub running : AreRunning prices c

-- by how much a price of a row may move
abbrev pub IsPriceMove : ℤ → Type 0
IsPriceMove by = IsBetween (negsuc 1999999999999) (pos 2000000000000) by

-- by how much a price of a group may move
abbrev pub IsGroupMove : ℤ → Type 0
IsGroupMove by = IsBetween (negsuc 16383999999999999) (pos 16384000000000000) by

-- a price of a group on the way from one price of a row to another
abbrev pub IsMovedPrice : ℤ → Type 0
IsMovedPrice price = IsBetween (negsuc 32767999999999999) (pos 32768000000000000) price

-- the prices that the groups have now move as the price of the row moves by so much
pub record MovesRunning (row : ℕ) (by : ℤ) (old new : Columns) : Type 0 where
  pub count : length new.running.items ≡ length old.running.items
  pub each : (g : ℕ) → g + 1 < length old.groups.starts.items → price_at new.running.items g ≡ price_at old.running.items g +ℤ by *ℤ pos (touch_uses (group_at old.groups.starts.items old.groups.touches g) row)

-- the mark tells how the price has moved
pub record MarkTells (old new : ℤ) (mark : Mark) : Type 0 where
  pub unless_fell : (mark ≡ Fell → ⊥) → old ≤ℤ new
  pub unless_rose : (mark ≡ Rose → ⊥) → new ≤ℤ old
  pub told : mark ≡ Due → ⊥

-- the marks tell how the prices have moved
abbrev pub MarksTell : List ℤ → List ℤ → List Mark → Type 0
MarksTell old new marks = (g : ℕ) → MarkTells (price_at old g) (price_at new g) (mark_at marks g)

-- where the group was due it has its price, and its mark tells how it has moved; all else is as it was
pub record Reprices (prices : List ℤ) (g : ℕ) (old new : Columns) : Type 0 where
  pub due_is : new.due ≡ old.due
  pub running_is : new.running ≡ old.running
  pub priced : IsDue old g → price_at new.grouped.items g ≡ group_price prices (group_at old.groups.starts.items old.groups.touches g)
  pub marked : IsDue old g → MarkTells (price_at old.grouped.items g) (price_at new.grouped.items g) (mark_at new.marks.items g)
  pub kept : (h : ℕ) → ((h ≡ g) × IsDue old h → ⊥) → (price_at new.grouped.items h ≡ price_at old.grouped.items h) × (mark_at new.marks.items h ≡ mark_at old.marks.items h)

abbrev pub HasNotFallen : List Mark → ℕ → Type 0
HasNotFallen marks g = mark_at marks g ≡ Fell → ⊥

abbrev pub HasNotRisen : List Mark → ℕ → Type 0
HasNotRisen marks g = mark_at marks g ≡ Rose → ⊥
