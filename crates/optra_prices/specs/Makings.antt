-- Groups of touches while they are made, leg by leg; rows are named by place, and in the end numbered.
use Rattle.std.specs.Prelude.{◌≡◌, ℕ, ◌+◌, ◌<◌, true, List, length, All}
use Rattle.std.specs.declared.cmp.Ordering.{Ordering}
use Rattle.optra_network.specs.Net.{Net}
use Rattle.optra_network.specs.declared.TypeId.{TypeId}
use Rattle.optra_walk.specs.declared.Leg.{Leg}
use Rattle.optra_walk.specs.Families.{Rows, IsUsable}
use Rattle.optra_prices.specs.Tables.{IsNumbering, Extends, AreTouches, group_at, AreGroups, KeepsGroups}
use Rattle.optra_prices.specs.declared.making.Head.{Head}
use Rattle.optra_prices.specs.declared.making.Making.{Making}
use Rattle.optra_prices.specs.declared.making.Numbered.{Numbered}
use Rattle.optra_prices.specs.Rankings.{Renumbers}
use Rattle.optra_prices.specs.declared.numbering.Groups.{Groups}

-- the group has what the leg touches
pub record IsGroupOf {R : Type 0} (rows : Rows R) (used : TypeId → Leg → List R) (kind : TypeId) (leg : Leg) (named : List R) (groups : Groups) (g : ℕ) : Type 0 where
  pub within : g + 1 < length groups.starts.items
  pub touches : AreTouches named (rows.uses kind leg) (group_at groups.starts.items groups.touches g) (used kind leg)

-- the leg is usable, and its group has what it touches
pub record IsHead {R : Type 0} (net : Net) (rows : Rows R) (used : TypeId → Leg → List R) (named : List R) (groups : Groups) (head : Head) : Type 0 where
  pub usable : IsUsable net head.kind head.leg
  pub group_is : IsGroupOf rows used head.kind head.leg named groups head.group

-- rows of the family by place, groups of touches, and legs that have entered with their groups
pub record IsMaking {R : Type 0} (net : Net) (rows : Rows R) (used : TypeId → Leg → List R) (making : Making R) : Type 0 where
  pub rows_are : All (λ row. rows.is_row row ≡ true) making.named.items
  pub groups_are : AreGroups making.groups.starts.items making.groups.touches
  pub heads_are : All (IsHead net rows used making.named.items making.groups) making.heads.items

-- rows keep their places, and groups stay
pub record Grows {R : Type 0} (old new : Making R) : Type 0 where
  pub extends : Extends old.named.items new.named.items
  pub keeps : KeepsGroups old.groups.starts.items old.groups.touches new.groups.starts.items new.groups.touches

-- the group has what the leg touches; rows keep their places, and groups stay
pub record FindsGroup {R : Type 0} (rows : Rows R) (used : TypeId → Leg → List R) (kind : TypeId) (leg : Leg) (old new : List R) (before after : Groups) (g : ℕ) : Type 0 where
  pub rows_are : All (λ row. rows.is_row row ≡ true) new
  pub extends : Extends old new
  pub groups_are : AreGroups after.starts.items after.touches
  pub keeps : KeepsGroups before.starts.items before.touches after.starts.items after.touches
  pub within : g + 1 < length after.starts.items
  pub touches : AreTouches new (rows.uses kind leg) (group_at after.starts.items after.touches g) (used kind leg)

-- rows of the family by number, and the groups with the same rows that they had by place
pub record IsNumbered {R : Type 0} (cmp : R → R → Ordering) (rows : Rows R) (named : List R) (groups : Groups) (numbered : Numbered R) : Type 0 where
  pub numbering : IsNumbering cmp numbered.numbering.order.items numbered.numbering.rows.items
  pub rows_are : All (λ row. rows.is_row row ≡ true) numbered.numbering.rows.items
  pub starts_are : numbered.groups.starts.items ≡ groups.starts.items
  pub renumbers : Renumbers named numbered.numbering.rows.items groups.touches numbered.groups.touches
