-- Lists of the rows that are loaded, and legs that keep off them.
use Rattle.std.specs.Prelude.{◌≡◌, ℕ, ◌-◌, ◌<◌, ◌≤◌, List, [], map, filter, nat_lt, length, slice_get, slice_index_or, All, Option, IfSome, MatchOption}
use Rattle.std.specs.List.{AllPairs}
use Rattle.std.specs.declared.cmp.Ordering.{Ordering}
use Rattle.std.specs.declared.cmp.Ordering.TheVariants.{Less, Equal}
use Rattle.optra_network.specs.Net.{Net}
use Rattle.optra_network.specs.declared.TypeId.{TypeId}
use Rattle.optra_bid.specs.declared.bids.Bid.{Bid}
use Rattle.optra_walk.specs.declared.Leg.{Leg}
use Rattle.optra_walk.specs.Families.{Rows}
use Rattle.optra_node.specs.declared.Decision.{Decision}
use Rattle.optra_node.specs.Nodes.{InstanceNode, yes_load, yes_uses}

-- the rows of which something is used, in the order of their totals
abbrev pub used_rows : {R : Type 0} → List (R × ℕ) → List R
used_rows entries = map (λ e. e.0) (filter (λ e. nat_lt 0 e.1) entries)

-- each row is before all that come after it
abbrev pub AreRising : {R : Type 0} → (R → R → Ordering) → List R → Type 0
AreRising cmp loaded = AllPairs (λ a b. cmp a b ≡ Less) loaded

-- none of the rows is this one
abbrev pub IsMissing : {R : Type 0} → (R → R → Ordering) → List R → R → Type 0
IsMissing {R} cmp loaded row = (k : ℕ) (d : R) → k < length loaded → cmp (slice_index_or loaded k d) row ≡ Equal → ⊥

-- the first rows up to a place are before this one
abbrev pub ArePast : {R : Type 0} → (R → R → Ordering) → List R → ℕ → R → Type 0
ArePast {R} cmp loaded place row = (k : ℕ) (d : R) → k < place → k < length loaded → cmp (slice_index_or loaded k d) row ≡ Less

-- the yes legs use nothing of any row that isn't listed
abbrev pub AreLoaded : {R : Type 0} → (R → R → Ordering) → Rows R → List Bid → List Decision → List R → Type 0
AreLoaded {R} cmp rows bids node loaded = (row : R) → IsMissing cmp loaded row → yes_load rows bids node row ≡ 0

-- and something of each that is
abbrev pub AreUsed : {R : Type 0} → Rows R → List Bid → List Decision → List R → Type 0
AreUsed rows bids node loaded = All (λ row. 0 < yes_load rows bids node row) loaded

-- the row at a place of the rows that a leg uses is none of those, and the leg does not use it above its capacity
abbrev pub KeepsOffAt : {R : Type 0} → (R → R → Ordering) → Rows R → TypeId → List R → Leg → Option R → Type 0
KeepsOffAt cmp rows kind loaded leg at = IfSome at (λ row. IsMissing cmp loaded row × (rows.uses kind leg row ≤ rows.capacity row))

-- the leg uses none of the rows, and no other row above its capacity
pub record KeepsOff {R : Type 0} (cmp : R → R → Ordering) (rows : Rows R) (kind : TypeId) (loaded : List R) (leg : Leg) : Type 0 where
  pub off : (row : R) → 0 < rows.uses kind leg row → IsMissing cmp loaded row
  pub fits : (row : R) → 0 < rows.uses kind leg row → rows.uses kind leg row ≤ rows.capacity row

-- the last decision uses nothing of any row that isn't listed
abbrev pub AreLastRows : {R : Type 0} → (R → R → Ordering) → Rows R → List Bid → List Decision → List R → Type 0
AreLastRows {R} cmp rows bids node listed = IfSome (slice_get node (length node - 1)) (λ last. (row : R) → IsMissing cmp listed row → yes_uses rows bids row last ≡ 0)

-- and something of each that is; no row is listed where there is no decision
abbrev pub AreUsedLast : {R : Type 0} → Rows R → List Bid → List Decision → List R → Type 0
AreUsedLast rows bids node listed = MatchOption (slice_get node (length node - 1)) (listed ≡ []) (λ last. All (λ row. 0 < yes_uses rows bids row last) listed)

-- the rows that the last decision uses, ascending
pub record AreLatest {R : Type 0} (cmp : R → R → Ordering) (rows : Rows R) (bids : List Bid) (node : List Decision) (listed : List R) : Type 0 where
  pub rising : AreRising cmp listed
  pub all : AreLastRows cmp rows bids node listed
  pub used : AreUsedLast rows bids node listed

-- of the node that is seen
abbrev pub AreLatestAt : {X R : Type 0} → (R → R → Ordering) → (X → Net → Rows R) → InstanceNode X → List R → Type 0
AreLatestAt cmp rows_of s listed = AreLatest cmp (rows_of s.family s.net) s.bids s.node listed
