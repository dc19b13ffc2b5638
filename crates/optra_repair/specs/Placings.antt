-- How much of the rows is used by what is placed, and the walk that is worth most beside it.
use Rattle.std.specs.Prelude.{◌≡◌, ℕ, ◌+◌, ◌≤◌, Bool, true, false, List, [], map, Option, None, Some, pos, ◌≤ℤ◌, ◌<ℤ◌}
use Rattle.optra_network.specs.Net.{Net}
use Rattle.optra_network.specs.declared.TypeId.{TypeId}
use Rattle.optra_bid.specs.declared.bids.Bid.{Bid}
use Rattle.optra_walk.specs.declared.Leg.{Leg}
use Rattle.optra_walk.specs.Families.{Rows, Entry, load_of}
use Rattle.optra_walk.specs.Values.{value_of}
use Rattle.optra_node.specs.declared.Decision.{Decision}
use Rattle.optra_node.specs.Nodes.{IsAllowed}
use Rattle.optra_prices.specs.Replies.{IsFirstGreatest}
use Rattle.optra_prices.specs.Repairs.{IsPlaceable, IsFirstWorthiest}

-- the totals are how much of each row the legs use
abbrev pub AreTotals : {R : Type 0} → Rows R → (R → ℕ) → List Entry → Type 0
AreTotals {R} rows total entries = (row : R) → total row ≡ load_of rows row entries

-- no row has a total above its capacity
abbrev pub AreWithin : {R : Type 0} → Rows R → (R → ℕ) → Type 0
AreWithin {R} rows total = (row : R) → rows.is_row row ≡ true → total row ≤ rows.capacity row

-- how much of a row legs of the type use
abbrev pub use_of_legs : {R : Type 0} → Rows R → TypeId → List Leg → R → ℕ
use_of_legs rows kind legs row = load_of rows row (map (λ leg. (kind, leg)) legs)

-- how much of a row a walk of the type uses, and 0 without one
abbrev pub use_of_walk : {R : Type 0} → Rows R → TypeId → Option (List Leg) → R → ℕ
use_of_walk rows kind None row = 0
use_of_walk rows kind (Some legs) row = use_of_legs rows kind legs row

-- the legs were added to the totals
abbrev pub AddsLegs : {R : Type 0} → Rows R → TypeId → List Leg → (R → ℕ) → (R → ℕ) → Type 0
AddsLegs {R} rows kind legs before after = (row : R) → after row ≡ before row + use_of_legs rows kind legs row

-- the walk, where there is one, was added to the totals
abbrev pub AddsWalk : {R : Type 0} → Rows R → TypeId → Option (List Leg) → (R → ℕ) → (R → ℕ) → Type 0
AddsWalk {R} rows kind walk before after = (row : R) → after row ≡ before row + use_of_walk rows kind walk row

-- with all the legs together no row gets above its capacity
abbrev pub HaveRoom : {R : Type 0} → Rows R → (R → ℕ) → TypeId → List Leg → Type 0
HaveRoom {R} rows total kind legs = (row : R) → rows.is_row row ≡ true → total row + use_of_legs rows kind legs row ≤ rows.capacity row

-- the legs were added where together they have room; else the totals are the same
abbrev pub IsPut : {R : Type 0} → Rows R → TypeId → List Leg → Bool → (R → ℕ) → (R → ℕ) → Type 0
IsPut rows kind legs true before after = HaveRoom rows before kind legs × AddsLegs rows kind legs before after
IsPut rows kind legs false before after = (HaveRoom rows before kind legs → ⊥) × AddsLegs rows kind [] before after

-- the walk is given where its legs have room together, and was then added to the totals; else the totals are the same
abbrev pub IsPutWhole : {R : Type 0} → Rows R → TypeId → List Leg → Option (List Leg) → (R → ℕ) → (R → ℕ) → Type 0
IsPutWhole rows kind legs None before after = IsPut rows kind legs false before after
IsPutWhole rows kind legs (Some given) before after = (given ≡ legs) × IsPut rows kind legs true before after

-- of the allowed walks of the bid the first one of greatest value, where it is worth more than 0; none where no allowed walk is
abbrev pub IsBestAllowed : {R : Type 0} → Net → Rows R → List Bid → List Decision → ℕ → Bid → Option (List Leg) → Type 0
IsBestAllowed net rows bids node number bid None =
    (legs : List Leg) → IsAllowed net rows bids node number bid legs → value_of net bid.path bid.money legs ≤ℤ pos 0
IsBestAllowed net rows bids node number bid (Some legs) =
    IsFirstGreatest net rows bids node [] number bid legs × (pos 0 <ℤ value_of net bid.path bid.money legs)

-- the first worthiest of the placeable walks, where it is worth more than 0; none where no placeable walk is
abbrev pub IsWorthiest : {R : Type 0} → Net → Rows R → List Bid → List Decision → List Entry → ℕ → Bid → Option (List Leg) → Type 0
IsWorthiest net rows bids node placed number bid None =
    (legs : List Leg) → IsPlaceable net rows bids node placed number bid legs → value_of net bid.path bid.money legs ≤ℤ pos 0
IsWorthiest net rows bids node placed number bid (Some legs) =
    IsFirstWorthiest net rows bids node placed number bid legs × (pos 0 <ℤ value_of net bid.path bid.money legs)
