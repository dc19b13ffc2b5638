-- Legs of types, the rows that they use, and what a family says of its rows.
use Rattle.std.specs.Prelude.{◌≡◌, ℕ, ◌+◌, ◌≤◌, ◌<◌, ◌↔◌, Bool, true, List, [], ◌∷◌, ◌++◌, map, length, sum_by, All, Contains, Option, None, Some, unwrap_or, ⊤}
use Rattle.std.specs.BTreeMap.{BTreeMap, get}
use Rattle.std.specs.declared.cmp.Ordering.{Ordering}
use Rattle.std.specs.declared.cmp.Ordering.TheVariants.{Less, Equal}
use Rattle.optra_network.specs.Net.{Net, IsProper, MayUse}
use Rattle.optra_network.specs.declared.TrackUse.{TrackUse}
use Rattle.optra_network.specs.declared.TypeId.{TypeId}
use Rattle.optra_bid.specs.declared.bids.Bid.{Bid}
use Rattle.optra_walk.specs.declared.Leg.{Leg}
use Rattle.optra_walk.specs.Legs.{dwell_of, use_of}

-- a leg of a type
abbrev pub Entry : Type 0
Entry = TypeId × Leg

-- the use of a track by a leg of a type
abbrev pub use_of_entry : Entry → TrackUse
use_of_entry e = use_of e.0 e.1

-- on a network that Builder::finish made, the type may use the track, and the leg departs by minute 2,879 and dwells at most 240 minutes
pub record IsUsable (net : Net) (kind : TypeId) (leg : Leg) : Type 0 where
  pub proper : IsProper net
  pub may_use : MayUse net leg.track kind
  pub depart : leg.depart ≤ 2879
  pub dwell : dwell_of leg.action ≤ 240

-- the legs of all walks, each with the type of its bid
abbrev pub entries_of : List Bid → List (Option (List Leg)) → List Entry
entries_of [] walks = []
entries_of (bid ∷ bids) [] = []
entries_of (bid ∷ bids) (None ∷ walks) = entries_of bids walks
entries_of (bid ∷ bids) (Some legs ∷ walks) = map (λ leg. (bid.path.kind, leg)) legs ++ entries_of bids walks

-- rows, the capacity of each, and how much of each a leg of a type uses
pub record Rows (R : Type 0) : Type 0 where
  pub is_row : R → Bool
  pub capacity : R → ℕ
  pub uses : TypeId → Leg → R → ℕ

-- two legs of a type use as much of each row, and have the same list of rows
abbrev pub UseAlike : {R : Type 0} → Rows R → (TypeId → Leg → List R) → TypeId → Leg → Leg → Type 0
UseAlike {R} rows used kind first second = ((row : R) → rows.uses kind first row ≡ rows.uses kind second row) × (used kind first ≡ used kind second)

-- the total of a row, 0 where none is kept
abbrev pub total_of : {R : Type 0} → (R → R → Ordering) → BTreeMap R ℕ → R → ℕ
total_of cmp totals row = unwrap_or (get cmp totals row) 0

-- no row that the leg uses gets above its capacity by it
abbrev pub HasRoom : {R : Type 0} → Rows R → (R → ℕ) → TypeId → Leg → Type 0
HasRoom {R} rows total kind leg = (row : R) → 0 < rows.uses kind leg row → total row + rows.uses kind leg row ≤ rows.capacity row

-- how much of a row the legs use together
abbrev pub load_of : {R : Type 0} → Rows R → R → List Entry → ℕ
load_of rows row entries = sum_by (λ e. rows.uses e.0 e.1 row) entries

-- the legs use at most the capacity of each row
abbrev pub FitRows : {R : Type 0} → Rows R → List Entry → Type 0
FitRows {R} rows entries = (row : R) → rows.is_row row ≡ true → load_of rows row entries ≤ rows.capacity row

-- each row is below all that come after it
abbrev pub Ascends : {R : Type 0} → (R → R → Ordering) → List R → Type 0
Ascends cmp [] = ⊤
Ascends cmp (row ∷ rows) = All (λ later. cmp row later ≡ Less) rows × Ascends cmp rows

-- rows that the order does not tell apart are the same
abbrev pub TellsApart : {R : Type 0} → (R → R → Ordering) → Type 0
TellsApart {R} cmp = (a b : R) → cmp a b ≡ Equal → a ≡ b

-- the list holds the rows in which a leg's use is above zero, ascending and each once; they are rows of the family, few, and used little in all
pub record ListsRows {R : Type 0} (cmp : R → R → Ordering) (is_row : R → Bool) (uses : R → ℕ) (rows : List R) : Type 0 where
  pub ascending : Ascends cmp rows
  pub used : (row : R) → 0 < uses row ↔ Contains rows row
  pub are_rows : (row : R) → 0 < uses row → is_row row ≡ true
  pub few : length rows ≤ 8192
  pub total : sum_by uses rows ≤ 8192

-- the rows are at most so many, and they are used at most so much in all
pub record UsesFew {R : Type 0} (most : ℕ) (uses : R → ℕ) (rows : List R) : Type 0 where
  pub few : length rows ≤ most
  pub total : sum_by uses rows ≤ most
