-- Which bids have a group on an arc, and which of them a price that fell leads to.
use Rattle.std.specs.Prelude.{◌≡◌, ℕ, ◌<◌, ◌≤◌, Bool, true, false, List, length, map, All, Some, slice_get, slice_index, slice_index_or}
use Rattle.optra_prices.specs.Columns.{HasNotFallen, mark_at}
use Rattle.optra_prices.specs.Indexes.{IsIndex, IndexHas}
use Rattle.optra_prices.specs.declared.columns.Mark.{Mark}
use Rattle.optra_prices.specs.declared.columns.Mark.TheVariants.{Fell}
use Rattle.optra_prices.specs.declared.holders.Held.{Held}
use Rattle.optra_prices.specs.declared.index.Index.{Index}
use Rattle.optra_prices.specs.ArcTerms.{ArcTerm}
use Rattle.optra_prices.specs.declared.numbering.BidTable.{BidTable}

-- the groups of arcs, one after the other
abbrev pub groups_of : List ArcTerm → List ℕ
groups_of arcs = map (λ arc. arc.group) arcs

-- each bid is one of those that have the group, for each group of its arcs
pub record AreHolders (tables : List BidTable) (holders : Index) : Type 0 where
  pub index : IsIndex holders
  pub held : (number : ℕ) (table : BidTable) → slice_get tables number ≡ Some table → All (λ g. IndexHas holders g number) (groups_of table.arcs)

-- the group stands among groups from a place on
abbrev pub StandsFrom : List ℕ → ℕ → ℕ → Type 0
StandsFrom groups from g = (k : ℕ) × (from ≤ k) × (k < length groups) × (slice_index groups k ≡ g)

-- the groups of these arcs stand among groups from a place on
abbrev pub AreListedFrom : List ℕ → ℕ → List ArcTerm → Type 0
AreListedFrom groups from arcs = All (StandsFrom groups from) (groups_of arcs)

-- a list goes on as it was
pub record GoesOn (old new : List ℕ) : Type 0 where
  pub more : length old ≤ length new
  pub same : (k : ℕ) → k < length old → slice_index new k ≡ slice_index old k

-- the groups of which the bid with this number, from 1, is the last one stand from a place on, and no bid past it has any
pub record IsListing (from bid : ℕ) (held : Held) : Type 0 where
  pub within : from ≤ length held.groups.items
  pub known : (g : ℕ) → slice_index held.last.items g ≡ bid → StandsFrom held.groups.items from g
  pub most : (g : ℕ) → slice_index held.last.items g ≤ bid

-- the group is one of the bid's, wherever these begin
pub record HoldsGroup (bid g : ℕ) (old new : Held) : Type 0 where
  pub listing : (from : ℕ) → IsListing from bid old → IsListing from bid new
  pub here : (from : ℕ) → IsListing from bid old → StandsFrom new.groups.items from g
  pub goes_on : GoesOn old.groups.items new.groups.items

-- the groups of these arcs are the bid's, wherever these begin
pub record HoldsArcs (bid : ℕ) (arcs : List ArcTerm) (old new : Held) : Type 0 where
  pub listing : (from : ℕ) → IsListing from bid old → IsListing from bid new
  pub here : (from : ℕ) → IsListing from bid old → AreListedFrom new.groups.items from arcs
  pub goes_on : GoesOn old.groups.items new.groups.items

-- no price of a group of these arcs fell
abbrev pub HaveNotFallen : List Mark → List ArcTerm → Type 0
HaveNotFallen marks arcs = All (HasNotFallen marks) (groups_of arcs)

-- whether the bid with this number is told
abbrev pub is_told : List Bool → ℕ → Bool
is_told fallen number = slice_index_or fallen number false

-- each of the first bids is told
abbrev pub AreToldTo : ℕ → List Bool → Type 0
AreToldTo count fallen = (number : ℕ) → number < count → is_told fallen number ≡ true

-- the bids that were told are told still
pub record KeepsTold (old new : List Bool) : Type 0 where
  pub count : length new ≡ length old
  pub kept : (number : ℕ) → is_told old number ≡ true → is_told new number ≡ true

-- so are they, and the bids that have the group are told
pub record TellsHolders (holders : Index) (g : ℕ) (old new : List Bool) : Type 0 where
  pub keeps : KeepsTold old new
  pub here : (number : ℕ) → number < length old → IndexHas holders g number → is_told new number ≡ true

-- so are they, and the bids that have the group are told where its price fell
pub record TellsGroup (marks : List Mark) (holders : Index) (g : ℕ) (old new : List Bool) : Type 0 where
  pub keeps : KeepsTold old new
  pub here : mark_at marks g ≡ Fell → (number : ℕ) → number < length old → IndexHas holders g number → is_told new number ≡ true

-- of a bid that isn't told no group fell
pub record TellsFallen (marks : List Mark) (tables : List BidTable) (fallen : List Bool) : Type 0 where
  pub count : length fallen ≡ length tables
  pub each : (number : ℕ) (table : BidTable) → slice_get tables number ≡ Some table → is_told fallen number ≡ false → HaveNotFallen marks table.arcs
