-- A flag for each place, and one for the end: which places are reached, and which are kept.
use Rattle.std.specs.Prelude.{◌≡◌, ℕ, ◌+◌, ◌<◌, ◌≤◌, ◌⊎◌, ◌||◌, Bool, true, false, List, ◌∷◌, length, slice_index_or, Contains}
use Rattle.optra_network.specs.Net.{Net, IsFromTo}
use Rattle.optra_bid.specs.Specs.{Path}
use Rattle.optra_walk.specs.declared.Leg.{Leg}
use Rattle.optra_graph.specs.declared.states.Layout.{Layout}
use Rattle.optra_graph.specs.declared.stepping.Step.{Step}
use Rattle.optra_walk.specs.Moves.{start_state, Runs}
use Rattle.optra_graph.specs.Places.{IsTimely, place_of, places_of, state_of}
use Rattle.optra_graph.specs.Steps.{IsStep}

abbrev pub is_set : List Bool → ℕ → Bool
is_set flags place = slice_index_or flags place false

abbrev pub IsSet : List Bool → ℕ → Type 0
IsSet flags place = is_set flags place ≡ true

-- the place of a state in which a walk may begin
abbrev pub IsStartPlace : Path → Layout → ℕ → Type 0
IsStartPlace path layout place =
    (m : ℕ) × IsFromTo path.depart.from path.depart.to m × IsTimely layout (start_state path m) × (place ≡ place_of layout (start_state path m))

-- whether one of the eight flags from a place on is set
abbrev pub any_set : List Bool → ℕ → Bool
any_set flags at =
    is_set flags at || is_set flags (at + 1) || is_set flags (at + 2) || is_set flags (at + 3) || is_set flags (at + 4) || is_set flags (at + 5) || is_set flags (at + 6)
    || is_set flags (at + 7)

-- no flag is set from one place on and before another
abbrev pub IsPassed : List Bool → ℕ → ℕ → Type 0
IsPassed flags from to = (place : ℕ) → from ≤ place → place < to → IsSet flags place → ⊥

-- the first place from one on and before the end whose flag is set, or else the end
pub record IsNext (flags : List Bool) (from end next : ℕ) : Type 0 where
  pub later : from ≤ next
  pub within : next ≤ end
  pub passed : IsPassed flags from next
  pub set : next < end → IsSet flags next

-- a step leads to the place from an earlier one that is set
abbrev pub IsSteppedTo : Net → Path → Layout → List Bool → ℕ → Type 0
IsSteppedTo net path layout flags place =
    (q : ℕ) × (step : Step) × (q < places_of layout) × (q < place) × IsSet flags q × IsStep net path layout (state_of layout q) step × (step.to ≡ place)

-- the flags of the starts before a minute are set, and no others changed
pub record AreStartsSet (path : Path) (layout : Layout) (before : ℕ) (old new : List Bool) : Type 0 where
  pub len : length new ≡ length old
  pub keeps : (place : ℕ) → IsSet old place → IsSet new place
  pub starts : (m : ℕ) → IsFromTo path.depart.from path.depart.to m → m < before → IsTimely layout (start_state path m) → IsSet new (place_of layout (start_state path m))
  pub only : (place : ℕ) → IsSet new place → IsSet old place ⊎ IsStartPlace path layout place

-- the flags of the places that the steps lead to are set, and no others changed
pub record Marks (steps : List Step) (old new : List Bool) : Type 0 where
  pub len : length new ≡ length old
  pub keeps : (place : ℕ) → IsSet old place → IsSet new place
  pub marks : (step : Step) → Contains steps step → IsSet new step.to
  pub only : (place : ℕ) → IsSet new place → IsSet old place ⊎ ((step : Step) × Contains steps step × (step.to ≡ place))

-- exactly the places that steps lead to from the starts
pub record IsReached (net : Net) (path : Path) (layout : Layout) (flags : List Bool) : Type 0 where
  pub len : length flags ≡ places_of layout + 1
  pub starts : (m : ℕ) → IsFromTo path.depart.from path.depart.to m → IsTimely layout (start_state path m) → IsSet flags (place_of layout (start_state path m))
  pub closed : (place : ℕ) (step : Step) → place < places_of layout → IsSet flags place → IsStep net path layout (state_of layout place) step → IsSet flags step.to
  pub from : (place : ℕ) → IsSet flags place → IsStartPlace path layout place ⊎ IsSteppedTo net path layout flags place

-- exactly the reached places from which the end is reached: whoever runs on from a kept place stays on kept places
pub record IsKept (net : Net) (path : Path) (layout : Layout) (flags : List Bool) : Type 0 where
  pub len : length flags ≡ places_of layout + 1
  pub starts : (m : ℕ) (legs : List Leg) → IsFromTo path.depart.from path.depart.to m → Runs net path (start_state path m) legs
      → IsTimely layout (start_state path m) × IsSet flags (place_of layout (start_state path m))
  pub runs : (place : ℕ) (leg : Leg) (rest : List Leg) → place < places_of layout → IsSet flags place → Runs net path (state_of layout place) (leg ∷ rest)
      → (to : ℕ) × IsStep net path layout (state_of layout place) (record { leg = leg; to = to }) × IsSet flags to
  pub from : (place : ℕ) → IsSet flags place → IsStartPlace path layout place ⊎ IsSteppedTo net path layout flags place
  pub goes_on : (place : ℕ) → place < places_of layout → IsSet flags place → (step : Step) × IsStep net path layout (state_of layout place) step × IsSet flags step.to

-- the flags while the places before one are gone over
pub record IsReachedTo (net : Net) (path : Path) (layout : Layout) (before : ℕ) (flags : List Bool) : Type 0 where
  pub len : length flags ≡ places_of layout + 1
  pub starts : (m : ℕ) → IsFromTo path.depart.from path.depart.to m → IsTimely layout (start_state path m) → IsSet flags (place_of layout (start_state path m))
  pub closed : (place : ℕ) (step : Step) → place < before → place < places_of layout → IsSet flags place → IsStep net path layout (state_of layout place) step → IsSet flags step.to
  pub from : (place : ℕ) → IsSet flags place → IsStartPlace path layout place ⊎ IsSteppedTo net path layout flags place

-- the flags while the places from one on are trimmed
pub record IsTrimmedTo (net : Net) (path : Path) (layout : Layout) (left : ℕ) (reached flags : List Bool) : Type 0 where
  pub len : length flags ≡ length reached
  pub few : left ≤ places_of layout
  pub below : (place : ℕ) → place < left → is_set flags place ≡ is_set reached place
  pub end : is_set flags (places_of layout) ≡ is_set reached (places_of layout)
  pub only : (place : ℕ) → IsSet flags place → IsSet reached place
  pub goes_on : (place : ℕ) → left ≤ place → place < places_of layout → IsSet flags place → (step : Step) × IsStep net path layout (state_of layout place) step × IsSet flags step.to
  pub whole : (place : ℕ) (step : Step) → left ≤ place → place < places_of layout → IsSet reached place → IsStep net path layout (state_of layout place) step → IsSet flags step.to → IsSet flags place
