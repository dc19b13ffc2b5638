-- Tables of the steps of places, in rows.
use Rattle.std.specs.Prelude.{◌≡◌, ℕ, ◌+◌, ◌*◌, ◌<◌, ◌≤◌, Bool, List, [], ◌∷◌, ◌++◌, length, slice_index, slice_index_or, slice_range}
use Rattle.optra_network.specs.Net.{Net, out_tracks_of}
use Rattle.optra_bid.specs.Specs.{Path}
use Rattle.optra_graph.specs.declared.states.Layout.{Layout}
use Rattle.optra_graph.specs.declared.step_table.StepTable.{StepTable}
use Rattle.optra_graph.specs.declared.stepping.Step.{Step}
use Rattle.optra_graph.specs.Flags.{IsSet}
use Rattle.optra_graph.specs.Places.{state_of}
use Rattle.optra_graph.specs.Steps.{AreSteps}

-- how many rows a table has
abbrev pub rows_of : StepTable → ℕ
rows_of table = length table.places.items

-- the place of a row
abbrev pub place_at : StepTable → ℕ → ℕ
place_at table row = slice_index table.places.items row

-- the place of a row, or the end behind the last one
abbrev pub place_or : StepTable → ℕ → ℕ → ℕ
place_or table row end = slice_index_or table.places.items row end

-- the steps of a row stand between two starts
pub record HasRange (table : StepTable) (row : ℕ) : Type 0 where
  pub started : row + 1 < length table.starts.items
  pub ordered : slice_index table.starts.items row ≤ slice_index table.starts.items (row + 1)
  pub within : slice_index table.starts.items (row + 1) ≤ length table.steps.items

abbrev pub steps_at : StepTable → ℕ → List Step
steps_at table row = slice_range table.steps.items (slice_index table.starts.items row) (slice_index table.starts.items (row + 1))

-- the table has no row
pub record IsEmpty (table : StepTable) : Type 0 where
  pub steps : table.steps.items ≡ []
  pub places : table.places.items ≡ []
  pub starts : table.starts.items ≡ 0 ∷ []

-- the steps of a place come behind those that were there
pub record IsGrown (old : StepTable) (place : ℕ) (more : List Step) (new : StepTable) : Type 0 where
  pub steps : new.steps.items ≡ old.steps.items ++ more
  pub places : new.places.items ≡ old.places.items ++ place ∷ []
  pub starts : new.starts.items ≡ old.starts.items ++ (length old.steps.items + length more) ∷ []

-- the places ascend and come before the end, and each before it whose flag is set is one of them
pub record AreListed (flags : List Bool) (end : ℕ) (places : List ℕ) : Type 0 where
  pub rising : (j k : ℕ) → j < k → k < length places → slice_index places j < slice_index places k
  pub within : (row : ℕ) → row < length places → slice_index places row < end
  pub listed : (place : ℕ) → place < end → IsSet flags place → (row : ℕ) × (row < length places) × (slice_index places row ≡ place)

-- the table has the steps of some places before one, among them all whose flags are set
pub record AreStepsTo (net : Net) (path : Path) (layout : Layout) (before : ℕ) (flags : List Bool) (table : StepTable) : Type 0 where
  pub count : length table.starts.items ≡ rows_of table + 1
  pub last : slice_index table.starts.items (rows_of table) ≡ length table.steps.items
  pub rising : (j k : ℕ) → j < k → k < rows_of table → place_at table j < place_at table k
  pub within : (row : ℕ) → row < rows_of table → place_at table row < before
  pub listed : (place : ℕ) → place < before → IsSet flags place → (row : ℕ) × (row < rows_of table) × (place_at table row ≡ place)
  pub ranges : (row : ℕ) → row < rows_of table → HasRange table row
  pub steps : (row : ℕ) → row < rows_of table → AreSteps net path layout (state_of layout (place_at table row)) (steps_at table row)
  pub few : (row : ℕ) → row < rows_of table
      → length (steps_at table row) ≤ 63 * length (out_tracks_of net.tracks (state_of layout (place_at table row)).station)
