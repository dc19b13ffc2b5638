-- The nodes of the places that are kept, which come in the order of the places.
use Rattle.std.specs.Prelude.{◌≡◌, ℕ, zero, suc, ◌+◌, ◌-◌, ◌≤◌, Bool, true, false, List, [], ◌∷◌, length, map, take, slice_index_or}
use Rattle.optra_walk.specs.declared.state.State.{State}
use Rattle.optra_graph.specs.declared.states.Layout.{Layout}
use Rattle.optra_graph.specs.Flags.{IsSet}
use Rattle.optra_graph.specs.Places.{state_of}

-- how many of the flags before a place are set
abbrev pub kept_before : List Bool → ℕ → ℕ
kept_before [] k = 0
kept_before (f ∷ fs) zero = 0
kept_before (true ∷ fs) (suc k) = kept_before fs k + 1
kept_before (false ∷ fs) (suc k) = kept_before fs k

-- node 0 is the start, and those of the kept places follow
abbrev pub node_of : List Bool → ℕ → ℕ
node_of flags place = kept_before flags place + 1

-- each place whose flag is set has the number of its node, and the end, which is the last place, has the next one; there may be more numbers
pub record AreNumbers (flags : List Bool) (numbers : List ℕ) : Type 0 where
  pub len : length flags ≤ length numbers
  pub each : (place : ℕ) → IsSet flags place → slice_index_or numbers place 0 ≡ node_of flags place
  pub end : slice_index_or numbers (length flags - 1) 0 ≡ node_of flags (length flags - 1)

-- the places whose flags are set, the first flag being that of place i
abbrev pub kept_from : ℕ → List Bool → List ℕ
kept_from i [] = []
kept_from i (true ∷ fs) = i ∷ kept_from (suc i) fs
kept_from i (false ∷ fs) = kept_from (suc i) fs

-- the states of the kept places before place n
abbrev pub states_of : Layout → ℕ → List Bool → List State
states_of layout n flags = map (state_of layout) (kept_from 0 (take n flags))
