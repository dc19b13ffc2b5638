-- Graphs whose nodes stand for states.
use Rattle.std.specs.Prelude.{◌≡◌, ℕ, ◌+◌, ◌-◌, ◌<◌, ◌≤◌, ◌⊎◌, false, List, ◌∷◌, length, slice_index_or}
use Rattle.std.specs.declared.cmp.Ordering.TheVariants.{Less}
use Rattle.optra_network.specs.Net.{Net, IsFromTo}
use Rattle.optra_bid.specs.Specs.{Path}
use Rattle.optra_dag.specs.Paths as dag
use Rattle.optra_walk.specs.declared.Action.TheVariants.{Finish}
use Rattle.optra_walk.specs.declared.Leg.{Leg}
use Rattle.optra_walk.specs.Orders.{leg_cmp}
use Rattle.optra_walk.specs.declared.state.State.{State}
use Rattle.optra_walk.specs.Moves.{start_state, IsMove, IsAfter, Runs}
use Rattle.optra_graph.specs.Timed.{Timed, leg_at}

abbrev pub no_state : State
no_state = record { station = record { 0 = 0 }; minute = 0; halted = false; done = 0 }

-- node 0 is the start, then come the states, and then the one end
abbrev pub state_at : List State → ℕ → State
state_at states n = slice_index_or states (n - 1) no_state

abbrev pub IsStateNode : List State → ℕ → Type 0
IsStateNode states n = (1 ≤ n) × (n ≤ length states)

-- the arc of a leg leads to the state after it, or to the end
abbrev pub LeadsOn : Net → Path → List State → State → Leg → ℕ → Type 0
LeadsOn net path states s leg to =
    ((leg.action ≡ Finish) × (to ≡ length states + 1)) ⊎ (IsStateNode states to × IsAfter net path s leg (state_at states to))

-- the start arcs and the arcs of legs are those of the states, and no node but the end is one from which no arc leads on
pub record IsTimed (net : Net) (path : Path) (t : Timed) (states : List State) : Type 0 where
  pub forward : dag.IsForward t.dag
  pub nodes : length t.dag.ends ≡ length states + 2
  pub ends : (n : ℕ) → dag.IsEnd t.dag n → n ≡ length states + 1
  pub end : dag.IsEnd t.dag (length states + 1)
  -- the start arcs
  pub count : length t.dag.arcs ≡ length t.minutes + length t.legs
  pub start_from : (k : ℕ) → k < length t.minutes → dag.from_of t.dag k ≡ 0
  pub start_only : (k : ℕ) → k < length t.dag.arcs → dag.from_of t.dag k ≡ 0 → k < length t.minutes
  pub start_to : (k : ℕ) → k < length t.minutes → IsStateNode states (dag.to_of t.dag k) × (state_at states (dag.to_of t.dag k) ≡ start_state path (slice_index_or t.minutes k 0))
  pub start_within : (k : ℕ) → k < length t.minutes → IsFromTo path.depart.from path.depart.to (slice_index_or t.minutes k 0)
  pub start_order : (j k : ℕ) → j < k → k < length t.minutes → slice_index_or t.minutes j 0 < slice_index_or t.minutes k 0
  pub start_all : (m : ℕ) → IsFromTo path.depart.from path.depart.to m → (legs : List Leg) → Runs net path (start_state path m) legs
      → (k : ℕ) × (k < length t.minutes) × (slice_index_or t.minutes k 0 ≡ m)
  -- the arcs of legs
  pub leg_from : (k : ℕ) → length t.minutes ≤ k → k < length t.dag.arcs → IsStateNode states (dag.from_of t.dag k)
  pub leg_move : (k : ℕ) → length t.minutes ≤ k → k < length t.dag.arcs → IsMove net path (state_at states (dag.from_of t.dag k)) (leg_at t k)
  pub leg_to : (k : ℕ) → length t.minutes ≤ k → k < length t.dag.arcs → LeadsOn net path states (state_at states (dag.from_of t.dag k)) (leg_at t k) (dag.to_of t.dag k)
  pub leg_order : (j k : ℕ) → j < k → k < length t.dag.arcs → length t.minutes ≤ j → dag.from_of t.dag j ≡ dag.from_of t.dag k → leg_cmp (leg_at t j) (leg_at t k) ≡ Less
  pub leg_all : (n : ℕ) → IsStateNode states n → (leg : Leg) (rest : List Leg) → Runs net path (state_at states n) (leg ∷ rest)
      → (k : ℕ) × (length t.minutes ≤ k) × (k < length t.dag.arcs) × (dag.from_of t.dag k ≡ n) × (leg_at t k ≡ leg)
  -- each state is reached, and leads on
  pub comes : (n : ℕ) → IsStateNode states n → (k : ℕ) × (k < length t.dag.arcs) × (dag.to_of t.dag k ≡ n)
  pub goes : (n : ℕ) → IsStateNode states n → (k : ℕ) × (k < length t.dag.arcs) × (dag.from_of t.dag k ≡ n)
