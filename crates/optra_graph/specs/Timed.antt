-- Time-expanded graphs of a bid, and what their paths mean.
use Rattle.std.specs.Prelude.{◌≡◌, ℕ, ◌+◌, ◌-◌, ◌<◌, true, false, nat_lt, List, [], ◌∷◌, length, map, slice_get, slice_index_or, Option, None, Some, IsSome, All, Contains, if◌then◌else◌}
use Rattle.std.specs.List.{AllPairs}
use Rattle.std.specs.Ordering.{nat_cmp}
use Rattle.std.specs.declared.cmp.Ordering.TheVariants.{Less}
use Rattle.std.specs.Cmp.Lexicographic.{slice_cmp}
use Rattle.optra_network.specs.Net.{Net}
use Rattle.optra_bid.specs.Specs.{Path}
use Rattle.optra_dag.specs.Paths.{Graph, IsForward, IsPath, from_of}
use Rattle.optra_walk.specs.declared.Action.TheVariants.{Pass}
use Rattle.optra_walk.specs.declared.Leg.{Leg}
use Rattle.optra_walk.specs.Walks.{IsWalk}
use Rattle.optra_walk.specs.Values.{first_departure}
use Rattle.optra_walk.specs.Orders.{walk_cmp}

-- the list of all walks of a path: each is one, each stands there, and they ascend in walk order, so none stands there twice
pub record AreAllWalks (net : Net) (path : Path) (walks : List (List Leg)) : Type 0 where
  pub sound : All (IsWalk net path) walks
  pub whole : (legs : List Leg) → IsWalk net path legs → Contains walks legs
  pub ascending : AllPairs (λ a b. walk_cmp a b ≡ Less) walks

-- the graph, the departures of its start arcs, which come first, and the legs of the other arcs
pub record Timed : Type 0 where
  pub dag : Graph
  pub minutes : List ℕ
  pub legs : List Leg

-- arcs lead forward, those that leave the start are the start arcs, and each other arc has a leg
pub record IsLaidOut (t : Timed) : Type 0 where
  pub forward : IsForward t.dag
  pub arcs : length t.dag.arcs ≡ length t.minutes + length t.legs
  pub starts : (k : ℕ) → k < length t.minutes → from_of t.dag k ≡ 0
  pub others : (k : ℕ) → k < length t.dag.arcs → from_of t.dag k ≡ 0 → k < length t.minutes

abbrev pub no_leg : Leg
no_leg = record { track = record { 0 = 0 }; depart = 0; from_halt = false; action = Pass }

-- the leg of an arc that is no start arc
abbrev pub leg_at : Timed → ℕ → Leg
leg_at t k = slice_index_or t.legs (k - length t.minutes) no_leg

abbrev pub leg_of : Timed → ℕ → Option Leg
leg_of t k = if nat_lt k (length t.minutes) then None else Some (leg_at t k)

abbrev pub start_of : Timed → ℕ → Option ℕ
start_of t k = slice_get t.minutes k

-- the legs of the arcs after the first
abbrev pub walk_of : Timed → List ℕ → List Leg
walk_of t [] = []
walk_of t (k ∷ arcs) = map (leg_at t) arcs

-- a path from the start to an end
abbrev pub IsRoute : Timed → List ℕ → Type 0
IsRoute t arcs = IsPath t.dag (λ _. true) arcs

-- all paths from the start to an end, ascending in the lexicographic order of their arcs
pub record AreAllRoutes (t : Timed) (routes : List (List ℕ)) : Type 0 where
  pub sound : All (IsRoute t) routes
  pub whole : (arcs : List ℕ) → IsRoute t arcs → Contains routes arcs
  pub ascending : AllPairs (λ a b. slice_cmp nat_cmp a b ≡ Less) routes

-- an arc of a leg, which has no departure of its own
abbrev pub IsLegArc : Timed → ℕ → Type 0
IsLegArc t k = IsSome (leg_of t k) × (start_of t k ≡ None)

-- a start arc, which has the departure and no leg
abbrev pub IsStartArc : Timed → ℕ → ℕ → Type 0
IsStartArc t minute k = (start_of t k ≡ Some minute) × (leg_of t k ≡ None)

-- the first arc is a start arc with the first departure of the walk, and every other arc is that of a leg
abbrev pub BeginsOnce : Timed → List ℕ → Type 0
BeginsOnce t [] = ⊥
BeginsOnce t (k ∷ arcs) = IsStartArc t (first_departure (walk_of t (k ∷ arcs))) k × All (IsLegArc t) arcs

-- the paths from the start to an end are the walks of the path, one for each, in walk order, and every arc lies on one of them
pub record IsGraphOf (net : Net) (path : Path) (t : Timed) : Type 0 where
  pub sound : (arcs : List ℕ) → IsRoute t arcs → IsWalk net path (walk_of t arcs)
  pub whole : (legs : List Leg) → IsWalk net path legs → (arcs : List ℕ) × IsRoute t arcs × (walk_of t arcs ≡ legs)
  pub once : (a b : List ℕ) → IsRoute t a → IsRoute t b → walk_of t a ≡ walk_of t b → a ≡ b
  pub order : (a b : List ℕ) → IsRoute t a → IsRoute t b → slice_cmp nat_cmp a b ≡ walk_cmp (walk_of t a) (walk_of t b)
  pub begins : (arcs : List ℕ) → IsRoute t arcs → BeginsOnce t arcs
  pub trimmed : (k : ℕ) → k < length t.dag.arcs → (arcs : List ℕ) × IsRoute t arcs × Contains arcs k
  -- there is a list of all walks, with the paths beside it, and any such list is that of the paths
  pub all : (walks : List (List Leg)) × (routes : List (List ℕ)) × AreAllWalks net path walks × AreAllRoutes t routes × (map (walk_of t) routes ≡ walks)
  pub listed : (walks : List (List Leg)) → AreAllWalks net path walks → (routes : List (List ℕ)) × AreAllRoutes t routes × (map (walk_of t) routes ≡ walks)
  -- a path without a walk has a graph without arcs
  pub empty : ((legs : List Leg) → IsWalk net path legs → ⊥) → t.dag.arcs ≡ []
  pub laid_out : IsLaidOut t
