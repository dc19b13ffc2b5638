-- What the arcs of a bid's graph add to the reduced value of a walk, and what a search over them finds.
use Rattle.std.specs.Prelude.{◌≡◌, ◌⊎◌, ◌↔◌, ℕ, ◌<◌, Bool, true, false, List, [], ◌∷◌, length, Option, None, Some}
use Rattle.std.specs.Prelude.{ℤ, pos, negsuc, ◌-ℤ◌, ◌≤ℤ◌, ◌<ℤ◌}
use Rattle.optra_network.specs.Net.{Net}
use Rattle.optra_bid.specs.Specs.{IsBetween}
use Rattle.optra_bid.specs.declared.bids.Bid.{Bid}
use Rattle.optra_walk.specs.declared.Leg.{Leg}
use Rattle.optra_walk.specs.Families.{Rows}
use Rattle.optra_walk.specs.Shares.{start_value, leg_value}
use Rattle.optra_dag.specs.Paths.{Graph, IsPath, IsFirstBest, weight_of}
use Rattle.optra_graph.specs.Timed.{Timed, leg_of, start_of, walk_of}
use Rattle.optra_node.specs.declared.Decision.{Decision}
use Rattle.optra_node.specs.Duals.{PriceList, leg_price}
use Rattle.optra_node.specs.Spans.{IsLegOk, IsStartOk}

-- an arc may be taken where its start or its leg passes the node's test, and it weighs what that adds, less the prices of the rows used
pub record AreWeighed {R : Type 0} (net : Net) (rows : Rows R) (bids : List Bid) (node : List Decision) (prices : PriceList R) (number : ℕ) (bid : Bid) (t : Timed) (allows : ℕ → Bool) (weight : ℕ → ℤ) : Type 0 where
  pub start_allowed : (k minute : ℕ) → k < length t.dag.arcs → start_of t k ≡ Some minute → (allows k ≡ true) ↔ IsStartOk node number minute
  pub start_weight : (k minute : ℕ) → k < length t.dag.arcs → start_of t k ≡ Some minute → weight k ≡ start_value bid minute
  pub leg_allowed : (k : ℕ) (leg : Leg) → k < length t.dag.arcs → leg_of t k ≡ Some leg → (allows k ≡ true) ↔ IsLegOk net rows bids node number bid.path.kind leg
  pub leg_weight : (k : ℕ) (leg : Leg) → k < length t.dag.arcs → leg_of t k ≡ Some leg → weight k ≡ leg_value net bid leg -ℤ leg_price rows prices bid.path.kind leg

-- no allowed path ends
pub record FindsNone (g : Graph) (allows : ℕ → Bool) (forced : Bool) (path : List ℕ) (term : ℤ) (stuck : Bool) : Type 0 where
  pub none : (other : List ℕ) → IsPath g allows other → ⊥
  pub path_is : path ≡ []
  pub term_is : term ≡ pos 0
  pub stuck_is : stuck ≡ forced

-- a walk need not be taken, and none is worth anything
pub record FindsNothing (g : Graph) (allows : ℕ → Bool) (weight : ℕ → ℤ) (forced : Bool) (path : List ℕ) (term : ℤ) (stuck : Bool) : Type 0 where
  pub free : forced ≡ false
  pub most : (other : List ℕ) → IsPath g allows other → weight_of weight other ≤ℤ pos 0
  pub path_is : path ≡ []
  pub term_is : term ≡ pos 0
  pub stuck_is : stuck ≡ false

-- the first best path is taken
pub record FindsPath (g : Graph) (allows : ℕ → Bool) (weight : ℕ → ℤ) (forced : Bool) (path : List ℕ) (term : ℤ) (stuck : Bool) : Type 0 where
  pub best : IsFirstBest g allows weight term path
  pub worth : (forced ≡ true) ⊎ (pos 0 <ℤ term)
  pub stuck_is : stuck ≡ false

-- what a search finds for a bid that is forced to have a walk, or is not
abbrev pub IsFound : Graph → (ℕ → Bool) → (ℕ → ℤ) → Bool → List ℕ → ℤ → Bool → Type 0
IsFound g allows weight forced path term stuck =
    FindsNone g allows forced path term stuck ⊎ (FindsNothing g allows weight forced path term stuck ⊎ FindsPath g allows weight forced path term stuck)

-- in thousandths of a cent, what an arc adds apart from the prices of rows
abbrev pub IsArcValue : ℤ → Type 0
IsArcValue z = IsBetween (negsuc 999999999999999) (pos 1000000000000000) z

-- the reply of a path that was found: none where it is empty
abbrev pub path_reply : Timed → List ℕ → Option (List Leg)
path_reply t [] = None
path_reply t (k ∷ arcs) = Some (walk_of t (k ∷ arcs))
