-- The decisions of a node by the bids that they are for.
use Rattle.std.specs.Prelude.{◌≡◌, ℕ, ◌<◌, Bool, [], nat_eq, List, length, filter, map, Some, slice_get, slice_index_or}
use Rattle.optra_node.specs.declared.Decision.{Decision}

-- whether the decision is for the bid
abbrev pub is_for : ℕ → Decision → Bool
is_for bid d = nat_eq d.bid bid

-- the decisions for a bid, in the node's order
abbrev pub decisions_for : List Decision → ℕ → List Decision
decisions_for node bid = filter (is_for bid) node

-- a list for each bid, of the decisions for it
pub record AreByBid (bids : ℕ) (node : List Decision) (lists : List (List Decision)) : Type 0 where
  pub count : length lists ≡ bids
  pub each : (bid : ℕ) → bid < bids → slice_get lists bid ≡ Some (decisions_for node bid)

-- at the places of the node stand the decisions
abbrev pub AreAt : List Decision → List ℕ → List Decision → Type 0
AreAt node places decisions = map (slice_get node) places ≡ map Some decisions

-- a list for each bid, of the places in the node at which the decisions for it stand that are among these
pub record ArePlacesByBid (bids : ℕ) (node decisions : List Decision) (lists : List (List ℕ)) : Type 0 where
  pub count : length lists ≡ bids
  pub each : (bid : ℕ) → bid < bids → AreAt node (slice_index_or lists bid []) (decisions_for decisions bid)
