-- Open nodes as a stack: what each shares with the node taken last, what it decides itself, and its start prices.
use Rattle.std.specs.Prelude.{◌≡◌, ◌⊎◌, ℕ, ◌≤◌, List, [], ◌∷◌, ◌++◌, take, Option, None, Some, unwrap_or, All, Contains, ⊤}
use Rattle.std.specs.Prelude.{ℤ, pos, ◌≤ℤ◌, ◌<ℤ◌}
use Rattle.std.specs.Option.{option_to_list}
use Rattle.optra_network.specs.Net.{Net}
use Rattle.optra_bid.specs.declared.bids.Bid.{Bid}
use Rattle.optra_walk.specs.declared.Leg.{Leg}
use Rattle.optra_walk.specs.Families.{Rows}
use Rattle.optra_node.specs.declared.Decision.{Decision}
use Rattle.optra_node.specs.declared.Item.{Item}
use Rattle.optra_node.specs.declared.Item.TheVariants.{Priced}
use Rattle.optra_node.specs.Duals.{PriceList, whole_cents}
use Rattle.optra_node.specs.Trees.{decide, decide_not}
use Rattle.optra_node.specs.Certificates.{IsBoundOf, IsWithin}
use Rattle.optra_prices.specs.Replies.{Valuation}
use Rattle.optra_search.specs.Splits.{IsSplitLeg}
use Rattle.optra_search.specs.declared.waiting.Waiting.{Waiting}
use Rattle.optra_search.specs.Planner.{OpenNode, State}

-- a stack from its top down
abbrev pub front : {X : Type 0} → List X → List X
front [] = []
front (x ∷ xs) = front xs ++ x ∷ []

-- the decisions of a waiting node: those that it shares with the node taken last, and its own
abbrev pub decisions_of : {R : Type 0} → List Decision → Waiting R → List Decision
decisions_of path w = take w.depth path ++ option_to_list w.decision

-- the start prices of the next node below; zero prices where there is none
abbrev pub start_below : {R : Type 0} → List (Waiting R) → PriceList R
start_below [] = []
start_below (w ∷ ws) = unwrap_or w.start []

-- the open nodes, from the top down: a node without start prices of its own starts at those of the next one below
abbrev pub open_from : {R : Type 0} → List Decision → List (Waiting R) → List (OpenNode R)
open_from path [] = []
open_from path (w ∷ ws) = record { node = decisions_of path w; start = unwrap_or w.start (start_below ws) } ∷ open_from path ws

-- from the top down, each node shares no more than the one above it, and the top no more than there is
abbrev pub Nested : {R : Type 0} → ℕ → List (Waiting R) → Type 0
Nested depth [] = ⊤
Nested depth (w ∷ ws) = (w.depth ≤ depth) × Nested w.depth ws

-- what the state is of the node taken last, the waiting nodes, the items, the incumbent and the count
abbrev pub state_of : {R : Type 0} → List Decision → List (Waiting R) → List (Item R) → List (Option (List Leg)) → ℕ → State R
state_of path waiting items incumbent count = record { open_nodes = open_from path (front waiting); items = items; incumbent = incumbent; count = count }

-- of the leaves with prices so far, the greatest bound, and 0 where there is none above 0
pub record IsBoundSoFar {R : Type 0} (net : Net) (rows : Rows R) (bids : List Bid) (placed : List (List Decision × Item R)) (bound : ℤ) : Type 0 where
  pub least : pos 0 ≤ℤ bound
  pub each : All (λ p. IsWithin net rows bids bound p.0 p.1) placed
  pub reached : (bound ≡ pos 0) ⊎ ((at : List Decision) × (prices : PriceList R) × Contains placed (at, Priced prices) × IsBoundOf net rows bids at prices bound)

-- what a node becomes at the result of its price path: a leaf where no leg is given, and else split on the leg
abbrev pub IsOutcome : {R : Type 0} → Net → Rows R → List Bid → List Decision → Valuation → ℤ → Option (ℕ × Leg) → Type 0
IsOutcome net rows bids node v revenue None = whole_cents v.value ≤ℤ revenue
IsOutcome net rows bids node v revenue (Some found) = (revenue <ℤ whole_cents v.value) × IsSplitLeg net rows bids node v.replies found.0 found.1

-- the yes child and the no child of a split, by how many decisions they share
abbrev pub yes_child : {R : Type 0} → ℕ → ℕ → Leg → Waiting R
yes_child depth bid leg = record { depth = depth; decision = Some (decide bid leg); start = None }

abbrev pub no_child : {R : Type 0} → ℕ → ℕ → Leg → PriceList R → Waiting R
no_child depth bid leg prices = record { depth = depth; decision = Some (decide_not bid leg); start = Some prices }
