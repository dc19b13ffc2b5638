-- When the four parts of a certificate are formed, and when they are valid.
use Rattle.std.specs.Prelude.{◌≡◌, ℕ, ◌<◌, List, length, All, Contains, Option, slice_get, IfSome, IsSomeAnd, ⊤}
use Rattle.std.specs.Prelude.{ℤ, ◌≤ℤ◌}
use Rattle.std.specs.List.{AllPairs}
use Rattle.std.specs.declared.cmp.Ordering.{Ordering}
use Rattle.std.specs.declared.cmp.Ordering.TheVariants.{Less}
use Rattle.optra_network.specs.Net.{Net}
use Rattle.optra_bid.specs.declared.bids.Bid.{Bid}
use Rattle.optra_walk.specs.declared.Leg.{Leg}
use Rattle.optra_walk.specs.Choices.{IsChoice, revenue_of}
use Rattle.optra_walk.specs.Families.{Rows, Entry, entries_of}
use Rattle.optra_node.specs.declared.Decision.{Decision}
use Rattle.optra_node.specs.declared.Item.{Item}
use Rattle.optra_node.specs.declared.Item.TheVariants.{Split, NoWalk, Forced, Priced}
use Rattle.optra_node.specs.Nodes.{IsFormedLeg, IsUndecided, IsOverfull}
use Rattle.optra_node.specs.Duals.{PriceList, ArePrices, IsStuck, IsDual, whole_cents}
use Rattle.optra_node.specs.Trees.{IsTree, places}

-- a list of formed legs that is not empty
pub record IsFormedWalk (net : Net) (legs : List Leg) : Type 0 where
  pub some : 0 < length legs
  pub formed : All (IsFormedLeg net) legs

-- the rows ascend strictly
abbrev pub AreAscending : {R : Type 0} → (R → R → Ordering) → PriceList R → Type 0
AreAscending cmp prices = AllPairs (λ a b. cmp a.0 b.0 ≡ Less) prices

abbrev pub IsFormedItem : {R : Type 0} → (R → R → Ordering) → Net → ℕ → Item R → Type 0
IsFormedItem cmp net bids (Split bid leg) = (bid < bids) × IsFormedLeg net leg
IsFormedItem cmp net bids (NoWalk bid) = bid < bids
IsFormedItem cmp net bids (Forced row) = ⊤
IsFormedItem cmp net bids (Priced prices) = AreAscending cmp prices

pub record IsFormed {R : Type 0} (cmp : R → R → Ordering) (net : Net) (bids : ℕ) (choice : List (Option (List Leg))) (tree : List (Item R)) : Type 0 where
  pub entries : length choice ≡ bids
  pub walks : All (λ walk. IfSome walk (IsFormedWalk net)) choice
  pub whole : IsTree tree
  pub items : All (IsFormedItem cmp net bids) tree

-- a split is of a leg that is not decided at its node
abbrev pub SplitsUndecided : {R : Type 0} → List Decision → Item R → Type 0
SplitsUndecided node (Split bid leg) = IsUndecided node bid leg
SplitsUndecided node (NoWalk bid) = ⊤
SplitsUndecided node (Forced row) = ⊤
SplitsUndecided node (Priced prices) = ⊤

-- a leaf without prices shows why no choice that keeps the rule is of its node
abbrev pub EndsDead : {R : Type 0} → Net → Rows R → List Bid → List Decision → Item R → Type 0
EndsDead net rows bids node (Split bid leg) = ⊤
EndsDead net rows bids node (NoWalk bid) = IsSomeAnd (slice_get bids bid) (λ b. IsStuck net rows bids node bid b)
EndsDead net rows bids node (Forced row) = IsOverfull rows bids node row
EndsDead net rows bids node (Priced prices) = ⊤

abbrev pub HasPrices : {R : Type 0} → Rows R → Item R → Type 0
HasPrices rows (Split bid leg) = ⊤
HasPrices rows (NoWalk bid) = ⊤
HasPrices rows (Forced row) = ⊤
HasPrices rows (Priced prices) = ArePrices rows prices

-- the node has this dual value at the prices, in whole cents and rounded down
pub record IsBoundOf {R : Type 0} (net : Net) (rows : Rows R) (bids : List Bid) (node : List Decision) (prices : PriceList R) (cents : ℤ) : Type 0 where
  pub terms : List ℤ
  pub value : ℤ
  pub dual : IsDual net rows bids node prices terms value
  pub cents_is : cents ≡ whole_cents value

-- a priced leaf has a bound, which is at most this one
abbrev pub IsWithin : {R : Type 0} → Net → Rows R → List Bid → ℤ → List Decision → Item R → Type 0
IsWithin net rows bids bound node (Split bid leg) = ⊤
IsWithin net rows bids bound node (NoWalk bid) = ⊤
IsWithin net rows bids bound node (Forced row) = ⊤
IsWithin net rows bids bound node (Priced prices) = (cents : ℤ) × IsBoundOf net rows bids node prices cents × (cents ≤ℤ bound)

-- the bound is the greatest of the priced leaves' bounds
pub record IsGreatestBound {R : Type 0} (net : Net) (rows : Rows R) (bids : List Bid) (tree : List (Item R)) (bound : ℤ) : Type 0 where
  pub each : All (λ p. IsWithin net rows bids bound p.0 p.1) (places tree)
  pub reached : (node : List Decision) × (prices : PriceList R) × Contains (places tree) (node, Priced prices) × IsBoundOf net rows bids node prices bound

pub record IsValid {R : Type 0} (net : Net) (rows : Rows R) (Keeps : List Entry → Type 0) (bids : List Bid) (revenue bound : ℤ) (choice : List (Option (List Leg))) (tree : List (Item R)) : Type 0 where
  pub walks : IsChoice net bids choice
  pub rule : Keeps (entries_of bids choice)
  pub revenue_is : revenue ≡ revenue_of net bids choice
  pub splits : All (λ p. SplitsUndecided p.0 p.1) (places tree)
  pub dead : All (λ p. EndsDead net rows bids p.0 p.1) (places tree)
  pub prices : All (HasPrices rows) tree
  pub bound_is : IsGreatestBound net rows bids tree bound
