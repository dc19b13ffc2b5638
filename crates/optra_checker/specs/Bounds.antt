-- The greatest bound of the leaves with prices.
use Rattle.std.specs.Prelude.{◌≡◌, List, length, Option, None, Some, IsSomeAnd, All, Contains, ⊤}
use Rattle.std.specs.Prelude.{ℤ}
use Rattle.std.specs.declared.cmp.Ordering.{Ordering}
use Rattle.optra_network.specs.Net.{Net}
use Rattle.optra_bid.specs.declared.bids.Bid.{Bid}
use Rattle.optra_walk.specs.Families.{Rows}
use Rattle.optra_node.specs.declared.Decision.{Decision}
use Rattle.optra_node.specs.declared.Item.{Item}
use Rattle.optra_node.specs.declared.Item.TheVariants.{Split, NoWalk, Forced, Priced}
use Rattle.optra_node.specs.Duals.{PriceList}
use Rattle.optra_node.specs.Trees.{IsTree, places}
use Rattle.optra_node.specs.Certificates.{IsBoundOf, IsWithin, IsFormedItem, SplitsUndecided, HasPrices}

-- the item has no prices
abbrev pub IsUnpriced : {R : Type 0} → Item R → Type 0
IsUnpriced (Split bid leg) = ⊤
IsUnpriced (NoWalk bid) = ⊤
IsUnpriced (Forced row) = ⊤
IsUnpriced (Priced prices) = ⊥

-- the bound of a leaf with prices; none of any other item
abbrev pub IsItemBound : {R : Type 0} → Net → Rows R → List Bid → List Decision → Item R → Option ℤ → Type 0
IsItemBound net rows bids node (Split bid leg) cents = cents ≡ None
IsItemBound net rows bids node (NoWalk bid) cents = cents ≡ None
IsItemBound net rows bids node (Forced row) cents = cents ≡ None
IsItemBound net rows bids node (Priced prices) cents = IsSomeAnd cents (IsBoundOf net rows bids node prices)

-- the greatest bound of the placed leaves with prices; none where there is no such leaf
abbrev pub IsGreatestOf : {R : Type 0} → Net → Rows R → List Bid → List (List Decision × Item R) → Option ℤ → Type 0
IsGreatestOf net rows bids placed None = All (λ p. IsUnpriced p.1) placed
IsGreatestOf {R} net rows bids placed (Some bound) =
    All (λ p. IsWithin net rows bids bound p.0 p.1) placed
    × ((node : List Decision) × (prices : PriceList R) × Contains placed (node, Priced prices) × IsBoundOf net rows bids node prices bound)

-- a tree whose leaves may be bounded: it is whole, its items are formed, its splits are of legs that are not decided yet, and
-- its prices are of rows
pub record IsSoundTree {R : Type 0} (cmp : R → R → Ordering) (net : Net) (rows : Rows R) (bids : List Bid) (tree : List (Item R)) : Type 0 where
  pub whole : IsTree tree
  pub items : All (IsFormedItem cmp net (length bids)) tree
  pub splits : All (λ p. SplitsUndecided p.0 p.1) (places tree)
  pub prices : All (HasPrices rows) tree
