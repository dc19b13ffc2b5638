-- What a choice earns at most that serves a bid, and one that leaves it out, by the leaves of a certificate. Each leaf may have
-- prices of its own choosing, those of the certificate or others.
use Rattle.std.specs.Prelude.{◌≡◌, ℕ, true, false, List, All, Contains, ◌⊎◌, Option, None, Some, slice_get, IfSome, IsSomeAnd, ⊤}
use Rattle.std.specs.Prelude.{ℤ, ◌+ℤ◌, ◌-ℤ◌, ◌≤ℤ◌}
use Rattle.optra_network.specs.Net.{Net}
use Rattle.optra_bid.specs.declared.bids.Bid.{Bid}
use Rattle.optra_walk.specs.declared.Leg.{Leg}
use Rattle.optra_walk.specs.Choices.{IsChoice, revenue_of}
use Rattle.optra_walk.specs.Families.{Rows, Entry, entries_of}
use Rattle.optra_node.specs.declared.Decision.{Decision}
use Rattle.optra_node.specs.declared.Item.{Item}
use Rattle.optra_node.specs.declared.Item.TheVariants.{Split, NoWalk, Forced, Priced}
use Rattle.optra_node.specs.Nodes.{has_yes, IsAllowed}
use Rattle.optra_node.specs.Duals.{PriceList, ArePrices, IsGreatest, IsDead, IsDual, reduced_value, whole_cents}
use Rattle.optra_node.specs.Trees.{IsTree, places}
use Rattle.optra_node.specs.Certificates.{SplitsUndecided, EndsDead}

-- what one of the bid's allowed walks is worth at the prices
abbrev pub IsReduced : {R : Type 0} → Net → Rows R → List Bid → List Decision → PriceList R → ℕ → Bid → ℤ → Type 0
IsReduced net rows bids node prices number bid n = (legs : List Leg) × IsAllowed net rows bids node number bid legs × (n ≡ reduced_value net rows prices bid legs)

-- a node that counts, since no bid is stuck there, with its dual value at the prices and the bid's term in it
pub record IsCounted {R : Type 0} (net : Net) (rows : Rows R) (bids : List Bid) (node : List Decision) (prices : PriceList R) (number : ℕ) (value term : ℤ) : Type 0 where
  pub terms : List ℤ
  pub dual : IsDual net rows bids node prices terms value
  pub live : IsDead net rows bids node → ⊥
  pub at : slice_get terms number ≡ Some term

-- with the bid served: the dual value with the bid's best reduced value in place of its term
pub record IsServedValue {R : Type 0} (net : Net) (rows : Rows R) (bids : List Bid) (node : List Decision) (prices : PriceList R) (number : ℕ) (bid : Bid) (n : ℤ) : Type 0 where
  pub value : ℤ
  pub term : ℤ
  pub best : ℤ
  pub counted : IsCounted net rows bids node prices number value term
  pub greatest : IsGreatest (IsReduced net rows bids node prices number bid) best
  pub is : n ≡ value -ℤ term +ℤ best

-- none where the node doesn't count, or allows no walk of the bid
abbrev pub IsServedAt : {R : Type 0} → Net → Rows R → List Bid → List Decision → PriceList R → ℕ → Bid → Option ℤ → Type 0
IsServedAt net rows bids node prices number bid None = IsDead net rows bids node ⊎ ((legs : List Leg) → IsAllowed net rows bids node number bid legs → ⊥)
IsServedAt net rows bids node prices number bid (Some n) = IsServedValue net rows bids node prices number bid n

-- with the bid left out: the dual value without the bid's term
pub record IsLeftValue {R : Type 0} (net : Net) (rows : Rows R) (bids : List Bid) (node : List Decision) (prices : PriceList R) (number : ℕ) (n : ℤ) : Type 0 where
  pub value : ℤ
  pub term : ℤ
  pub counted : IsCounted net rows bids node prices number value term
  pub free : has_yes node number ≡ false
  pub is : n ≡ value -ℤ term

-- none where the node doesn't count, or the bid has a yes leg
abbrev pub IsLeftAt : {R : Type 0} → Net → Rows R → List Bid → List Decision → PriceList R → ℕ → Option ℤ → Type 0
IsLeftAt net rows bids node prices number None = IsDead net rows bids node ⊎ (has_yes node number ≡ true)
IsLeftAt net rows bids node prices number (Some n) = IsLeftValue net rows bids node prices number n

-- what a leaf says is at most so many whole cents; a leaf that says nothing is
abbrev pub IsAtMost : Option ℤ → Option ℤ → Type 0
IsAtMost None most = ⊤
IsAtMost (Some n) most = IsSomeAnd most (λ cents. whole_cents n ≤ℤ cents)

-- each priced leaf says at most this, by a figure of each node
abbrev pub IsSaidWithin : {R : Type 0} → (List Decision → Option ℤ → Type 0) → Option ℤ → List Decision → Item R → Type 0
IsSaidWithin Says most node (Split bid leg) = ⊤
IsSaidWithin Says most node (NoWalk bid) = ⊤
IsSaidWithin Says most node (Forced row) = ⊤
IsSaidWithin Says most node (Priced prices) = (said : Option ℤ) × Says node said × IsAtMost said most

-- the greatest that a priced leaf says, in whole cents; none where no leaf says anything
pub record IsMostSaid {R : Type 0} (Says : List Decision → Option ℤ → Type 0) (tree : List (Item R)) (most : Option ℤ) : Type 0 where
  pub each : All (λ p. IsSaidWithin Says most p.0 p.1) (places tree)
  pub reached : IfSome most (λ cents. (node : List Decision) × (prices : PriceList R) × Contains (places tree) (node, Priced prices) × (n : ℤ) × Says node (Some n) × (cents ≡ whole_cents n))

-- what a choice earns at most that serves the bid, with these prices at each leaf; none where there is no such choice
abbrev pub IsMostWith : {R : Type 0} → Net → Rows R → List Bid → List (Item R) → (List Decision → PriceList R) → ℕ → Bid → Option ℤ → Type 0
IsMostWith net rows bids tree prices_at number bid most = IsMostSaid (λ node said. IsServedAt net rows bids node (prices_at node) number bid said) tree most

-- what a choice earns at most that leaves the bid out
abbrev pub IsMostWithout : {R : Type 0} → Net → Rows R → List Bid → List (Item R) → (List Decision → PriceList R) → ℕ → Option ℤ → Type 0
IsMostWithout net rows bids tree prices_at number most = IsMostSaid (λ node said. IsLeftAt net rows bids node (prices_at node) number said) tree most

-- splits are of undecided legs, and the leaves without prices are dead
pub record IsCover {R : Type 0} (net : Net) (rows : Rows R) (bids : List Bid) (tree : List (Item R)) : Type 0 where
  pub whole : IsTree tree
  pub splits : All (λ p. SplitsUndecided p.0 p.1) (places tree)
  pub dead : All (λ p. EndsDead net rows bids p.0 p.1) (places tree)

-- a choice that keeps the rule and serves the bid earns at most that, and there is none where that is none
abbrev pub WithHolds : {R : Type 0} → Net → Rows R → (List Entry → Type 0) → List Bid → Type 0
WithHolds {R} net rows Keeps bids =
    (tree : List (Item R)) (prices_at : List Decision → PriceList R) (number : ℕ) (bid : Bid) (most : Option ℤ) (walks : List (Option (List Leg))) (legs : List Leg)
    → IsCover net rows bids tree → ((node : List Decision) → ArePrices rows (prices_at node)) → slice_get bids number ≡ Some bid
    → IsMostWith net rows bids tree prices_at number bid most
    → IsChoice net bids walks → Keeps (entries_of bids walks) → slice_get walks number ≡ Some (Some legs)
    → IsSomeAnd most (λ cents. revenue_of net bids walks ≤ℤ cents)

-- a choice that keeps the rule and leaves the bid out earns at most that
abbrev pub WithoutHolds : {R : Type 0} → Net → Rows R → (List Entry → Type 0) → List Bid → Type 0
WithoutHolds {R} net rows Keeps bids =
    (tree : List (Item R)) (prices_at : List Decision → PriceList R) (number : ℕ) (bid : Bid) (most : Option ℤ) (walks : List (Option (List Leg)))
    → IsCover net rows bids tree → ((node : List Decision) → ArePrices rows (prices_at node)) → slice_get bids number ≡ Some bid
    → IsMostWithout net rows bids tree prices_at number most
    → IsChoice net bids walks → Keeps (entries_of bids walks) → slice_get walks number ≡ Some None
    → IsSomeAnd most (λ cents. revenue_of net bids walks ≤ℤ cents)
