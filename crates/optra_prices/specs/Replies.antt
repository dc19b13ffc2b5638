-- What the bids reply at prices.
use Rattle.std.specs.Prelude.{◌≡◌, ◌⊎◌, ℕ, true, false, List, length, Option, None, Some, slice_get}
use Rattle.std.specs.Prelude.{ℤ, pos, ◌≤ℤ◌, ◌<ℤ◌}
use Rattle.std.specs.Ordering.{is_gt}
use Rattle.optra_network.specs.Net.{Net}
use Rattle.optra_bid.specs.declared.bids.Bid.{Bid}
use Rattle.optra_walk.specs.declared.Leg.{Leg}
use Rattle.optra_walk.specs.Families.{Rows}
use Rattle.optra_walk.specs.Orders.{walk_cmp}
use Rattle.optra_node.specs.declared.Decision.{Decision}
use Rattle.optra_node.specs.Nodes.{has_yes, IsAllowed}
use Rattle.optra_node.specs.Duals.{PriceList, reduced_value, IsDual}

-- of the allowed walks of the bid, the first one in walk order among those of greatest reduced value
pub record IsFirstGreatest {R : Type 0} (net : Net) (rows : Rows R) (bids : List Bid) (node : List Decision) (prices : PriceList R) (number : ℕ) (bid : Bid) (legs : List Leg) : Type 0 where
  pub allowed : IsAllowed net rows bids node number bid legs
  pub greatest : (other : List Leg) → IsAllowed net rows bids node number bid other → reduced_value net rows prices bid other ≤ℤ reduced_value net rows prices bid legs
  pub first : (other : List Leg) → IsAllowed net rows bids node number bid other → reduced_value net rows prices bid other ≡ reduced_value net rows prices bid legs → is_gt (walk_cmp legs other) ≡ false

-- no walk is allowed
abbrev pub AllowsNone : {R : Type 0} → Net → Rows R → List Bid → List Decision → ℕ → Bid → Type 0
AllowsNone net rows bids node number bid = (legs : List Leg) → IsAllowed net rows bids node number bid legs → ⊥

-- the bid has no yes leg, and no allowed walk has a reduced value above zero
pub record GainsNothing {R : Type 0} (net : Net) (rows : Rows R) (bids : List Bid) (node : List Decision) (prices : PriceList R) (number : ℕ) (bid : Bid) : Type 0 where
  pub free : has_yes node number ≡ false
  pub most : (legs : List Leg) → IsAllowed net rows bids node number bid legs → reduced_value net rows prices bid legs ≤ℤ pos 0

-- the reply of a bid: the first greatest of its allowed walks; none where no walk is allowed, or where that walk's
-- reduced value is not above zero and the bid has no yes leg
abbrev pub IsReply : {R : Type 0} → Net → Rows R → List Bid → List Decision → PriceList R → ℕ → Bid → Option (List Leg) → Type 0
IsReply net rows bids node prices number bid None =
    AllowsNone net rows bids node number bid ⊎ GainsNothing net rows bids node prices number bid
IsReply net rows bids node prices number bid (Some legs) =
    IsFirstGreatest net rows bids node prices number bid legs × ((has_yes node number ≡ true) ⊎ (pos 0 <ℤ reduced_value net rows prices bid legs))

-- one reply for each bid
pub record AreReplies {R : Type 0} (net : Net) (rows : Rows R) (bids : List Bid) (node : List Decision) (prices : PriceList R) (replies : List (Option (List Leg))) : Type 0 where
  pub count : length replies ≡ length bids
  pub each : (number : ℕ) (bid : Bid) (reply : Option (List Leg)) → slice_get bids number ≡ Some bid → slice_get replies number ≡ Some reply → IsReply net rows bids node prices number bid reply

-- a dual value, with the reply and the term of each bid
pub record Valuation : Type 0 where
  pub value : ℤ
  pub replies : List (Option (List Leg))
  pub terms : List ℤ

-- the dual value of the node at the prices, with its terms and the replies
pub record IsValuation {R : Type 0} (net : Net) (rows : Rows R) (bids : List Bid) (node : List Decision) (prices : PriceList R) (v : Valuation) : Type 0 where
  pub dual : IsDual net rows bids node prices v.terms v.value
  pub replies : AreReplies net rows bids node prices v.replies
