-- The tests of one leg and of one start that together tell the allowed walks.
use Rattle.std.specs.Prelude.{◌≡◌, ℕ, ◌≤◌, ◌<◌, true, false, List, All, IfSome}
use Rattle.optra_network.specs.Net.{Net}
use Rattle.optra_network.specs.declared.TypeId.{TypeId}
use Rattle.optra_bid.specs.declared.bids.Bid.{Bid}
use Rattle.optra_walk.specs.declared.Leg.{Leg}
use Rattle.optra_walk.specs.Legs.{next_depart_of}
use Rattle.optra_walk.specs.Families.{Rows}
use Rattle.optra_node.specs.declared.Decision.{Decision}
use Rattle.optra_node.specs.Nodes.{IsBlocked}

-- the leg's span, from its departure up to its next departure, holds the minute; the span of Finish has no end
pub record HoldsMinute (net : Net) (kind : TypeId) (leg : Leg) (minute : ℕ) : Type 0 where
  pub from : leg.depart ≤ minute
  pub to : IfSome (next_depart_of net kind leg) (λ next. minute < next)

-- the decision lets a walk have the leg
pub record Lets (net : Net) (kind : TypeId) (d : Decision) (leg : Leg) : Type 0 where
  pub yes : d.yes ≡ true → HoldsMinute net kind leg d.leg.depart → leg ≡ d.leg
  pub no : d.yes ≡ false → leg ≡ d.leg → ⊥

-- each decision for the bid lets it have the leg
abbrev pub IsLetBy : Net → List Decision → ℕ → TypeId → Leg → Type 0
IsLetBy net node number kind leg = All (λ d. d.bid ≡ number → Lets net kind d leg) node

-- each decision for the bid lets it have the leg, and the leg is not blocked
pub record IsLegOk {R : Type 0} (net : Net) (rows : Rows R) (bids : List Bid) (node : List Decision) (number : ℕ) (kind : TypeId) (leg : Leg) : Type 0 where
  pub let_by : IsLetBy net node number kind leg
  pub free : IsBlocked rows bids node number kind leg → ⊥

-- the bid may start at the minute: no yes leg of it departs before
abbrev pub IsStartOk : List Decision → ℕ → ℕ → Type 0
IsStartOk node number minute = All (λ d. d.bid ≡ number → d.yes ≡ true → minute ≤ d.leg.depart) node
