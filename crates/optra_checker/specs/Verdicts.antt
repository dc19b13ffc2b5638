-- What a check of a certificate says.
use Rattle.std.specs.Prelude.{◌≡◌, List, All}
use Rattle.optra_network.specs.Net.{Net}
use Rattle.optra_bid.specs.declared.bids.Bid.{Bid}
use Rattle.optra_walk.specs.Choices.{IsChoice, revenue_of}
use Rattle.optra_walk.specs.Families.{Rows, Entry, entries_of}
use Rattle.optra_node.specs.Certificates.{SplitsUndecided, EndsDead, HasPrices, IsGreatestBound, IsValid}
use Rattle.optra_node.specs.Trees.{places}
use Rattle.optra_cert.specs.Certs.{Cert}
use Rattle.optra_checker.specs.declared.Reason.{Reason}
use Rattle.optra_checker.specs.declared.Reason.TheVariants.{Walk, Conflict, Revenue, Decision, DeadLeaf, Price, Bound}
use Rattle.optra_checker.specs.declared.Verdict.{Verdict}
use Rattle.optra_checker.specs.declared.Verdict.TheVariants.{Yes, No}

-- the legs listed for each bid are a walk of it
abbrev pub WalksHold : {R : Type 0} → Net → List Bid → Cert R → Type 0
WalksHold net bids cert = IsChoice net bids cert.choice

-- the choice keeps the rule
abbrev pub RuleHolds : {R : Type 0} → (List Entry → Type 0) → List Bid → Cert R → Type 0
RuleHolds Keeps bids cert = Keeps (entries_of bids cert.choice)

-- the stated revenue is what the walks are worth together
abbrev pub RevenueHolds : {R : Type 0} → Net → List Bid → Cert R → Type 0
RevenueHolds net bids cert = cert.revenue ≡ revenue_of net bids cert.choice

-- each split is of a leg that is not decided at its node
abbrev pub SplitsHold : {R : Type 0} → Cert R → Type 0
SplitsHold cert = All (λ p. SplitsUndecided p.0 p.1) (places cert.tree)

-- each leaf without prices is dead
abbrev pub LeavesHold : {R : Type 0} → Net → Rows R → List Bid → Cert R → Type 0
LeavesHold net rows bids cert = All (λ p. EndsDead net rows bids p.0 p.1) (places cert.tree)

-- each listed price is one that may be listed, of a row
abbrev pub PricesHold : {R : Type 0} → Rows R → Cert R → Type 0
PricesHold rows cert = All (HasPrices rows) cert.tree

-- the stated bound is the greatest bound of the leaves with prices
abbrev pub BoundHolds : {R : Type 0} → Net → Rows R → List Bid → Cert R → Type 0
BoundHolds net rows bids cert = IsGreatestBound net rows bids cert.tree cert.bound

-- the parts that speak of the choice
pub record ChoiceHolds {R : Type 0} (net : Net) (Keeps : List Entry → Type 0) (bids : List Bid) (cert : Cert R) : Type 0 where
  pub walks : WalksHold net bids cert
  pub rule : RuleHolds Keeps bids cert
  pub revenue_is : RevenueHolds net bids cert

-- the parts that speak of the tree
pub record TreeHolds {R : Type 0} (net : Net) (rows : Rows R) (bids : List Bid) (cert : Cert R) : Type 0 where
  pub splits : SplitsHold cert
  pub dead : LeavesHold net rows bids cert
  pub prices : PricesHold rows cert
  pub bound_is : BoundHolds net rows bids cert

-- the reason is the first, in the order of the reasons, whose part of being valid fails
abbrev pub IsFirstReason : {R : Type 0} → Net → Rows R → (List Entry → Type 0) → List Bid → Cert R → Reason → Type 0
IsFirstReason net rows Keeps bids cert Walk = WalksHold net bids cert → ⊥
IsFirstReason net rows Keeps bids cert Conflict = WalksHold net bids cert × (RuleHolds Keeps bids cert → ⊥)
IsFirstReason net rows Keeps bids cert Revenue =
    WalksHold net bids cert × RuleHolds Keeps bids cert × (RevenueHolds net bids cert → ⊥)
IsFirstReason net rows Keeps bids cert Decision = ChoiceHolds net Keeps bids cert × (SplitsHold cert → ⊥)
IsFirstReason net rows Keeps bids cert DeadLeaf = ChoiceHolds net Keeps bids cert × SplitsHold cert × (LeavesHold net rows bids cert → ⊥)
IsFirstReason net rows Keeps bids cert Price =
    ChoiceHolds net Keeps bids cert × SplitsHold cert × LeavesHold net rows bids cert × (PricesHold rows cert → ⊥)
IsFirstReason net rows Keeps bids cert Bound =
    ChoiceHolds net Keeps bids cert × SplitsHold cert × LeavesHold net rows bids cert × PricesHold rows cert
    × (BoundHolds net rows bids cert → ⊥)

-- Yes, with the stated numbers, of a valid certificate; else No, with the first reason
abbrev pub IsVerdict : {R : Type 0} → Net → Rows R → (List Entry → Type 0) → List Bid → Cert R → Verdict → Type 0
IsVerdict net rows Keeps bids cert (Yes revenue bound) =
    IsValid net rows Keeps bids cert.revenue cert.bound cert.choice cert.tree × (revenue ≡ cert.revenue) × (bound ≡ cert.bound)
IsVerdict net rows Keeps bids cert (No reason) = IsFirstReason net rows Keeps bids cert reason
