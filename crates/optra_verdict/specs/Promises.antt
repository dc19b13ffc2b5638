-- What a plan and a certificate promise, where the rows state the rule.
use Rattle.std.specs.Prelude.{◌≡◌, ◌↔◌, ℤ, List, Option}
use Rattle.std.specs.Prelude.{◌≤ℤ◌}
use Rattle.optra_network.specs.Net.{Net}
use Rattle.optra_bid.specs.declared.bids.Bid.{Bid}
use Rattle.optra_walk.specs.declared.Leg.{Leg}
use Rattle.optra_walk.specs.Choices.{IsChoice, IsConflictFree, IsOptimal, revenue_of}
use Rattle.optra_walk.specs.Families.{Entry, entries_of}

-- A choice keeps the rule of the rows exactly where it is free of conflict.
abbrev pub TellsConflicts : Net → List Bid → (List Entry → Type 0) → Type 0
TellsConflicts net bids Keeps =
    (walks : List (Option (List Leg))) → IsChoice net bids walks → Keeps (entries_of bids walks) ↔ IsConflictFree net bids walks

-- The planning promise: the choice is free of conflict and earns the revenue; no choice that is free of conflict earns
-- more than the bound; and where the two meet, the choice is optimal.
pub record KeepsPromise (net : Net) (bids : List Bid) (walks : List (Option (List Leg))) (revenue bound : ℤ) : Type 0 where
  pub free : IsConflictFree net bids walks
  pub earns : revenue ≡ revenue_of net bids walks
  pub bounded : (other : List (Option (List Leg))) → IsConflictFree net bids other → revenue_of net bids other ≤ℤ bound
  pub optimal : revenue ≡ bound → IsOptimal net bids walks
