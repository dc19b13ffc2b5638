-- A choice that keeps the rule of rows keeps the planning promise where the rule is freedom of conflict.
use Rattle.std.proofs.Common.{List, Option, sym, ◌∙◌, subst}
use Rattle.std.specs.Prelude.{◌≤ℤ◌, ℤ}
use Rattle.optra_network.specs.Net.{Net}
use Rattle.optra_bid.specs.declared.bids.Bid.{Bid}
use Rattle.optra_walk.specs.declared.Leg.{Leg}
use Rattle.optra_walk.specs.Choices.{IsChoice, IsConflictFree, revenue_of}
use Rattle.optra_walk.specs.Families.{Rows, Entry, entries_of}
use Rattle.optra_node.specs.Certificates.{IsValid}
use Rattle.optra_node.specs.Laws.{BoundHolds}
use Rattle.optra_node.specs.Trees.{IsTree}
use Rattle.optra_node.specs.declared.Item.{Item}
use Rattle.optra_verdict.specs.Promises.{TellsConflicts, KeepsPromise}

module _ {R : Type 0} (net : Net) (rows : Rows R) (Keeps : List Entry → Type 0) (bids : List Bid) (tells : TellsConflicts net bids Keeps) where
  -- what a valid certificate says of its choice, and a bound on all that keep the rule, is the promise
  pub promise-from_bounded : (revenue bound : ℤ) (choice : List (Option (List Leg))) (tree : List (Item R)) → IsValid net rows Keeps bids revenue bound choice tree
      → ((walks : List (Option (List Leg))) → IsChoice net bids walks → Keeps (entries_of bids walks) → revenue_of net bids walks ≤ℤ bound) → KeepsPromise net bids choice revenue bound
  promise-from_bounded revenue bound choice tree valid most = record {
    free = free;
    earns = valid.revenue_is;
    bounded = bounded;
    optimal = λ meet. record { free = free; most = λ other is_free. subst (λ z. revenue_of net bids other ≤ℤ z) (sym meet ∙ valid.revenue_is) (bounded other is_free) };
  }
    where
      free : IsConflictFree net bids choice
      free = (tells choice valid.walks).0 valid.rule

      bounded : (other : List (Option (List Leg))) → IsConflictFree net bids other → revenue_of net bids other ≤ℤ bound
      bounded other is_free = most other is_free.choice ((tells other is_free.choice).1 is_free)

  -- a valid certificate keeps the promise
  pub promise-from_valid : BoundHolds net rows Keeps bids → (revenue bound : ℤ) (choice : List (Option (List Leg))) (tree : List (Item R)) → IsTree tree → IsValid net rows Keeps bids revenue bound choice tree
      → KeepsPromise net bids choice revenue bound
  promise-from_valid holds revenue bound choice tree whole valid =
      promise-from_bounded revenue bound choice tree valid (λ other choice_of keeps. holds revenue bound choice tree other whole valid choice_of keeps)
