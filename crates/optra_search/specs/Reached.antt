-- The parts of a search, and what they are after a node was priced.
use Rattle.std.specs.Prelude.{ℕ, [], ◌∷◌, ◌++◌, length, Option, None, Some}
use Rattle.std.specs.Prelude.{ℤ}
use Rattle.std.specs.Int.{int_max}
use Rattle.optra_walk.specs.declared.Leg.{Leg}
use Rattle.optra_node.specs.declared.Item.TheVariants.{Split, Priced}
use Rattle.optra_node.specs.Duals.{PriceList}
use Rattle.optra_search.specs.declared.searching.Search.{Search}
use Rattle.optra_search.specs.Openings.{yes_child, no_child}
use Rattle.optra_search.specs.Searches.{Parts}

abbrev pub parts_of : {R : Type 0} → Search R → Parts R
parts_of s = record {
  node = s.node;
  waiting = s.waiting.items;
  items = s.items.items;
  incumbent = s.incumbent;
  revenue = s.revenue;
  bound = s.bound;
  count = s.count;
}

-- without a leg, the node is a leaf with the prices, and the bound is raised to its own; with one, it is split and its children wait
abbrev pub settled_as : {R : Type 0} → Parts R → Option (ℕ × Leg) → PriceList R → ℤ → Parts R
settled_as s None prices cents = record s { items = s.items ++ Priced prices ∷ []; bound = int_max s.bound cents }
settled_as s (Some found) prices cents = record s {
  waiting = (s.waiting ++ no_child (length s.node) found.0 found.1 prices ∷ []) ++ yes_child (length s.node) found.0 found.1 ∷ [];
  items = s.items ++ Split found.0 found.1 ∷ [];
}
