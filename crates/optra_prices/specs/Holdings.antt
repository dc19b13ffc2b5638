-- The price of each row and how much of it is used, in a map.
use Rattle.std.specs.Prelude.{◌≡◌, ℕ, ◌+◌, min, Bool, true, cond, List, [], ◌∷◌, map, sum_by, Option, None, Some, MatchOption}
use Rattle.std.specs.Prelude.{ℤ, pos}
use Rattle.std.specs.Int.{is_positive}
use Rattle.std.specs.BTreeMap.{BTreeMap, get, is_at}
use Rattle.std.specs.Ordering.{eq_by_cmp}
use Rattle.std.specs.declared.cmp.Ordering.{Ordering}
use Rattle.optra_bid.specs.declared.bids.Bid.{Bid}
use Rattle.optra_walk.specs.declared.Leg.{Leg}
use Rattle.optra_walk.specs.Families.{Rows, Entry}
use Rattle.optra_node.specs.Duals.{PriceList}
use Rattle.optra_prices.specs.Steps.{next_price}
use Rattle.optra_prices.specs.declared.holding.Held.{Held}

-- what is held of a use, which is at most 2^64 - 1
abbrev pub held_use : ℕ → ℕ
held_use used = min used 18446744073709551615

-- a row that is in the map is one of the family, with its price and what is held of its use; one that is not has neither
abbrev pub Holds : {R : Type 0} → (R → R → Ordering) → (R → Bool) → (R → ℤ) → (R → ℕ) → BTreeMap R Held → Type 0
Holds {R} cmp is_row price used m =
    (row : R) → MatchOption (get cmp m row) ((price row ≡ pos 0) × (used row ≡ 0)) (λ held. (is_row row ≡ true) × (held.price ≡ price row) × (held.used ≡ held_use (used row)))

-- so much more of each row is used
abbrev pub Adds : {R : Type 0} → (R → R → Ordering) → (R → Bool) → (R → ℕ) → BTreeMap R Held → BTreeMap R Held → Type 0
Adds {R} cmp is_row extra old new = (price : R → ℤ) (used : R → ℕ) → Holds cmp is_row price used old → Holds cmp is_row price (λ row. used row + extra row) new

-- the legs of one reply
abbrev pub entries_one : Bid → Option (List Leg) → List Entry
entries_one bid None = []
entries_one bid (Some legs) = map (λ leg. (bid.path.kind, leg)) legs

-- the rows with a price above zero, by the price of each entry
abbrev pub stepped : {R V : Type 0} → (R × V → ℤ) → List (R × V) → PriceList R
stepped next [] = []
stepped next (e ∷ es) = cond (is_positive (next e)) ((e.0, next e) ∷ stepped next es) (stepped next es)

-- what is held of a row, with more uses
abbrev pub more_used : Option Held → ℕ → Held
more_used None uses = record { price = pos 0; used = held_use uses }
more_used (Some held) uses = record { price = held.price; used = held_use (held.used + uses) }

-- the map after more uses of one row
abbrev pub Bumps : {R : Type 0} → (R → R → Ordering) → R → ℕ → BTreeMap R Held → BTreeMap R Held → Type 0
Bumps {R} cmp row uses old new = (q : R) → get cmp new q ≡ cond (is_at (cmp row) q) (Some (more_used (get cmp old row) uses)) (get cmp old q)

-- how much of a row is used by the rows so far
abbrev pub part_of : {R : Type 0} → (R → R → Ordering) → (R → ℕ) → List R → R → ℕ
part_of cmp uses rows q = sum_by (λ row. cond (eq_by_cmp cmp row q) (uses row) 0) rows

-- the next price of what is held of a row
abbrev pub next_held : {R : Type 0} → Rows R → ℤ → R × Held → ℤ
next_held rows length e = next_price length e.1.price e.1.used (rows.capacity e.0)
