-- What is determined: prices by the price of each row, a valuation by the prices, and the result of a price path.
use Rattle.std.specs.Prelude.{◌≡◌, ℕ, true, List}
use Rattle.std.specs.Prelude.{ℤ}
use Rattle.std.specs.declared.cmp.Ordering.{Ordering}
use Rattle.std.specs.Ordering.{eq_by_cmp}
use Rattle.optra_network.specs.Net.{Net}
use Rattle.optra_bid.specs.declared.bids.Bid.{Bid}
use Rattle.optra_walk.specs.Families.{Rows}
use Rattle.optra_node.specs.declared.Decision.{Decision}
use Rattle.optra_node.specs.Duals.{PriceList, price_of}
use Rattle.optra_prices.specs.Replies.{Valuation, IsValuation}
use Rattle.optra_prices.specs.Steps.{AreProper}
use Rattle.optra_prices.specs.Paths.{IsPathResult}
use Rattle.optra_prices.specs.declared.Priced.{Priced}

-- two lists of proper prices that give each row of the family the same price are one list
abbrev pub OnePriceList : {R : Type 0} → (R → R → Ordering) → Rows R → Type 0
OnePriceList {R} cmp rows =
    (a b : PriceList R) → AreProper cmp rows a → AreProper cmp rows b
    → ((row : R) → rows.is_row row ≡ true → price_of (eq_by_cmp cmp) a row ≡ price_of (eq_by_cmp cmp) b row) → a ≡ b

-- a node has one dual value at prices, with one list of terms and one list of replies
abbrev pub OneValuation : {R : Type 0} → Net → Rows R → List Bid → Type 0
OneValuation {R} net rows bids =
    (node : List Decision) (prices : PriceList R) (a b : Valuation) → IsValuation net rows bids node prices a → IsValuation net rows bids node prices b → a ≡ b

-- a price path has one result
abbrev pub OnePathResult : {R : Type 0} → (R → R → Ordering) → Net → Rows R → List Bid → Type 0
OnePathResult {R} cmp net rows bids =
    (node : List Decision) (start : PriceList R) (steps : ℕ) (incumbent : ℤ) (a b : Priced R)
    → IsPathResult cmp net rows bids node start steps incumbent a → IsPathResult cmp net rows bids node start steps incumbent b → a ≡ b
