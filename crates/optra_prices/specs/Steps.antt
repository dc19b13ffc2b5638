-- Price steps, row by row.
use Rattle.std.specs.Prelude.{◌≡◌, ℕ, ◌+◌, ◌*◌, true, List, fold, Option}
use Rattle.std.specs.Prelude.{ℤ, pos, ◌+ℤ◌, ◌-ℤ◌, ◌*ℤ◌}
use Rattle.std.specs.Int.{int_min, int_max, int_div_euclid}
use Rattle.std.specs.declared.cmp.Ordering.{Ordering}
use Rattle.std.specs.Ordering.{eq_by_cmp}
use Rattle.optra_bid.specs.declared.bids.Bid.{Bid}
use Rattle.optra_walk.specs.declared.Leg.{Leg}
use Rattle.optra_walk.specs.Families.{Rows, load_of, entries_of}
use Rattle.optra_node.specs.Duals.{PriceList, ArePrices, price_of}
use Rattle.optra_node.specs.Certificates.{AreAscending}

-- prices of rows of the family that ascend, so that no row is listed twice; each price is 1 to 2,000,000,000,000
pub record AreProper {R : Type 0} (cmp : R → R → Ordering) (rows : Rows R) (prices : PriceList R) : Type 0 where
  pub ascending : AreAscending cmp prices
  pub each : ArePrices rows prices

-- the greatest base of the bids, in cents, and 0 without bids
abbrev pub greatest_base : List Bid → ℤ
greatest_base bids = fold (λ most bid. int_max most bid.money.base) (pos 0) bids

-- the length of step k, from 0: a quarter of the greatest base in thousandths of a cent, divided by k + 1, and at least 1
abbrev pub step_length : List Bid → ℕ → ℤ
step_length bids k = int_max (pos 1) (int_div_euclid (greatest_base bids *ℤ pos 1000) (pos (4 * (k + 1))))

-- a price within 0 to 2,000,000,000,000
abbrev pub price_within : ℤ → ℤ
price_within price = int_min (int_max price (pos 0)) (pos 2000000000000)

-- the next price of a row, by the length of the step, the row's price, its use and its capacity
abbrev pub next_price : ℤ → ℤ → ℕ → ℕ → ℤ
next_price by price used capacity = price_within (price +ℤ by *ℤ (pos used -ℤ pos capacity))

-- how much of a row the replies use
abbrev pub reply_load : {R : Type 0} → Rows R → List Bid → List (Option (List Leg)) → R → ℕ
reply_load rows bids replies row = load_of rows row (entries_of bids replies)

-- proper prices, where each row has its next price by step k
pub record IsStep {R : Type 0} (cmp : R → R → Ordering) (rows : Rows R) (bids : List Bid) (replies : List (Option (List Leg))) (k : ℕ) (old new : PriceList R) : Type 0 where
  pub proper : AreProper cmp rows new
  pub each : (row : R) → rows.is_row row ≡ true
      → price_of (eq_by_cmp cmp) new row ≡ next_price (step_length bids k) (price_of (eq_by_cmp cmp) old row) (reply_load rows bids replies row) (rows.capacity row)
