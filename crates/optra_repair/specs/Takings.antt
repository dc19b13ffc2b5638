-- The order in which the bids are taken.
use Rattle.std.specs.Prelude.{◌≡◌, ℕ, ◌<◌, ℤ, List, map, length, slice_index_or, All}
use Rattle.std.specs.declared.cmp.Reverse.{Reverse}
use Rattle.optra_prices.specs.Replies.{Valuation}
use Rattle.optra_prices.specs.Repairs.{contribution_of}

-- what a bid contributes, with the position of the bid
abbrev pub Rank : Type 0
Rank = Reverse ℤ × ℕ

-- the positions of ranks
abbrev pub positions_of : List Rank → List ℕ
positions_of ranks = map (λ (rank : Rank). rank.1) ranks

-- the ranks of the first bids, by position
pub record AreRanks (v : Valuation) (bids : ℕ) (ranks : List Rank) : Type 0 where
  pub count : length ranks ≡ bids
  pub positions : (k : ℕ) (d : Rank) → k < bids → (slice_index_or ranks k d).1 ≡ k
  pub contribute : All (λ (rank : Rank). rank.0.0 ≡ contribution_of v rank.1) ranks
