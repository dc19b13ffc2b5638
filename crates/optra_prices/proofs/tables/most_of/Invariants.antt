use Rattle.std.proofs.Common.{ℕ, ◌<◌, get_or}
use Rattle.std.specs.Prelude.{neg_ℤ}
use Rattle.optra_bid.specs.Specs.{IsBetween}
use Rattle.optra_prices.specs.Standings.{IsMost}
use Rattle.optra_prices.specs.Tables.{no_arc}
use Rattle.optra_prices.proofs.tables.most_of.Given as goal

abbrev pub invariant-loop-k : goal.invariant-loop-k
invariant-loop-k l = record {
  range : IsMost l.most;
  values : (j : ℕ) → j < l.k → IsBetween (neg_ℤ l.most) l.most (get_or l.arcs j no_arc).value;
}
