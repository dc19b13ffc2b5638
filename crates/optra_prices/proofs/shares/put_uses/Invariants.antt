use Rattle.std.proofs.Common.{◌≡◌, ◌<◌, ℕ}
use Rattle.std.specs.Prelude.{slice_index}
use Rattle.optra_prices.specs.Indexes.{IsOpen, put_place}
use Rattle.optra_prices.specs.Shares.{uses_touched}
use Rattle.optra_prices.specs.Users.{rows_touched}
use Rattle.optra_prices.proofs.shares.put_uses.Given as goal

abbrev pub invariant-loop-place : goal.invariant-loop-place
invariant-loop-place l = record {
  are_open : IsOpen (rows_touched l.touches) l.place l.index;
  put : (place : ℕ) → place < l.place → slice_index l.index.items.items (put_place (rows_touched l.touches) place) ≡ slice_index (uses_touched l.touches) place;
}
