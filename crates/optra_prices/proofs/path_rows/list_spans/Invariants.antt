use Rattle.std.proofs.Common.{◌≡◌, ℕ, take}
use Rattle.std.specs.Prelude.{All}
use Rattle.optra_prices.specs.Uses.{IsSpan, list_uses, spans_use}
use Rattle.optra_prices.proofs.path_rows.list_spans.Given as goal

abbrev pub invariant-loop-g : goal.invariant-loop-g
invariant-loop-g l = record {
  spans : All (IsSpan l.groups.touches) l.spans.items;
  uses : (n : ℕ) → spans_use l.groups.touches l.spans.items n ≡ list_uses l.groups (take l.g-index l.list) n;
}
