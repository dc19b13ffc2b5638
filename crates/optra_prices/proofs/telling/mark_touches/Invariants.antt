use Rattle.std.proofs.Common.{take}
use Rattle.optra_prices.specs.Columns.{IsColumns}
use Rattle.optra_prices.specs.Tellings.{MarksUsed}
use Rattle.optra_prices.specs.Uses.{touch_uses}
use Rattle.optra_prices.proofs.telling.mark_touches.Given as goal

abbrev pub invariant-loop-k : goal.invariant-loop-k
invariant-loop-k l = record {
  columns : IsColumns l.fn.columns.groups l.columns;
  marks : MarksUsed (touch_uses (take l.k l.touches)) l.fn.columns l.columns;
}
