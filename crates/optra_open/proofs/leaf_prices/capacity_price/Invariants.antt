use Rattle.std.proofs.Common.{◌≡◌, ◌*◌, take}
use Rattle.std.specs.Prelude.{pos, ◌≤ℤ◌}
use Rattle.optra_node.specs.Duals.{capacity_price}
use Rattle.optra_open.proofs.leaf_prices.capacity_price.Given as goal

abbrev pub invariant-entries : goal.invariant-entries
invariant-entries g l = record {
  value : l.total ≡ capacity_price (g.F.RowFamily.rows_of l.rows l.inst.net.now) (take l.entry-index l.prices);
  least : pos 0 ≤ℤ l.total;
  most : l.total ≤ℤ pos (131070000000000000 * l.entry-index);
}
