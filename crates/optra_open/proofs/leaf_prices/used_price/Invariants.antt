use Rattle.std.proofs.Common.{◌≡◌, ◌*◌, take, sum_by}
use Rattle.std.specs.Prelude.{pos, ◌*ℤ◌, ◌≤ℤ◌}
use Rattle.std.specs.Ordering.{eq_by_cmp}
use Rattle.optra_node.specs.Duals.{sum_of, price_of}
use Rattle.optra_open.proofs.leaf_prices.used_price.Given as goal

abbrev pub invariant-loop-k : goal.invariant-loop-k
invariant-loop-k g l =
    let rows = g.F.RowFamily.rows_of l.rows l.inst.net.now in
    let used = g.F.RowFamily.rows_used l.rows l.inst.net.now l.kind l.leg in
    record {
      value : l.total ≡ sum_of (λ row. price_of (eq_by_cmp g.F.Row.Ord.cmp) l.prices row *ℤ pos (rows.uses l.kind l.leg row)) (take l.k used);
      least : pos 0 ≤ℤ l.total;
      most : l.total ≤ℤ pos (2000000000000 * sum_by (rows.uses l.kind l.leg) (take l.k used));
    }
