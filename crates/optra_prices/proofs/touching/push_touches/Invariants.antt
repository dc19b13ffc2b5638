use Rattle.std.proofs.Common.{◌≡◌, true, take}
use Rattle.std.specs.Prelude.{All}
use Rattle.optra_prices.specs.Tables.{Extends, AddsTouches}
use Rattle.optra_prices.proofs.touching.push_touches.Given as goal

abbrev pub invariant-loop-k : goal.invariant-loop-k
invariant-loop-k g l = record {
  rows : All (λ row. (g.F.RowFamily.rows_of l.rows l.net).is_row row ≡ true) l.named.items;
  extends : Extends l.initial.named.items l.named.items;
  touches : AddsTouches l.named.items ((g.F.RowFamily.rows_of l.rows l.net).uses l.kind l.leg) (take l.k (g.F.RowFamily.rows_used l.rows l.net l.kind l.leg)) l.initial.touches l.touches;
}
