use Rattle.std.proofs.Common.{take}
use Rattle.std.specs.Prelude.{All}
use Rattle.optra_node.specs.Certificates.{HasPrices}
use Rattle.optra_checker.proofs.pricing.prices_hold.Given as goal

abbrev pub invariant-items : goal.invariant-items
invariant-items g l = All (HasPrices (g.F.RowFamily.rows_of l.rows l.net)) (take l.item-index l.tree)
