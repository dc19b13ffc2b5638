use Rattle.std.proofs.Common.{take}
use Rattle.optra_node.specs.Duals.{ArePrices}
use Rattle.optra_checker.proofs.pricing.are_prices.Given as goal

abbrev pub invariant-entries : goal.invariant-entries
invariant-entries g l = ArePrices (g.F.RowFamily.rows_of l.rows l.net) (take l.entry-index l.listed)
