use Rattle.std.proofs.Common.{subst}
use Rattle.optra_node.specs.Duals.{PriceList}
use Rattle.optra_prices.specs.Courses.{AreNumbered}
use Rattle.optra_prices.proofs.keeping.price_path_over.Goals as goal

pub go_along-requires-clause-numbered : goal.go_along-requires-clause-numbered
go_along-requires-clause-numbered g c = subst (λ (entries : PriceList g.row.F-Row.Denot). AreNumbered c.admit.new.kept entries) c.entries.ensures.value c.in_ok-admit.ensures.numbered
