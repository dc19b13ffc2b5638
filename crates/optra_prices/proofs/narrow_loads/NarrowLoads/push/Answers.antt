use Rattle.std.proofs.Common.{◌∷◌, [], ◌++◌, ◌∙◌, ap}
use Rattle.optra_prices.specs.Loads.{used_in, narrow_capacities_in}
use Rattle.optra_prices.proofs.NarrowLoadLemmas.{used_push, narrow_capacities_push}
use Rattle.optra_prices.proofs.narrow_loads.NarrowLoads.push.Goals as goal

pub returns-clause-uses : goal.returns-clause-uses
returns-clause-uses c = ap used_in c.in_ok-push.ensures.items ∙ used_push c.self.inside.rows.items c.args.capacity ∙ ap (λ v. v.uses ++ 0 ∷ []) c.self.view_is

pub returns-clause-capacities : goal.returns-clause-capacities
returns-clause-capacities c = ap narrow_capacities_in c.in_ok-push.ensures.items ∙ narrow_capacities_push c.self.inside.rows.items c.args.capacity ∙ ap (λ v. v.capacities ++ c.args.capacity ∷ []) c.self.view_is
