use Rattle.std.proofs.Common.{◌∷◌, [], ◌++◌, ◌∙◌, ap}
use Rattle.std.proofs.lemmas.List.{map-append}
use Rattle.optra_prices.specs.Loads.{uses_in, capacities_in}
use Rattle.optra_prices.specs.declared.wide_loads.Load.{Load}
use Rattle.optra_prices.proofs.wide_loads.WideLoads.push.Goals as goal

pub returns-clause-uses : goal.returns-clause-uses
returns-clause-uses c =
    ap uses_in c.in_ok-push.ensures.items ∙ map-append (λ (row : Load). row.used) c.self.inside.rows.items (record { used = 0; capacity = c.args.capacity } ∷ []) ∙ ap (λ v. v.uses ++ 0 ∷ []) c.self.view_is

pub returns-clause-capacities : goal.returns-clause-capacities
returns-clause-capacities c =
    ap capacities_in c.in_ok-push.ensures.items ∙ map-append (λ (row : Load). row.capacity) c.self.inside.rows.items (record { used = 0; capacity = c.args.capacity } ∷ [])
    ∙ ap (λ v. v.capacities ++ c.args.capacity ∷ []) c.self.view_is
