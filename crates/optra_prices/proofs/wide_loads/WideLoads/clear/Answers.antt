use Rattle.std.proofs.Common.{◌∙◌, ℕ, length, replicate, sym, ap}
use Rattle.std.proofs.lemmas.List.{length-map}
use Rattle.optra_prices.specs.declared.wide_loads.Load.{Load}
use Rattle.optra_prices.proofs.wide_loads.WideLoads.clear.Goals as goal

pub returns : goal.returns
returns c =
    let rows = c.self.inside.rows.items in
    let count = sym (length-map rows (λ (row : Load). row.used)) ∙ ap (λ v. length v.uses) c.self.view_is in
    record {
      uses = c.clear_uses.ensures.uses ∙ ap (λ (n : ℕ). replicate n 0) count;
      capacities = c.clear_uses.ensures.capacities ∙ ap (λ v. v.capacities) c.self.view_is;
    }
