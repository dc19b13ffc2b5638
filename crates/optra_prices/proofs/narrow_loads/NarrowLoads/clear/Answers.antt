use Rattle.std.proofs.Common.{◌∙◌, ℕ, length, replicate, sym, ap}
use Rattle.optra_prices.proofs.NarrowLoadLemmas.{used_count}
use Rattle.optra_prices.proofs.narrow_loads.NarrowLoads.clear.Goals as goal

pub returns : goal.returns
returns c =
    let rows = c.self.inside.rows.items in
    let count = sym (used_count rows) ∙ ap (λ v. length v.uses) c.self.view_is in
    record {
      uses = c.clear_used.ensures.used ∙ ap (λ (n : ℕ). replicate n 0) count;
      capacities = c.clear_used.ensures.capacities ∙ ap (λ v. v.capacities) c.self.view_is;
    }
