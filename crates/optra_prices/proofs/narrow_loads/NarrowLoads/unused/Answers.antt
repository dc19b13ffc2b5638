use Rattle.std.proofs.Common.{◌≡◌, ◌∙◌, ℕ, List, length, replicate, sym, ap}
use Rattle.optra_prices.specs.Loads.{narrow_capacities_in}
use Rattle.optra_prices.specs.declared.narrow_loads.NarrowLoad.{NarrowLoad}
use Rattle.optra_prices.proofs.NarrowLoadLemmas.{used_count}
use Rattle.optra_prices.proofs.narrow_loads.NarrowLoads.unused.Goals as goal

pub returns : goal.returns
returns c =
    let rows = c.self.inside.rows.items in
    let copied : c.in_ok-rows.rows.items ≡ rows = c.in_ok-rows.ensures.items ∙ c.deref.ensures.value in
    let count = ap (λ (rs : List NarrowLoad). length rs) copied ∙ sym (used_count rows) ∙ ap (λ v. length v.uses) c.self.view_is in
    record {
      uses = c.clear_used.ensures.used ∙ ap (λ (n : ℕ). replicate n 0) count;
      capacities = c.clear_used.ensures.capacities ∙ ap narrow_capacities_in copied ∙ ap (λ v. v.capacities) c.self.view_is;
    }
