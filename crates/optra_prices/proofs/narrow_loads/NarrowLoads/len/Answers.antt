use Rattle.std.proofs.Common.{◌≡◌, ◌∙◌, length, sym, ap, arith}
use Rattle.optra_prices.proofs.NarrowLoadLemmas.{used_count, narrow_capacities_count}
use Rattle.optra_prices.proofs.narrow_loads.NarrowLoads.len.Goals as goal

pub returns-clause-uses : goal.returns-clause-uses
returns-clause-uses c =
    let rows = c.self.inside.rows in
    let long : c.len.result ≡ length rows.items = omega (arith, c.len.ensures, rows.ok.0) in
    long ∙ sym (used_count rows.items) ∙ ap (λ v. length v.uses) c.self.view_is

pub returns-clause-capacities : goal.returns-clause-capacities
returns-clause-capacities c =
    let rows = c.self.inside.rows in
    let long : c.len.result ≡ length rows.items = omega (arith, c.len.ensures, rows.ok.0) in
    long ∙ sym (narrow_capacities_count rows.items) ∙ ap (λ v. length v.capacities) c.self.view_is
