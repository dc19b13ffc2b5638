use Rattle.std.proofs.Common.{◌≡◌, ◌∙◌, length, sym, ap, arith}
use Rattle.std.proofs.lemmas.List.{length-map}
use Rattle.optra_prices.specs.declared.wide_loads.Load.{Load}
use Rattle.optra_prices.proofs.wide_loads.WideLoads.len.Goals as goal

pub returns : goal.returns
returns c =
    let rows = c.self.inside.rows in
    let long : c.len.result ≡ length rows.items = omega (arith, c.len.ensures, rows.ok.0) in
    long ∙ sym (length-map rows.items (λ (row : Load). row.used)) ∙ ap (λ v. length v.uses) c.self.view_is
