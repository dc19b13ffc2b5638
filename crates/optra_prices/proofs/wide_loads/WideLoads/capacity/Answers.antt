use Rattle.std.proofs.Common.{◌∙◌, List, sym, ap}
use Rattle.std.specs.Prelude.{slice_index, slice_index_or}
use Rattle.std.proofs.Math.ListN.{get_or-map}
use Rattle.optra_prices.specs.Loads.{no_load}
use Rattle.optra_prices.specs.declared.wide_loads.Load.{Load}
use Rattle.optra_prices.proofs.wide_loads.WideLoads.capacity.Goals as goal

pub returns : goal.returns
returns c =
    let rows = c.self.inside.rows.items in
    ap (λ (row : Load). row.capacity) (c.load_at.ensures ∙ ap (λ (rs : List Load). slice_index_or rs c.args.number no_load) c.deref.ensures.value)
    ∙ sym (get_or-map (λ (row : Load). row.capacity) rows c.args.number no_load) ∙ ap (λ v. slice_index v.capacities c.args.number) c.self.view_is
