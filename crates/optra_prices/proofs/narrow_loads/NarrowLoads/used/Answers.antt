use Rattle.std.proofs.Common.{◌∙◌, List, sym, ap}
use Rattle.std.specs.Prelude.{slice_index, slice_index_or}
use Rattle.optra_prices.specs.Loads.{no_narrow_load}
use Rattle.optra_prices.specs.declared.narrow_loads.NarrowLoad.{NarrowLoad}
use Rattle.optra_prices.proofs.NarrowLoadLemmas.{used_at}
use Rattle.optra_prices.proofs.narrow_loads.NarrowLoads.used.Goals as goal

pub returns : goal.returns
returns c =
    let rows = c.self.inside.rows.items in
    ap (λ (row : NarrowLoad). row.used) (c.load_at.ensures ∙ ap (λ (rs : List NarrowLoad). slice_index_or rs c.args.number no_narrow_load) c.deref.ensures.value)
    ∙ sym (used_at rows c.args.number) ∙ ap (λ v. slice_index v.uses c.args.number) c.self.view_is
