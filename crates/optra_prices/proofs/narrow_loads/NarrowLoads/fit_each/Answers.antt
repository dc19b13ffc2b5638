use Rattle.std.proofs.Common.{◌∙◌, List, sym, ap, arith}
use Rattle.std.specs.Prelude.{slice_index_or}
use Rattle.std.specs.Cmp.Derive.{both_true}
use Rattle.std.proofs.lemmas.Bool.{and_parts}
use Rattle.optra_prices.specs.Loads.{no_narrow_load}
use Rattle.optra_prices.specs.declared.narrow_loads.NarrowLoad.{NarrowLoad}
use Rattle.optra_prices.proofs.NarrowLoadLemmas.{fit_more, load_tells}
use Rattle.optra_prices.proofs.narrow_loads.NarrowLoads.fit_each.Goals as goal

pub loop-number-preserved : goal.loop-number-preserved
loop-number-preserved c =
    let loads = c.args.self.now in
    let number = c.loop-number.number in
    let so_far = c.loop-number.invariant in
    let is = c.load_at.ensures ∙ ap (λ (rs : List NarrowLoad). slice_index_or rs number no_narrow_load) c.deref.ensures.value in
    let tells = load_tells c.self.inside.rows.items loads c.self.view_is number c.load_at.result is in (
      λ yes. let parts = and_parts c.loop-number.fit c.fits_one.result (sym c.both-fit.ensures ∙ yes) in fit_more loads number (so_far.0 parts.0) (tells.0 (c.fits_one.ensures.0 parts.1)),
      λ each. c.both-fit.ensures ∙ both_true (so_far.1 (λ n l. each n (omega arith))) (c.fits_one.ensures.1 (tells.1 (each number (omega arith)))),
    )
