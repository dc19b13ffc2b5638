use Rattle.std.proofs.Common.{◌≡◌, ◌∙◌, ap, sym, map, length}
use Rattle.std.specs.Prelude.{slice_index}
use Rattle.std.proofs.lemmas.List.{with_items_is, length-map}
use Rattle.optra_prices.specs.Rankings.{renumbered}
use Rattle.optra_prices.proofs.RenumberLemmas.{each_renumbered}
use Rattle.optra_prices.proofs.touches.Touches.renumber.Goals as goal

pub returns : goal.returns
returns c =
    let numbers = c.args.numbers.now in
    let narrow = c.self.inside.narrow in
    let wide = c.self.inside.wide in
    let rows : c.renumber_rows.new.rows ≡ map (slice_index numbers) narrow.items = c.renumber_rows.ensures ∙ ap (map (slice_index numbers)) c.deref_mut.ensures.value in
    let others : c.renumber_each.new.touches ≡ map (renumbered numbers) wide.items = c.renumber_each.ensures ∙ ap (map (renumbered numbers)) c.deref_mut-2.ensures.value in
    let narrow_is = with_items_is narrow c.renumber_rows.new.rows (ap length rows ∙ length-map narrow.items (slice_index numbers) ∙ sym narrow.ok.0) ∙ rows in
    let wide_is = with_items_is wide c.renumber_each.new.touches (ap length others ∙ length-map wide.items (renumbered numbers) ∙ sym wide.ok.0) ∙ others in
    rw (narrow_is, wide_is) (each_renumbered numbers narrow.items wide.items ∙ ap (map (renumbered numbers)) c.self.view_is)
