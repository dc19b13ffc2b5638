use Rattle.std.proofs.Common.{◌+◌, ◌∙◌, ℕ, List, length, drop, get_or, set, sym, ap, subst, rules, to_z, of_z}
use Rattle.std.specs.Prelude.{ℤ, pos, FitsSigned}
use Rattle.std.specs.Int.{w64}
use Rattle.std.proofs.lemmas.Int.{to_z-of_z}
use Rattle.std.proofs.lemmas.List.{at_drop_more, length-set}
use Rattle.optra_prices.specs.Columns.{IsColumns}
use Rattle.optra_prices.specs.Levels.{moved_by}
use Rattle.optra_prices.specs.Tables.{IsRowPrice}
use Rattle.optra_prices.proofs.levels.set_prices.Goals as goal

pub loop-next-preserved : goal.loop-next-preserved
loop-next-preserved c =
    let moves = c.args.moves.now in
    let i = c.loop-next.next-index in
    let now = c.loop-next.levels.prices.items in
    let inv = c.loop-next.invariant in
    let is = c.in_ok-set_price.ensures in
    let move = get_or moves i (0, pos 0) in
    let price : IsRowPrice move.1 = (c.requires.moves i (0, pos 0) c.loop-next-test.true).1 in
    let low = price.0 in
    let high = price.1 in
    let fits : FitsSigned w64 move.1 = search rules in
    record {
      levels = is.levels;
      columns = subst (λ groups. IsColumns groups c.set_price.new.columns) inv.columns.groups_are is.columns;
      due = is.due;
      count = ap length is.prices ∙ length-set now move.0 (to_z w64 (of_z w64 move.1)) ∙ inv.count;
      prices = ap (moved_by (drop (i + 1) moves)) (is.prices ∙ ap (set now move.0) (to_z-of_z w64 move.1 fits)) ∙ sym (at_drop_more (λ (ms : List (ℕ × ℤ)). moved_by ms now) moves i (0, pos 0) c.loop-next-test.true) ∙ inv.prices;
      grouped = is.grouped ∙ inv.grouped;
      rest = record { uses = is.rest.uses ∙ inv.rest.uses; capacities = is.rest.capacities ∙ inv.rest.capacities };
    }
