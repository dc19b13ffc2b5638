use Rattle.std.proofs.Common.{◌∙◌}
use Rattle.optra_prices.proofs.UseLemmas.{adds_on, rows_more}
use Rattle.optra_prices.proofs.loading.add_rows.Goals as goal

pub loop-row-preserved : goal.loop-row-preserved
loop-row-preserved c =
    let inv = c.loop-row.invariant in
    let is = c.in_ok-add_touch.ensures in
    record {
      levels = is.levels;
      uses = adds_on c.args.levels.now.loads.uses c.loop-row.levels.loads.uses c.add_touch.new.levels.loads.uses _ _ _ (λ n. rows_more c.args.rows.now c.loop-row.row-index 0 n c.loop-row-test.true) inv.uses is.uses;
      prices = record { prices = is.prices.prices ∙ inv.prices.prices; capacities = is.prices.capacities ∙ inv.prices.capacities };
    }
