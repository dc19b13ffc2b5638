use Rattle.std.proofs.Common.{◌<◌, ◌≤◌, length, refl, ◌∙◌, subst, arith}
use Rattle.std.specs.Prelude.{pos}
use Rattle.optra_prices.specs.Columns.{IsColumns}
use Rattle.optra_prices.proofs.LevelLemmas.{moving_first, moving_next, moving_all}
use Rattle.optra_prices.proofs.levels.zero_prices.Goals as goal

pub rows-init : goal.rows-init
rows-init c = record {
  levels = c.requires.levels;
  columns = c.requires.columns;
  due = c.requires.due;
  moving = moving_first (λ n. pos 0) c.args.levels.now c.args.levels.now c.requires.levels refl (λ n idle. idle.0);
  grouped = refl;
  rest = record { uses = refl; capacities = refl };
}

pub rows-preserved : goal.rows-preserved
rows-preserved c =
    let now = c.rows.levels in
    let inv = c.rows.invariant in
    let is = c.in_ok-k.ensures in
    let k = c.rows.k in
    let l : k < length now.active.items = omega (arith, c.len.ensures, now.active.ok.0) in
    record {
      levels = is.levels;
      columns = subst (λ groups. IsColumns groups c.move_row.new.columns) inv.columns.groups_are is.columns;
      due = is.due;
      moving = moving_next (λ n. pos 0) c.args.levels.now now c.move_row.new.levels k c.in_ok-k.k (pos 0) inv.moving is.moves (inv.levels.within k 0 l) refl;
      grouped = is.grouped ∙ inv.grouped;
      rest = record { uses = is.moves.rest.uses ∙ inv.rest.uses; capacities = is.moves.rest.capacities ∙ inv.rest.capacities };
    }

pub returns-clause-prices : goal.returns-clause-prices
returns-clause-prices c =
    let now = c.rows.levels in
    let past : length now.active.items ≤ c.rows.k = omega (arith, c.len.ensures, now.active.ok.0) in
    let all = moving_all (λ n. pos 0) c.args.levels.now now c.rows.k c.rows.invariant.moving past in
    record { count = all.count; each = all.each }
