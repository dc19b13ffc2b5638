use Rattle.std.proofs.Common.{◌≡◌, ◌<◌, ◌≤◌, ℕ, List, length, refl, sym, ap, ◌∙◌, subst, arith, rules, to_z, of_z}
use Rattle.std.specs.Prelude.{ℤ, pos, ◌≤ℤ◌, slice_index, slice_index_or, FitsSigned}
use Rattle.std.specs.Int.{w64}
use Rattle.std.proofs.lemmas.Int.{ints, to_z-of_z}
use Rattle.std.proofs.lemmas.List.{get_or_read}
use Rattle.optra_prices.specs.Columns.{IsColumns, PricesAllButDue}
use Rattle.optra_prices.specs.Levels.{next_at, price_of, use_of, capacity_of}
use Rattle.optra_prices.specs.Steps.{next_price}
use Rattle.optra_prices.proofs.HoldLemmas.{next_idle}
use Rattle.optra_prices.proofs.LevelLemmas.{moving_first, moving_next, moving_all}
use Rattle.optra_prices.proofs.levels.move_prices.Goals as goal

pub rows-init : goal.rows-init
rows-init c =
    let old = c.args.levels.now in
    let by = to_z w64 (of_z w64 c.args.by) in
    let fits : FitsSigned w64 c.args.by = search rules in
    let whole = to_z-of_z w64 c.args.by fits in
    let one : pos 1 ≤ℤ by = let low = c.requires.by.0 in omega (arith, ints) in
    let now = c.sort_active.new.levels in
    let sorted = c.sort_active.ensures in
    let same = sorted.rest in
    record {
      levels = sorted.levels;
      columns = c.requires.columns;
      due = subst (λ prices. PricesAllButDue prices.items c.args.columns.now) (sym sorted.prices) c.requires.due;
      moving = moving_first (next_at by old) old now sorted.levels sorted.prices (λ n idle.
          let free = ap (λ prices. slice_index_or prices.items n (pos 0)) (sym sorted.prices) ∙ idle.0 in
          let few = subst (λ (us : List ℕ). slice_index us n ≤ capacity_of old n) same.uses (subst (λ (cs : List ℕ). use_of now n ≤ slice_index cs n) same.capacities idle.1) in
          idle.0 ∙ sym (ap (λ (z : ℤ). next_price by z (use_of old n) (capacity_of old n)) free ∙ next_idle by (use_of old n) (capacity_of old n) one few));
      grouped = refl;
      rest = same;
    }

pub rows-preserved : goal.rows-preserved
rows-preserved c =
    let old = c.args.levels.now in
    let now = c.rows.levels in
    let inv = c.rows.invariant in
    let is = c.in_ok-k.ensures in
    let k = c.rows.k in
    let by = to_z w64 (of_z w64 c.args.by) in
    let active = now.active.items in
    let l : k < length active = omega (arith, c.len.ensures, now.active.ok.0) in
    let number = c.index.result.now in
    let read : slice_index active k ≡ number = sym (get_or_read active k number l c.index.ensures 0) in
    let price = to_z w64 (of_z w64 c.next_price_at-price.result) in
    let fits : FitsSigned w64 c.next_price_at-price.result = search rules in
    let left = inv.moving.left number (record { place = k; from = omega arith; within = l; is = read }) in
    let price_is : price ≡ next_at by old number =
    to_z-of_z w64 c.next_price_at-price.result fits ∙ c.next_price_at-price.ensures.value ∙ ap (λ (z : ℤ). next_price by z (use_of now number) (capacity_of now number)) left
    ∙ ap (λ (us : List ℕ). next_price by (price_of old number) (slice_index us number) (capacity_of now number)) inv.rest.uses ∙ ap (λ (cs : List ℕ). next_price by (price_of old number) (use_of old number) (slice_index cs number)) inv.rest.capacities
    in
    record {
      levels = is.levels;
      columns = subst (λ groups. IsColumns groups c.move_row.new.columns) inv.columns.groups_are is.columns;
      due = is.due;
      moving = moving_next (next_at by old) old now c.move_row.new.levels k c.in_ok-k.k price inv.moving is.moves (inv.levels.within k 0 l) (price_is ∙ ap (next_at by old) (sym read));
      grouped = is.grouped ∙ inv.grouped;
      rest = record { uses = is.moves.rest.uses ∙ inv.rest.uses; capacities = is.moves.rest.capacities ∙ inv.rest.capacities };
    }

pub returns-clause-prices : goal.returns-clause-prices
returns-clause-prices c =
    let old = c.args.levels.now in
    let now = c.rows.levels in
    let by = to_z w64 (of_z w64 c.args.by) in
    let fits : FitsSigned w64 c.args.by = search rules in
    let past : length now.active.items ≤ c.rows.k = omega (arith, c.len.ensures, now.active.ok.0) in
    let all = moving_all (next_at by old) old now c.rows.k c.rows.invariant.moving past in
    record { count = all.count; each = λ n l. all.each n l ∙ ap (λ (z : ℤ). next_at z old n) (to_z-of_z w64 c.args.by fits) }
