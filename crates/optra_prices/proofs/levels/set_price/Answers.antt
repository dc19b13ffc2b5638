use Rattle.std.proofs.Common.{◌≡◌, ℕ, List, ◌<◌, ◌∙◌, length, set, sym, ap, subst, arith, rules, to_z, of_z}
use Rattle.std.specs.Prelude.{All, ℤ, pos, ◌+ℤ◌, ◌-ℤ◌, ◌*ℤ◌, ◌≤ℤ◌, slice_index, slice_index_or, FitsSigned}
use Rattle.std.specs.Int.{w64, w128}
use Rattle.std.proofs.lemmas.Int.{ints, to_z-of_z}
use Rattle.std.proofs.lemmas.List.{set-get_or, length-set}
use Rattle.std.proofs.lemmas.List.Elements.{All-set}
use Rattle.optra_prices.specs.Columns.{PricesAllButDue}
use Rattle.optra_prices.proofs.RunningLemmas.{running_moved}
use Rattle.optra_prices.specs.Levels.{IsLevels}
use Rattle.optra_prices.specs.Listings.{capacity_below}
use Rattle.optra_walk.specs.RowLists.{Listed}
use Rattle.optra_prices.specs.Tables.{IsRowPrice}
use Rattle.optra_prices.proofs.ColumnLemmas.{moved_due}
use Rattle.optra_prices.proofs.ListingLemmas.{row_price_or}
use Rattle.optra_prices.proofs.LevelLemmas.{capacity_range, capacity_set, covers_priced}
use Rattle.optra_prices.proofs.levels.set_price.Goals as goal

pub returns-then-old-price-clause-prices : goal.returns-then-old-price-clause-prices
returns-then-old-price-clause-prices c =
    let prices = c.args.levels.now.prices.items in
    let old = c.at-old.result in
    let f1 : FitsSigned w64 old = search rules in
    let f2 : FitsSigned w64 c.args.price = search rules in
    let same : old ≡ c.args.price = sym (to_z-of_z w64 old f1) ∙ ap (to_z w64) c.if-old-price.true ∙ to_z-of_z w64 c.args.price f2 in
    sym (ap (set prices c.args.number) (sym same ∙ c.at-old.ensures) ∙ set-get_or prices c.args.number (pos 0))

pub capacity_after-levels-requires-clause-total : goal.capacity_after-levels-requires-clause-total
capacity_after-levels-requires-clause-total c =
    let woken = c.wake.new.levels in
    let is = c.in_ok-wake.ensures.levels in
    let range = capacity_range woken.prices.items woken.loads.capacities (length woken.prices.items) is.range is.small in
    let a = is.capacity_is in
    let b = range.0 in
    let d = range.1 in
    let n = woken.listed.ok in
    let m = is.mark_count in
    let low : pos 0 ≤ℤ woken.capacity = omega (arith, ints) in
    let high : woken.capacity ≤ℤ pos 2417851639229258349412352000000000000 = omega (arith, ints) in
    let fits : FitsSigned w128 woken.capacity = search rules in
    simp (to_z-of_z w128 woken.capacity fits) (low, high)

pub returns-clause-levels : goal.returns-clause-levels
returns-clause-levels c =
    let old = c.args.levels.now in
    let woken = c.wake.new.levels in
    let wakes = c.in_ok-wake.ensures.wakes in
    let is = c.in_ok-wake.ensures.levels in
    let number = c.args.number in
    let prices = woken.prices.items in
    let capacities = woken.loads.capacities in
    let count = length prices in
    let within : number < count = subst (λ v. number < length v.items) (sym wakes.prices) c.requires.within in
    let fits : FitsSigned w64 c.args.price = search rules in
    let price = to_z w64 (of_z w64 c.args.price) in
    let range : IsRowPrice price = subst IsRowPrice (sym (to_z-of_z w64 c.args.price fits)) c.requires.price in
    let before = c.at-old.result in
    let f1 : FitsSigned w64 before = search rules in
    let before_is : to_z w64 (of_z w64 before) ≡ slice_index_or prices number (pos 0) =
    to_z-of_z w64 before f1 ∙ c.at-old.ensures ∙ ap (λ v. slice_index_or v.items number (pos 0)) (sym wakes.prices)
    in
    let capacity = c.capacity.result in
    let capacity_is : capacity ≡ slice_index capacities number = c.capacity.ensures in
    let total = woken.capacity in
    let f2 : FitsSigned w128 total = search rules in
    let f3 : FitsSigned w128 c.capacity_after-levels.result = search rules in
    let after = to_z-of_z w128 c.capacity_after-levels.result f3 ∙ c.capacity_after-levels.ensures ∙ ap (λ (z : ℤ). z +ℤ (price *ℤ pos capacity -ℤ to_z w64 (of_z w64 before) *ℤ pos capacity)) (to_z-of_z w128 total f2 ∙ is.capacity_is)
    ∙ ap (λ (z : ℤ). capacity_below prices capacities count +ℤ (price *ℤ pos capacity -ℤ z *ℤ pos capacity)) before_is
    ∙ ap (λ (n : ℕ). capacity_below prices capacities count +ℤ (price *ℤ pos n -ℤ slice_index_or prices number (pos 0) *ℤ pos n)) capacity_is
    in
    let long = length-set prices number price in
    let put : c.set.new.self.items ≡ set prices number price = c.in_ok-set.ensures in
    subst (λ (v : Listed ℤ). IsLevels (record woken { prices = v; capacity = to_z w128 (of_z w128 c.capacity_after-levels.result) })) (sym (ap (λ (xs : List ℤ). record { items = xs }) put)) (record {
      use_count = is.use_count ∙ sym long;
      capacity_count = is.capacity_count ∙ sym long;
      mark_count = is.mark_count ∙ sym long;
      range = All-set IsRowPrice prices number price range is.range;
      small = is.small;
      capacity_is = after ∙ sym (capacity_set prices capacities number price count within within) ∙ ap (capacity_below (set prices number price) capacities) (sym long);
      within = subst (λ (most : ℕ). All (λ (n : ℕ). n < most) woken.active.items) (sym long) is.within;
      once = is.once;
      marked = is.marked;
      found = is.found;
      covers = covers_priced prices woken.loads.uses woken.loads.capacities woken.active.items number price wakes.here is.covers;
    })

pub returns-clause-due : goal.returns-clause-due
returns-clause-due c =
    let old = c.args.levels.now in
    let price = to_z w64 (of_z w64 c.args.price) in
    let number = c.args.number in
    let prices = old.prices.items in
    let columns = c.args.columns.now in
    let new = c.move_row_groups.new.columns in
    let is = c.in_ok-move_row_groups.ensures in
    let before = c.at-old.result in
    let f1 : FitsSigned w64 before = search rules in
    let before_is : to_z w64 (of_z w64 before) ≡ slice_index_or prices number (pos 0) = to_z-of_z w64 before f1 ∙ c.at-old.ensures in
    let moved = moved_due prices number price columns (record new { running = columns.running }) c.requires.columns is.columns.groups_are is.marks c.requires.due in
    let f2 : FitsSigned w64 c.price_move.result = search rules in
    let moved_by : to_z w64 (of_z w64 c.price_move.result) ≡ price -ℤ slice_index_or prices number (pos 0) = to_z-of_z w64 c.price_move.result f2 ∙ c.price_move.ensures.value ∙ ap (λ (z : ℤ). price -ℤ z) before_is in
    subst (λ (ps : List ℤ). PricesAllButDue ps new) (sym c.in_ok-set.ensures) (subst (λ v. PricesAllButDue (set v.items number price) new) (sym c.in_ok-wake.ensures.wakes.prices) (record {
      each = moved;
      running = running_moved prices number price _ columns new c.requires.within moved_by is.columns.groups_are is.running c.requires.due.running;
    }))

pub capacity_after-levels-requires-clause-old : goal.capacity_after-levels-requires-clause-old
capacity_after-levels-requires-clause-old c =
    let old = c.args.levels.now in
    let before = c.at-old.result in
    let fits : FitsSigned w64 before = search rules in
    let is = to_z-of_z w64 before fits ∙ c.at-old.ensures in
    subst IsRowPrice (sym is) (row_price_or old.prices.items c.args.number c.requires.levels.range)

pub price_move-requires-clause-old : goal.price_move-requires-clause-old
price_move-requires-clause-old c =
    let old = c.args.levels.now in
    let before = c.at-old.result in
    let fits : FitsSigned w64 before = search rules in
    let is = to_z-of_z w64 before fits ∙ c.at-old.ensures in
    subst IsRowPrice (sym is) (row_price_or old.prices.items c.args.number c.requires.levels.range)

pub capacity_after-levels-requires-clause-capacity : goal.capacity_after-levels-requires-clause-capacity
capacity_after-levels-requires-clause-capacity c =
    let woken = c.wake.new.levels in
    let is = c.in_ok-wake.ensures.levels in
    let same = ap (λ v. length v.items) c.in_ok-wake.ensures.wakes.prices in
    let count = is.capacity_count in
    let within : c.args.number < length woken.loads.capacities = let l = c.requires.within in omega arith in
    let small = is.small c.args.number 0 within in
    let e = c.capacity.ensures in
    omega arith
