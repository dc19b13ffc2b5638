use Rattle.std.proofs.Common.{◌≡◌, ◌+◌, ◌-◌, ◌/◌, ◌≤◌, ◌<◌, ◌⊎◌, ℕ, false, length, get_or, take, Some, slice_get, refl, sym, ap, ◌∙◌, arith, inl, inr}
use Rattle.std.specs.Prelude.{List}
use Rattle.std.specs.Ordering.{is_eq}
use Rattle.std.specs.declared.cmp.Ordering.TheVariants.{Less, Greater}
use Rattle.std.proofs.lemmas.Bool.{cases_lt}
use Rattle.std.proofs.lemmas.List.{length-take}
use Rattle.std.proofs.lemmas.Option.{same_Some, slice_get-get_or}
use Rattle.optra_prices.proofs.ListLemmas.{some_at}
use Rattle.optra_prices.proofs.NumberingLemmas.{high_lowered, low_raised, past_is_other, taken_at}
use Rattle.optra_prices.proofs.row_numbers.place_of.Goals as goal

-- the row at a place among the first ones
among : {R : Type 0} (sorted m : ℕ) (rows : List R) (row : R) → m < sorted → sorted ≤ length rows → slice_get rows m ≡ Some row → slice_get (take sorted rows) m ≡ Some row
among sorted m rows row low within at =
    let long = length-take sorted rows in
    let x = some_at (take sorted rows) m (omega arith) in
    x.1 ∙ ap Some (same_Some x.0 row (sym (taken_at sorted rows m x.0 x.1) ∙ at))

halved : (low high : ℕ) → low < high → (low ≤ low + (high - low) / 2) × (low + (high - low) / 2 < high)
halved low high l = (omega arith, omega arith)

pub loop-low-preserved-in-Less : goal.loop-low-preserved-in-Less
loop-low-preserved-in-Less g c =
    let inv = c.loop-low.invariant in
    let half = halved c.loop-low.low c.loop-low.high c.loop-low-test.true in
    let high = inv.high in
    let middle = c.loop-low.low + (c.loop-low.high - c.loop-low.low) / 2 in
    let first = take c.args.sorted c.args.rows.now.items in
    let at = among c.args.sorted middle c.args.rows.now.items c.at.result (let h = half.1 in omega arith) c.requires.within c.at.ensures in
    record {
      low = let h = half.1 in omega arith;
      high = inv.high;
      below = λ k other l k_at. low_raised g.F.Row.Ord.cmp g.met.F.Row.Ord.total first c.args.row c.at.result other middle k c.requires.ascend at (sym c.cmp.ensures ∙ c.in-Less.is) (omega arith) k_at;
      above = inv.above;
    }

pub returns-in-Equal-clause-found : goal.returns-in-Equal-clause-found
returns-in-Equal-clause-found g c =
    let half = halved c.loop-low.low c.loop-low.high c.loop-low-test.true in
    let high = c.loop-low.invariant.high in
    let middle = c.loop-low.low + (c.loop-low.high - c.loop-low.low) / 2 in
    among c.args.sorted middle c.args.rows.now.items c.at.result (let h = half.1 in omega arith) c.requires.within c.at.ensures
    ∙ ap Some (g.met.F.Row.CodedRow.tells_apart c.at.result c.args.row (sym c.cmp.ensures ∙ c.in-Equal.is))

pub loop-low-preserved : goal.loop-low-preserved
loop-low-preserved g c =
    let inv = c.loop-low.invariant in
    let half = halved c.loop-low.low c.loop-low.high c.loop-low-test.true in
    let high = inv.high in
    let middle = c.loop-low.low + (c.loop-low.high - c.loop-low.low) / 2 in
    let first = take c.args.sorted c.args.rows.now.items in
    let at = among c.args.sorted middle c.args.rows.now.items c.at.result (let h = half.1 in omega arith) c.requires.within c.at.ensures in
    record {
      low = half.0;
      high = let h = half.1 in omega arith;
      below = inv.below;
      above = λ k other l k_at. high_lowered g.F.Row.Ord.cmp g.met.F.Row.Ord.total first c.args.row c.at.result other middle k c.requires.ascend at (sym c.cmp.ensures ∙ c.in-Greater.is) l k_at;
    }

pub returns-clause-missed : goal.returns-clause-missed
returns-clause-missed g c none k d l =
    let first = take c.args.sorted c.args.rows.now.items in
    let cmp = g.F.Row.Ord.cmp in
    let inv = c.loop-low.invariant in
    let last = c.loop-low-test.false in
    let other = get_or first k d in
    let at = slice_get-get_or first k d l in
    elim (cases_lt k c.loop-low.low) as (λ _. is_eq (cmp c.args.row other) ≡ false) [
      | inl below ↦ past_is_other cmp g.met.F.Row.Ord.total c.args.row other Less (inv.below k other below at) refl
      | inr above ↦ past_is_other cmp g.met.F.Row.Ord.total c.args.row other Greater (inv.above k other (omega arith) at) refl
    ]
