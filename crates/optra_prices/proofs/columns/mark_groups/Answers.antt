use Rattle.std.proofs.Common.{◌≡◌, ◌+◌, ◌-◌, ◌<◌, ◌≤◌, ℕ, length, sym, ◌∙◌, subst, arith}
use Rattle.std.specs.Prelude.{slice_index}
use Rattle.optra_prices.specs.Columns.{mark_at}
use Rattle.optra_prices.specs.Indexes.{items_at}
use Rattle.optra_prices.specs.declared.columns.Mark.TheVariants.{Due}
use Rattle.optra_prices.proofs.ColumnLemmas.{MarksBelow, below_none, below_more, below_all}
use Rattle.optra_prices.proofs.KeyLemmas.{item_read, items_most}
use Rattle.optra_prices.proofs.columns.mark_groups.Goals as goal

pub loop-place-init : goal.loop-place-init
loop-place-init c =
    let groups = items_at c.args.users.now c.args.row in
    let marks = c.args.marks.now.items in
    let start = slice_index c.args.users.now.starts.items c.args.row in
    let none : c.start_of-place.result - start ≡ 0 = let e = c.start_of-place.ensures in omega arith in
    record {
      low = let e = c.start_of-place.ensures in omega arith;
      listed = c.requires.listed;
      below = subst (λ (n : ℕ). MarksBelow n groups marks marks) (sym none) (below_none groups marks);
    }

pub loop-place-preserved : goal.loop-place-preserved
loop-place-preserved c =
    let users = c.args.users.now in
    let row = c.args.row in
    let groups = items_at users row in
    let start = slice_index users.starts.items row in
    let place = c.loop-place.place in
    let inv = c.loop-place.invariant in
    let low = inv.low in
    let high : place < slice_index users.starts.items (row + 1) = let e = c.end_of-place-end.ensures in let t = c.loop-place-test.true in omega arith in
    let n = place - start in
    let next : place + 1 - start ≡ n + 1 = omega arith in
    let old = c.loop-place.marks.items in
    let new = c.mark_group.new.marks.items in
    let is = c.in_ok-mark_group.ensures in
    let here = subst (λ (g : ℕ). g < length old → mark_at new g ≡ Due) (c.at.ensures ∙ sym (item_read users row place inv.low high)) is.here in
    record {
      low = omega arith;
      listed = is.listed;
      below = subst (λ (m : ℕ). MarksBelow m groups c.args.marks.now.items new) (sym next) (below_more n groups c.args.marks.now.items old new inv.below is.keeps here);
    }

pub returns-clause-marks : goal.returns-clause-marks
returns-clause-marks c =
    let users = c.args.users.now in
    let n = c.loop-place.place - slice_index users.starts.items c.args.row in
    let most = items_most users c.args.row in
    let past : length (items_at users c.args.row) ≤ n = let e = c.end_of-place-end.ensures in let t = c.loop-place-test.false in omega arith in
    below_all n (items_at users c.args.row) c.args.marks.now.items c.loop-place.marks.items past c.loop-place.invariant.below
