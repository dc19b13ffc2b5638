use Rattle.std.proofs.Common.{◌≡◌, ◌∙◌, ◌+◌, ◌-◌, ◌<◌, ◌≤◌, ℕ, length, refl, ap, sym, subst, arith, rules, to_z, of_z}
use Rattle.std.specs.Prelude.{ℤ, FitsSigned, slice_index}
use Rattle.std.specs.Int.{w64}
use Rattle.std.proofs.lemmas.Int.{to_z-of_z}
use Rattle.optra_prices.specs.Columns.{IsPriceMove, MarksGroups, MovesRunning, mark_at}
use Rattle.optra_prices.specs.Indexes.{items_at}
use Rattle.optra_prices.specs.declared.columns.Columns.{Columns}
use Rattle.optra_prices.specs.declared.columns.Mark.TheVariants.{Due}
use Rattle.optra_prices.proofs.ColumnLemmas.{MarksBelow, below_more, below_all, marked_columns}
use Rattle.optra_prices.proofs.KeyLemmas.{item_read, items_most}
use Rattle.optra_prices.proofs.RunningLemmas.{AreMovedTo, few_next, moved_all, moved_columns, moved_more, range_next}
use Rattle.optra_prices.proofs.columns.move_row_groups.Goals as goal

pub move_group-requires-clause-few : goal.move_group-requires-clause-few
move_group-requires-clause-few c =
    let old = c.args.columns.now in
    let row = c.args.row in
    let start = slice_index old.users.starts.items row in
    let place = c.loop-place.place in
    let inv = c.loop-place.invariant in
    let n = place - start in
    let low = inv.low in
    let high : place < slice_index old.users.starts.items (row + 1) = let e = c.end_of-place-end.ensures in let t = c.loop-place-test.true in omega arith in
    let at : place ≡ start + n = omega arith in
    let item : c.at-g.result ≡ slice_index old.users.items.items (start + n) = c.at-g.ensures ∙ ap (λ (v : Columns). slice_index v.users.items.items place) inv.rest ∙ ap (slice_index old.users.items.items) at in
    let amount : c.at.result ≡ slice_index old.amounts.items (start + n) = c.at.ensures ∙ ap (λ (v : Columns). slice_index v.amounts.items place) inv.rest ∙ ap (slice_index old.amounts.items) at in
    few_next old row n c.at-g.result c.at.result c.loop-place.columns.running.items c.requires.columns (omega arith) inv.moved.count item amount

pub move_group-requires-clause-range : goal.move_group-requires-clause-range
move_group-requires-clause-range c =
    let old = c.args.columns.now in
    let row = c.args.row in
    let start = slice_index old.users.starts.items row in
    let place = c.loop-place.place in
    let inv = c.loop-place.invariant in
    let low = inv.low in
    let high : place < slice_index old.users.starts.items (row + 1) = let e = c.end_of-place-end.ensures in let t = c.loop-place-test.true in omega arith in
    let fits : FitsSigned w64 c.args.by = search rules in
    let by = to_z w64 (of_z w64 c.args.by) in
    let move : IsPriceMove by = subst IsPriceMove (sym (to_z-of_z w64 c.args.by fits)) c.requires.by in
    range_next c.args.prices.now.items old row by (place - start) c.at-g.result c.loop-place.columns.running.items c.requires.columns c.requires.prices c.requires.running move (omega arith) inv.moved

pub loop-place-preserved : goal.loop-place-preserved
loop-place-preserved c =
    let old = c.args.columns.now in
    let row = c.args.row in
    let groups = items_at old.users row in
    let start = slice_index old.users.starts.items row in
    let place = c.loop-place.place in
    let inv = c.loop-place.invariant in
    let n = place - start in
    let low = inv.low in
    let high : place < slice_index old.users.starts.items (row + 1) = let e = c.end_of-place-end.ensures in let t = c.loop-place-test.true in omega arith in
    let at : place ≡ start + n = omega arith in
    let next : n + 1 ≡ place + 1 - start = omega arith in
    let by = to_z w64 (of_z w64 c.args.by) in
    let read : c.at-g.result ≡ slice_index old.users.items.items place = c.at-g.ensures ∙ ap (λ (v : Columns). slice_index v.users.items.items place) inv.rest in
    let item : c.at-g.result ≡ slice_index old.users.items.items (start + n) = read ∙ ap (slice_index old.users.items.items) at in
    let amount : c.at.result ≡ slice_index old.amounts.items (start + n) = c.at.ensures ∙ ap (λ (v : Columns). slice_index v.amounts.items place) inv.rest ∙ ap (slice_index old.amounts.items) at in
    let before = c.loop-place.columns.marks.items in
    let running = c.move_group.new.running in
    let marks = c.mark_group.new.marks in
    let due = c.mark_group.new.due in
    let is = c.in_ok-mark_group.ensures in
    let here = subst (λ (g : ℕ). g < length before → mark_at marks.items g ≡ Due) (read ∙ sym (item_read old.users row place inv.low high)) is.here in
    record {
      low = omega arith;
      high = omega arith;
      rest = ap (λ (v : Columns). record v { running = running; marks = marks; due = due }) inv.rest;
      listed = is.listed;
      below = subst (λ (m : ℕ). MarksBelow m groups old.marks.items marks.items) next (below_more n groups old.marks.items before marks.items inv.below is.keeps here);
      moved = subst (λ (m : ℕ). AreMovedTo old row by m running.items) next (moved_more old row by n c.at-g.result c.at.result c.loop-place.columns.running.items running.items c.requires.columns item amount c.move_group.ensures inv.moved);
    }

pub returns-clause-columns : goal.returns-clause-columns
returns-clause-columns c =
    let old = c.args.columns.now in
    let now = c.loop-place.columns in
    let row = c.args.row in
    let n = c.loop-place.place - slice_index old.users.starts.items row in
    let inv = c.loop-place.invariant in
    let most = items_most old.users row in
    let past : length (items_at old.users row) ≤ n = let e = c.end_of-place-end.ensures in let t = c.loop-place-test.false in omega arith in
    let marked : MarksGroups (items_at old.users row) old.marks.items now.marks.items = below_all n (items_at old.users row) old.marks.items now.marks.items past inv.below in
    let mid = record old { marks = now.marks; due = now.due } in
    let is = marked_columns old mid (items_at old.users row) c.requires.columns refl refl refl refl refl refl inv.listed marked in
    moved_columns old.groups mid now is inv.rest inv.moved.count

pub returns-clause-marks : goal.returns-clause-marks
returns-clause-marks c =
    let old = c.args.columns.now in
    let now = c.loop-place.columns in
    let row = c.args.row in
    let n = c.loop-place.place - slice_index old.users.starts.items row in
    let inv = c.loop-place.invariant in
    let most = items_most old.users row in
    let past : length (items_at old.users row) ≤ n = let e = c.end_of-place-end.ensures in let t = c.loop-place-test.false in omega arith in
    let marked : MarksGroups (items_at old.users row) old.marks.items now.marks.items = below_all n (items_at old.users row) old.marks.items now.marks.items past inv.below in
    record {
      more = record {
        users = ap (λ (v : Columns). v.users) inv.rest;
        prices = ap (λ (v : Columns). v.grouped) inv.rest;
        running = refl;
        marks = marked.keeps.marks;
      };
      users_due = λ g l has. marked.due g l has;
    }

pub returns-clause-running : goal.returns-clause-running
returns-clause-running c =
    let old = c.args.columns.now in
    let row = c.args.row in
    let start = slice_index old.users.starts.items row in
    let end = slice_index old.users.starts.items (row + 1) in
    let place = c.loop-place.place in
    let inv = c.loop-place.invariant in
    let low = inv.low in
    let high = inv.high in
    let all : place - start ≡ end - start = let e = c.end_of-place-end.ensures in let t = c.loop-place-test.false in omega arith in
    let fits : FitsSigned w64 c.args.by = search rules in
    subst (λ (z : ℤ). MovesRunning row z old c.loop-place.columns) (to_z-of_z w64 c.args.by fits) (moved_all old c.loop-place.columns row (to_z w64 (of_z w64 c.args.by)) (place - start) c.requires.columns all inv.moved)
