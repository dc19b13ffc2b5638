use Rattle.std.proofs.Common.{◌≡◌, ◌+◌, refl, sym, ◌∙◌, arith}
use Rattle.optra_walk.specs.Families.{total_of}
use Rattle.optra_walk.proofs.RoomLemmas.{none_past, at_contains, tested_more, tested_all}
use Rattle.optra_walk.proofs.RaiseLemmas.{raised_none, raised_all, raised_more, raised_enough, still, undone}
use Rattle.optra_walk.proofs.totals.add_tested.Goals as goal

pub returns-in_default-clause-added : goal.returns-in_default-clause-added
returns-in_default-clause-added g c =
    let l = g.met.F.RowFamily.lists_rows c.args.rows.now c.args.net.now c.args.kind c.args.leg c.requires.usable in
    raised_all g.F.Row.Ord.cmp g.met.F.Row.Ord.total g.met.F.Row.CodedRow.tells_apart _ l.ascending _ _ l.used _ c.loop-k.k (none_past _ c.loop-k.k (sym c.touched.ensures ∙ c.in_default.is)) c.loop-k.invariant.raised

pub touched_use-used-requires-clause-used : goal.touched_use-used-requires-clause-used
touched_use-used-requires-clause-used g c = at_contains _ c.loop-k.k c.in-Some.row (sym c.touched.ensures ∙ c.in-Some.is)

pub take_first-requires-clause-enough : goal.take_first-requires-clause-enough
take_first-requires-clause-enough g c =
    let l = g.met.F.RowFamily.lists_rows c.args.rows.now c.args.net.now c.args.kind c.args.leg c.requires.usable in
    let e = raised_enough g.F.Row.Ord.cmp g.met.F.Row.Ord.total g.met.F.Row.CodedRow.tells_apart _ l.ascending _ _ (total_of g.F.Row.Ord.cmp c.loop-k.sums) c.loop-k.k c.loop-k.invariant.raised in
    λ j row below at. let a = e j row below at in let k = c.in-Err.ensures.kept row in omega (arith, a, k)

pub returns-in-Err-clause-kept : goal.returns-in-Err-clause-kept
returns-in-Err-clause-kept g c =
    let l = g.met.F.RowFamily.lists_rows c.args.rows.now c.args.net.now c.args.kind c.args.leg c.requires.usable in
    undone g.F.Row.Ord.cmp g.met.F.Row.Ord.total g.met.F.Row.CodedRow.tells_apart _ l.ascending _ _ (total_of g.F.Row.Ord.cmp c.loop-k.sums) (total_of g.F.Row.Ord.cmp c.raise.new.sums) (total_of g.F.Row.Ord.cmp c.take_first.new.sums) c.loop-k.k c.loop-k.invariant.raised c.in-Err.ensures.kept c.take_first.ensures

pub cap-requires : goal.cap-requires
cap-requires g c =
    let l = g.met.F.RowFamily.lists_rows c.args.rows.now c.args.net.now c.args.kind c.args.leg c.requires.usable in
    l.are_rows c.in-Some.row ((l.used c.in-Some.row).1 (at_contains _ c.loop-k.k c.in-Some.row (sym c.touched.ensures ∙ c.in-Some.is)))

pub loop-k-preserved : goal.loop-k-preserved
loop-k-preserved g c =
    let l = g.met.F.RowFamily.lists_rows c.args.rows.now c.args.net.now c.args.kind c.args.leg c.requires.usable in
    let apart = g.met.F.Row.CodedRow.tells_apart in
    let total = g.met.F.Row.Ord.total in
    let cmp = g.F.Row.Ord.cmp in
    let family = g.F.RowFamily.rows_of c.args.rows.now c.args.net.now in
    let uses = family.uses c.args.kind c.args.leg in
    let rows = g.F.RowFamily.rows_used c.args.rows.now c.args.net.now c.args.kind c.args.leg in
    let before = total_of cmp c.args.sums.now in
    let at = sym c.touched.ensures ∙ c.in-Some.is in
    let old = still cmp total apart rows l.ascending uses before (total_of cmp c.loop-k.sums) c.loop-k.k c.in-Some.row c.loop-k.invariant.raised at in
    let sum : c.in-Ok.sum ≡ before c.in-Some.row + uses c.in-Some.row = let s = c.in-Ok.ensures.sum in let u = c.touched_use-used.ensures in omega (arith, s, u, old) in
    record {
      raised = raised_more cmp total apart rows l.ascending uses before (total_of cmp c.loop-k.sums) (total_of cmp c.raise.new.sums) c.loop-k.k c.touched_use-used.result c.in-Some.row c.loop-k.invariant.raised
          at c.touched_use-used.ensures c.in-Ok.ensures.raised;
      tested = tested_more rows before uses family.capacity c.loop-k.k c.in-Ok.sum c.cap.result c.in-Some.row c.loop-k.fitted c.still_fit-fitted.result c.loop-k.invariant.tested c.still_fit-fitted.ensures at sum c.cap.ensures;
    }

pub returns-clause-added : goal.returns-clause-added
returns-clause-added g c =
    let l = g.met.F.RowFamily.lists_rows c.args.rows.now c.args.net.now c.args.kind c.args.leg c.requires.usable in
    raised_all g.F.Row.Ord.cmp g.met.F.Row.Ord.total g.met.F.Row.CodedRow.tells_apart _ l.ascending _ _ l.used _ c.loop-k.k (let few = l.few in omega arith) c.loop-k.invariant.raised

pub loop-k-init : goal.loop-k-init
loop-k-init g c =
    let l = g.met.F.RowFamily.lists_rows c.args.rows.now c.args.net.now c.args.kind c.args.leg c.requires.usable in
    record {
      raised = raised_none g.F.Row.Ord.cmp g.met.F.Row.Ord.total g.met.F.Row.CodedRow.tells_apart _ l.ascending _ _ _ (λ q. refl);
      tested = ((λ _ j below. absurd (omega arith)), (λ _. refl));
    }

pub returns-in_default-clause-fitted : goal.returns-in_default-clause-fitted
returns-in_default-clause-fitted g c =
    let l = g.met.F.RowFamily.lists_rows c.args.rows.now c.args.net.now c.args.kind c.args.leg c.requires.usable in
    tested_all (g.F.RowFamily.rows_used c.args.rows.now c.args.net.now c.args.kind c.args.leg) (total_of g.F.Row.Ord.cmp c.args.sums.now) (g.F.RowFamily.rows_of c.args.rows.now c.args.net.now) c.args.kind c.args.leg l.used
    c.loop-k.fitted c.loop-k.k (none_past _ c.loop-k.k (sym c.touched.ensures ∙ c.in_default.is)) c.loop-k.invariant.tested

pub returns-clause-fitted : goal.returns-clause-fitted
returns-clause-fitted g c =
    let l = g.met.F.RowFamily.lists_rows c.args.rows.now c.args.net.now c.args.kind c.args.leg c.requires.usable in
    tested_all (g.F.RowFamily.rows_used c.args.rows.now c.args.net.now c.args.kind c.args.leg) (total_of g.F.Row.Ord.cmp c.args.sums.now) (g.F.RowFamily.rows_of c.args.rows.now c.args.net.now) c.args.kind c.args.leg l.used
    c.loop-k.fitted c.loop-k.k (let few = l.few in omega arith) c.loop-k.invariant.tested
