use Rattle.std.proofs.Common.{sym, ◌∙◌, arith}
use Rattle.optra_walk.specs.Families.{total_of}
use Rattle.optra_walk.proofs.RoomLemmas.{none_past, at_contains}
use Rattle.optra_walk.proofs.RaiseLemmas.{raised_all, raised_more, raised_enough, undone}
use Rattle.optra_walk.proofs.totals.add_uses.Goals as goal

pub returns-in_default-clause-added : goal.returns-in_default-clause-added
returns-in_default-clause-added g c =
    let l = g.met.F.RowFamily.lists_rows c.args.rows.now c.args.net.now c.args.kind c.args.leg c.requires.usable in
    raised_all g.F.Row.Ord.cmp g.met.F.Row.Ord.total g.met.F.Row.CodedRow.tells_apart _ l.ascending _ _ l.used _ c.loop-k.k (none_past _ c.loop-k.k (sym c.touched.ensures ∙ c.in_default.is)) c.loop-k.invariant

pub touched_use-used-requires-clause-used : goal.touched_use-used-requires-clause-used
touched_use-used-requires-clause-used g c = at_contains _ c.loop-k.k c.in-Some.row (sym c.touched.ensures ∙ c.in-Some.is)

pub take_first-requires-clause-enough : goal.take_first-requires-clause-enough
take_first-requires-clause-enough g c =
    let l = g.met.F.RowFamily.lists_rows c.args.rows.now c.args.net.now c.args.kind c.args.leg c.requires.usable in
    let e = raised_enough g.F.Row.Ord.cmp g.met.F.Row.Ord.total g.met.F.Row.CodedRow.tells_apart _ l.ascending _ _ (total_of g.F.Row.Ord.cmp c.loop-k.sums) c.loop-k.k c.loop-k.invariant in
    λ j row below at. let a = e j row below at in let k = c.in-Err.ensures.kept row in omega (arith, a, k)

pub returns-in-Err-clause-kept : goal.returns-in-Err-clause-kept
returns-in-Err-clause-kept g c =
    let l = g.met.F.RowFamily.lists_rows c.args.rows.now c.args.net.now c.args.kind c.args.leg c.requires.usable in
    undone g.F.Row.Ord.cmp g.met.F.Row.Ord.total g.met.F.Row.CodedRow.tells_apart _ l.ascending _ _ (total_of g.F.Row.Ord.cmp c.loop-k.sums) (total_of g.F.Row.Ord.cmp c.raise.new.sums) (total_of g.F.Row.Ord.cmp c.take_first.new.sums) c.loop-k.k c.loop-k.invariant c.in-Err.ensures.kept c.take_first.ensures

pub loop-k-preserved : goal.loop-k-preserved
loop-k-preserved g c =
    let l = g.met.F.RowFamily.lists_rows c.args.rows.now c.args.net.now c.args.kind c.args.leg c.requires.usable in
    raised_more g.F.Row.Ord.cmp g.met.F.Row.Ord.total g.met.F.Row.CodedRow.tells_apart _ l.ascending _ _ (total_of g.F.Row.Ord.cmp c.loop-k.sums) (total_of g.F.Row.Ord.cmp c.raise.new.sums) c.loop-k.k c.touched_use-used.result c.in-Some.row c.loop-k.invariant
    (sym c.touched.ensures ∙ c.in-Some.is) c.touched_use-used.ensures c.in_default-raise.ensures.raised

pub returns-clause-added : goal.returns-clause-added
returns-clause-added g c =
    let l = g.met.F.RowFamily.lists_rows c.args.rows.now c.args.net.now c.args.kind c.args.leg c.requires.usable in
    raised_all g.F.Row.Ord.cmp g.met.F.Row.Ord.total g.met.F.Row.CodedRow.tells_apart _ l.ascending _ _ l.used _ c.loop-k.k (let few = l.few in omega arith) c.loop-k.invariant
