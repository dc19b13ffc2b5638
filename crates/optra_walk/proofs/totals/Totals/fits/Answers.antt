use Rattle.std.proofs.Common.{arith, sym, refl, ◌∙◌}
use Rattle.std.proofs.lemmas.Bool.{true≢false}
use Rattle.optra_walk.specs.Families.{total_of}
use Rattle.optra_walk.proofs.RoomLemmas.{room_from_list, no_room, none_past, at_contains, room_more}
use Rattle.optra_walk.proofs.totals.Totals.fits.Goals as goal

pub cap-requires : goal.cap-requires
cap-requires g c =
    let l = g.met.F.RowFamily.lists_rows c.args.rows.now c.args.net.now c.args.kind c.args.leg c.requires in
    l.are_rows c.in-Some.row ((l.used c.in-Some.row).1 (at_contains _ c.loop-k.k c.in-Some.row (sym c.touched.ensures ∙ c.in-Some.is)))

pub returns-in_default : goal.returns-in_default
returns-in_default g c =
    let l = g.met.F.RowFamily.lists_rows c.args.rows.now c.args.net.now c.args.kind c.args.leg c.requires in
    ((λ _. room_from_list (g.F.RowFamily.rows_used c.args.rows.now c.args.net.now c.args.kind c.args.leg) (total_of g.F.Row.Ord.cmp c.args.self.now.sums) (g.F.RowFamily.rows_of c.args.rows.now c.args.net.now) c.args.kind c.args.leg l.used c.loop-k.k (none_past _ c.loop-k.k (sym c.touched.ensures ∙ c.in_default.is)) c.loop-k.invariant), (λ _. refl))

pub returns-then-sum-from : goal.returns-then-sum-from
returns-then-sum-from g c =
    let l = g.met.F.RowFamily.lists_rows c.args.rows.now c.args.net.now c.args.kind c.args.leg c.requires in
    let a = c.total.ensures in let b = c.touched_use.ensures in let d = c.cap.ensures in let e = c.from.ensures in let f = c.from-in-loop-k.ensures in let more = c.if-sum-from.true in (
      (λ no. absurd (true≢false (sym no))),
      (λ room. absurd (no_room (g.F.RowFamily.rows_used c.args.rows.now c.args.net.now c.args.kind c.args.leg) (total_of g.F.Row.Ord.cmp c.args.self.now.sums) (g.F.RowFamily.rows_of c.args.rows.now c.args.net.now) c.args.kind c.args.leg l.used c.loop-k.k c.in-Some.row (sym c.touched.ensures ∙ c.in-Some.is) (omega arith) room)),
    )

pub loop-k-preserved : goal.loop-k-preserved
loop-k-preserved g c =
    let a = c.total.ensures in let b = c.touched_use.ensures in let d = c.cap.ensures in let e = c.from.ensures in let f = c.from-in-loop-k.ensures in let most = c.if-sum-from.false in
    room_more _ _ _ _ c.loop-k.k c.in-Some.row c.loop-k.invariant (sym c.touched.ensures ∙ c.in-Some.is) (omega arith)

pub returns : goal.returns
returns g c =
    let l = g.met.F.RowFamily.lists_rows c.args.rows.now c.args.net.now c.args.kind c.args.leg c.requires in
    ((λ _. room_from_list (g.F.RowFamily.rows_used c.args.rows.now c.args.net.now c.args.kind c.args.leg) (total_of g.F.Row.Ord.cmp c.args.self.now.sums) (g.F.RowFamily.rows_of c.args.rows.now c.args.net.now) c.args.kind c.args.leg l.used c.loop-k.k (let few = l.few in omega arith) c.loop-k.invariant), (λ _. refl))
