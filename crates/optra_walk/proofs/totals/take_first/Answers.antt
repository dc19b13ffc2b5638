use Rattle.std.proofs.Common.{◌≡◌, ◌≤◌, sym, refl, ◌∙◌, arith, ℕ}
use Rattle.optra_walk.proofs.RoomLemmas.{none_past, at_contains}
use Rattle.optra_walk.proofs.RaiseLemmas.{lowered_none, lowered_more, lowered_past, still_high}
use Rattle.optra_walk.proofs.totals.take_first.Goals as goal

pub loop-k-init : goal.loop-k-init
loop-k-init g c =
    let l = g.met.F.RowFamily.lists_rows c.args.rows.now c.args.net.now c.args.kind c.args.leg c.requires.usable in
    lowered_none g.F.Row.Ord.cmp g.met.F.Row.Ord.total g.met.F.Row.CodedRow.tells_apart _ l.ascending _ _ _ (λ q. refl)

pub returns-in_default : goal.returns-in_default
returns-in_default g c =
    let l = g.met.F.RowFamily.lists_rows c.args.rows.now c.args.net.now c.args.kind c.args.leg c.requires.usable in
    lowered_past g.F.Row.Ord.cmp g.met.F.Row.Ord.total g.met.F.Row.CodedRow.tells_apart _ l.ascending _ _ _ c.loop-k.k c.args.count (omega arith) (none_past _ c.loop-k.k (sym c.touched.ensures ∙ c.in_default.is)) c.loop-k.invariant

pub touched_use-requires-clause-used : goal.touched_use-requires-clause-used
touched_use-requires-clause-used g c = at_contains _ c.loop-k.k c.in-Some.row (sym c.touched.ensures ∙ c.in-Some.is)

enough : (now before used by : ℕ) → now ≡ before → used ≤ before → by ≡ used → by ≤ now
enough now before used by a b e = omega arith

pub lower-requires : goal.lower-requires
lower-requires g c =
    let l = g.met.F.RowFamily.lists_rows c.args.rows.now c.args.net.now c.args.kind c.args.leg c.requires.usable in
    let old = still_high g.F.Row.Ord.cmp g.met.F.Row.Ord.total g.met.F.Row.CodedRow.tells_apart _ l.ascending _ _ _ c.loop-k.k c.in-Some.row c.loop-k.invariant (sym c.touched.ensures ∙ c.in-Some.is) in
    enough _ _ _ _ old (c.requires.enough c.loop-k.k c.in-Some.row (omega arith) (sym c.touched.ensures ∙ c.in-Some.is)) c.touched_use.ensures

pub loop-k-preserved : goal.loop-k-preserved
loop-k-preserved g c =
    let l = g.met.F.RowFamily.lists_rows c.args.rows.now c.args.net.now c.args.kind c.args.leg c.requires.usable in
    lowered_more g.F.Row.Ord.cmp g.met.F.Row.Ord.total g.met.F.Row.CodedRow.tells_apart _ l.ascending _ _ _ _ c.loop-k.k c.touched_use.result c.in-Some.row c.loop-k.invariant (sym c.touched.ensures ∙ c.in-Some.is)
    c.touched_use.ensures c.lower.ensures
