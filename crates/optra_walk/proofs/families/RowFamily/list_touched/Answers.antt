use Rattle.std.proofs.Common.{sym, ◌∙◌, arith}
use Rattle.optra_walk.proofs.ListLemmas.{listed_more, listed_all, none_there}
use Rattle.optra_walk.proofs.families.RowFamily.list_touched.Goals as goal

pub loop-k-preserved : goal.loop-k-preserved
loop-k-preserved g c =
    listed_more _ _ _ (g.Self.RowFamily.rows_used c.args.self.now c.args.net.now c.args.kind c.args.leg) c.loop-k.k c.in-Some.row c.loop-k.invariant (sym c.touched.ensures ∙ c.in-Some.is) c.in_ok-push.ensures.pushed

pub returns-in_default : goal.returns-in_default
returns-in_default g c =
    let used = g.Self.RowFamily.rows_used c.args.self.now c.args.net.now c.args.kind c.args.leg in
    listed_all _ _ used c.loop-k.k c.loop-k.invariant (none_there used c.loop-k.k (sym c.touched.ensures ∙ c.in_default.is))

pub returns : goal.returns
returns g c =
    let used = g.Self.RowFamily.rows_used c.args.self.now c.args.net.now c.args.kind c.args.leg in
    listed_all _ _ used c.loop-k.k c.loop-k.invariant (omega (arith, c.used_count-k-end.ensures))
