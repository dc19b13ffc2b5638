-- A row that is used stands in its family's list.
use Rattle.std.proofs.Common.{subst, Contains}
use Rattle.optra_rows.specs.Eithers.{both_lists}
use Rattle.optra_rows.specs.EitherLemmas.{first_listed, second_listed}
use Rattle.optra_rows.proofs.joining.BothRowFamily.touched_use.Goals as goal

pub touched_use-requires-clause-used : goal.touched_use-requires-clause-used
touched_use-requires-clause-used g c =
    let ps = g.A.RowFamily.rows_used c.args.self.now.first c.args.net.now c.args.kind c.args.leg in
    let qs = g.B.RowFamily.rows_used c.args.self.now.second c.args.net.now c.args.kind c.args.leg in
    first_listed ps qs c.in-First.p (subst (Contains (both_lists ps qs)) c.in-First.is c.requires.used)

pub touched_use-requires-in-Second-clause-used : goal.touched_use-requires-in-Second-clause-used
touched_use-requires-in-Second-clause-used g c =
    let ps = g.A.RowFamily.rows_used c.args.self.now.first c.args.net.now c.args.kind c.args.leg in
    let qs = g.B.RowFamily.rows_used c.args.self.now.second c.args.net.now c.args.kind c.args.leg in
    second_listed ps qs c.in-Second.q (subst (Contains (both_lists ps qs)) c.in-Second.is c.requires.used)
