-- None of the rows is used.
use Rattle.optra_search.proofs.CrowdLemmas.{none_used}
use Rattle.optra_search.proofs.splitting.uses_one.Goals as goal

pub returns : goal.returns
returns g c =
    none_used (g.F.RowFamily.rows_of c.args.rows.now c.args.net.now) c.args.kind c.args.leg c.args.listed.now c.loop-row.row-index c.loop-row.invariant c.loop-row-test.false
