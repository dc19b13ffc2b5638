-- No two reasons are the first, and a valid certificate has none.
use Rattle.optra_checker.proofs.VerdictLemmas.{one_verdict}
use Rattle.optra_checker.proofs.laws.verdict_is_one.Goals as goal

pub returns : goal.returns
returns g c =
    let net = c.args.inst.net.now in
    let f = c.args.rows.now in
    one_verdict net (g.F.RowFamily.rows_of f net) (g.F.RowFamily.KeepsRule f net) c.args.inst.bids.now
