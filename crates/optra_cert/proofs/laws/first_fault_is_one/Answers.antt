use Rattle.std.proofs.Common.{length}
use Rattle.optra_cert.proofs.OneFault.{one_first_fault}
use Rattle.optra_cert.proofs.laws.first_fault_is_one.Goals as goal

pub returns : goal.returns
returns g c = one_first_fault g.F.Row.Ord.cmp (g.F.RowText.texts_of c.args.rows.now) c.args.inst.net.now (length c.args.inst.bids.now)
