use Rattle.optra_node.proofs.ChildLemmas.{dual_below, bound_not_negative}
use Rattle.optra_node.proofs.BaseLemmas.{zero_dual}
use Rattle.optra_node.proofs.UniqueLemmas.{dual_unique, bound_unique}
use Rattle.optra_node.proofs.laws.dual_laws.Goals as goal

pub returns : goal.returns
returns g c =
    let net = c.args.inst.net.now in
    let bids = c.args.inst.bids.now in
    let rows = g.F.RowFamily.rows_of c.args.rows.now net in
    record {
      one_dual = dual_unique net rows bids;
      one_bound = bound_unique net rows bids;
      falls = dual_below net rows bids;
      bases = zero_dual net rows bids;
      not_negative = λ revenue bound choice tree whole valid. bound_not_negative net rows bids tree bound whole valid.splits valid.dead valid.prices valid.bound_is;
    }
