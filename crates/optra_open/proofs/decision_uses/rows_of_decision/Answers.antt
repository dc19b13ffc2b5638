-- A decision's leg uses little of each row.
use Rattle.std.proofs.Common.{arith}
use Rattle.optra_open.proofs.OpenLemmas.{decision_few}
use Rattle.optra_open.proofs.decision_uses.rows_of_decision.Goals as goal

pub add_decision-requires-clause-below : goal.add_decision-requires-clause-below
add_decision-requires-clause-below g c row =
    let f = c.args.rows.now in
    let net = c.args.inst.net.now in
    let none = c.new-uses.ensures row in
    let little =
    decision_few g.F.Row.Ord.cmp net c.args.inst.proper (g.F.RowFamily.rows_of f net) (g.F.RowFamily.rows_used f net) (λ kind leg usable. g.met.F.RowFamily.lists_rows f net kind leg usable)
    (λ kind leg row not. g.met.F.RowFamily.unusable_uses_none f net kind leg row not) c.args.inst.bids.now row c.args.decision c.requires in
    omega (arith, none, little)
