use Rattle.std.proofs.Common.{◌↔◌, subst}
use Rattle.std.specs.Prelude.{IsTrue}
use Rattle.optra_node.specs.Nodes.{kind_at}
use Rattle.optra_node.specs.Nodes.{InstanceNode}
use Rattle.optra_open.specs.Loaded.{KeepsOff}
use Rattle.optra_open.proofs.open_node.OpenNode.keeps_off.Goals as goal

pub returns : goal.returns
returns g c =
    let inside = c.self.inside in
    let cmp = g.F.Row.Ord.cmp in
    let r = c.keeps_off.result in
    let here = subst (λ k. IsTrue r ↔ KeepsOff cmp (g.F.RowFamily.rows_of inside.rows.now inside.inst.net.now) k c.args.loaded.now c.args.leg) c.kind_at.ensures c.keeps_off.ensures in
    subst (λ (v : InstanceNode g.row.F.Denot). IsTrue r ↔ KeepsOff cmp (g.F.RowFamily.rows_of v.family v.net) (kind_at v.bids c.args.bid) c.args.loaded.now c.args.leg) c.self.view_is here

pub keeps_off-requires-clause-rising : goal.keeps_off-requires-clause-rising
keeps_off-requires-clause-rising g c = c.requires.rising
