use Rattle.std.proofs.Common.{◌↔◌, sym, subst}
use Rattle.std.specs.Prelude.{All, IsTrue}
use Rattle.optra_network.specs.declared.TypeId.{TypeId}
use Rattle.optra_walk.specs.Families.{IsUsable}
use Rattle.optra_node.specs.Nodes.{kind_at}
use Rattle.optra_node.specs.Nodes.{InstanceNode}
use Rattle.optra_open.specs.Loaded.{KeepsOff}
use Rattle.optra_open.proofs.open_node.OpenNode.all_keep_off.Goals as goal

pub all_keep_off-requires-clause-rising : goal.all_keep_off-requires-clause-rising
all_keep_off-requires-clause-rising g c = c.requires.rising

pub all_keep_off-requires-clause-usable : goal.all_keep_off-requires-clause-usable
all_keep_off-requires-clause-usable g c =
    let here = subst (λ (v : InstanceNode g.row.F.Denot). All (IsUsable v.net (kind_at v.bids c.args.bid)) c.args.legs.now) (sym c.self.view_is) c.requires.usable in
    subst (λ (k : TypeId). All (IsUsable c.self.inside.inst.net.now k) c.args.legs.now) (sym c.kind_at.ensures) here

pub returns : goal.returns
returns g c =
    let inside = c.self.inside in
    let cmp = g.F.Row.Ord.cmp in
    let r = c.all_keep_off.result in
    let here = subst (λ k. IsTrue r ↔ All (KeepsOff cmp (g.F.RowFamily.rows_of inside.rows.now inside.inst.net.now) k c.args.listed.now) c.args.legs.now) c.kind_at.ensures c.all_keep_off.ensures in
    subst (λ (v : InstanceNode g.row.F.Denot). IsTrue r ↔ All (KeepsOff cmp (g.F.RowFamily.rows_of v.family v.net) (kind_at v.bids c.args.bid) c.args.listed.now) c.args.legs.now) c.self.view_is here
