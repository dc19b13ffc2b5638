use Rattle.std.proofs.Common.{sym, ◌∙◌, subst}
use Rattle.std.proofs.lemmas.Bool.Decides.{same_from_decides}
use Rattle.optra_network.specs.declared.TypeId.{TypeId}
use Rattle.optra_walk.specs.Families.{UseAlike}
use Rattle.optra_node.specs.Nodes.{kind_at}
use Rattle.optra_node.specs.Nodes.{InstanceNode}
use Rattle.optra_open.specs.Tests.{all_let}
use Rattle.optra_open.proofs.TestLemmas.{all_tested, alike_by, same_answer}
use Rattle.optra_open.proofs.open_node.OpenNode.are_alike.Goals as goal

pub returns : goal.returns
returns g c same prices =
    let self = c.args.self.now in
    let bid = c.args.bid in
    let first = c.args.first in
    let second = c.args.second in
    let kind = kind_at self.bids bid in
    let rows = g.F.RowFamily.rows_of self.family self.net in
    let used = g.F.RowFamily.rows_used self.family self.net in
    let inside = c.self.inside in
    let of_kind = subst (λ (k : TypeId). UseAlike (g.F.RowFamily.rows_of inside.rows.now inside.inst.net.now) (g.F.RowFamily.rows_used inside.rows.now inside.inst.net.now) k first second)
    c.kind_at-kind.ensures (c.use_alike.ensures c.if-not-use_alike.false) in
    let uses = subst (λ (v : InstanceNode g.row.F.Denot). UseAlike (g.F.RowFamily.rows_of v.family v.net) (g.F.RowFamily.rows_used v.family v.net) (kind_at v.bids bid) first second) c.self.view_is of_kind in
    let one = same_from_decides c.let_by.result (all_let self.net self.node bid kind first) c.let_by.ensures (all_tested self.net kind self.node bid first) in
    let two = same_from_decides c.let_by-2.result (all_let self.net self.node bid kind second) c.let_by-2.ensures (all_tested self.net kind self.node bid second) in
    alike_by self.net rows used self.bids self.node bid kind first second uses (sym one ∙ same_answer c.let_by.result c.let_by-2.result same ∙ two) prices
