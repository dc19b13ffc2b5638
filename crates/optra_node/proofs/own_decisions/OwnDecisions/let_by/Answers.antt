use Rattle.std.proofs.Common.{◌∙◌, ap}
use Rattle.optra_node.specs.Nodes.{kind_at}
use Rattle.optra_node.proofs.OwnLemmas.{let_by_own}
use Rattle.optra_node.proofs.own_decisions.OwnDecisions.let_by.Goals as goal

pub returns : goal.returns
returns g c =
    let_by_own c.args.bid c.own.result.now c.args.self.now.node c.own.ensures c.let_by.result
    c.self.inside.inst.net.now c.args.self.now.net (ap (λ v. v.net) c.self.view_is)
    c.kind_at.result (kind_at c.args.self.now.bids c.args.bid) (c.kind_at.ensures ∙ ap (λ v. kind_at v.bids c.args.bid) c.self.view_is) c.args.leg c.let_by.ensures
