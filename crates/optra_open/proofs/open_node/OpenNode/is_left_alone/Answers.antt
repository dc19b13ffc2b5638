use Rattle.std.proofs.Common.{◌∙◌, length, sym, ap, ◌<◌, subst}
use Rattle.optra_node.specs.OwnDecisions.{decisions_for}
use Rattle.optra_node.specs.Nodes.{InstanceNode}
use Rattle.optra_open.proofs.IndexLemmas.{own_within}
use Rattle.optra_open.proofs.OwnLemmas.{none_own, own_none}
use Rattle.optra_open.proofs.open_node.OpenNode.is_left_alone.Goals as goal

pub returns : goal.returns
returns g c =
    let inside = c.self.inside in
    let node = c.args.self.now.node in
    let own = c.own_of.ensures (length inside.inst.bids.now) inside.room.now.decisions.items c.self.invariant.indexed ∙ ap (λ v. decisions_for v.node c.args.bid) c.self.view_is in
    (λ t. none_own c.args.bid node (sym own ∙ c.has_none.ensures.0 t), λ none. c.has_none.ensures.1 (own ∙ own_none c.args.bid node none))

pub own_of-requires : goal.own_of-requires
own_of-requires g c =
    let inside = c.self.inside in
    own_within (length inside.inst.bids.now) inside.room.now.decisions.items inside.room.now.index c.self.invariant.indexed c.args.bid (subst (λ (v : InstanceNode g.row.F.Denot). c.args.bid < length v.bids) (sym c.self.view_is) c.requires)
