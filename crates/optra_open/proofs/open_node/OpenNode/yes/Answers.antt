use Rattle.std.proofs.Common.{◌∙◌, ap, length, ◌<◌, sym, subst}
use Rattle.optra_node.specs.OwnDecisions.{decisions_for}
use Rattle.optra_node.specs.Nodes.{InstanceNode}
use Rattle.optra_open.specs.Keyed.{yes_part}
use Rattle.optra_open.proofs.IndexLemmas.{yes_within}
use Rattle.optra_open.proofs.open_node.OpenNode.yes.Goals as goal

pub returns : goal.returns
returns g c =
    let inside = c.self.inside in
    c.yes_of.ensures (length inside.inst.bids.now) inside.room.now.decisions.items c.self.invariant.indexed ∙ ap (λ v. decisions_for (yes_part v.node) c.args.bid) c.self.view_is

pub yes_of-requires : goal.yes_of-requires
yes_of-requires g c =
    let inside = c.self.inside in
    yes_within (length inside.inst.bids.now) inside.room.now.decisions.items inside.room.now.index c.self.invariant.indexed c.args.bid (subst (λ (v : InstanceNode g.row.F.Denot). c.args.bid < length v.bids) (sym c.self.view_is) c.requires)
