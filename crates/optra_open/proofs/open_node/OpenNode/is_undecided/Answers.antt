use Rattle.std.proofs.Common.{◌↔◌, length, subst}
use Rattle.std.specs.Prelude.{IsTrue}
use Rattle.optra_node.specs.Nodes.{IsUndecided}
use Rattle.optra_node.specs.Nodes.{InstanceNode}
use Rattle.optra_open.proofs.IndexLemmas.{buckets_count}
use Rattle.optra_open.proofs.open_node.OpenNode.is_undecided.Goals as goal

pub returns : goal.returns
returns g c =
    let inside = c.self.inside in
    subst (λ (v : InstanceNode g.row.F.Denot). IsTrue c.is_undecided.result ↔ IsUndecided v.node c.args.bid c.args.leg) c.self.view_is
    (c.is_undecided.ensures (length inside.inst.bids.now) inside.room.now.decisions.items c.self.invariant.indexed)

pub is_undecided-requires : goal.is_undecided-requires
is_undecided-requires g c =
    let inside = c.self.inside in
    buckets_count (length inside.inst.bids.now) inside.room.now.decisions.items inside.room.now.index c.self.invariant.indexed
