use Rattle.std.proofs.Common.{List, [], sym, subst}
use Rattle.std.specs.Prelude.{All}
use Rattle.optra_walk.specs.declared.Leg.{Leg}
use Rattle.optra_walk.specs.Families.{IsUsable}
use Rattle.optra_node.specs.Nodes.{kind_at}
use Rattle.optra_checker.specs.Frees.{IsStillFree}
use Rattle.optra_open.specs.NodeWeights.{leaf_weights}
use Rattle.optra_open.proofs.AtLemmas.{no_true}
use Rattle.optra_checker.proofs.BestWalkLemmas.{attains_at, attains_there}
use Rattle.optra_checker.proofs.best_walk.BestWalk.attains_at.Goals as goal

pub returns-then-not-attains-clause-walk : goal.returns-then-not-attains-clause-walk
returns-then-not-attains-clause-walk g c t = absurd (no_true t)

pub returns-then-not-attains-clause-free : goal.returns-then-not-attains-clause-free
returns-then-not-attains-clause-free g c t = absurd (no_true t)

pub are_free_legs-requires-clause-usable : goal.are_free_legs-requires-clause-usable
are_free_legs-requires-clause-usable g c =
    let node = c.args.node.now in
    let best = c.args.self.now in
    let r = c.index-inst-bid.result in
    subst (λ (ls : List Leg). All (IsUsable node.net (kind_at node.bids c.args.bid)) ls) (sym c.legs.ensures)
    (attains_there node.net node.bids c.inst-inst.result.net.now c.inst-inst.result.bids.now c.args.bid best.worth best.legs.items r c.laws.ensures c.inst-inst.ensures.net c.inst-inst.ensures.bids c.requires
    (c.attains.ensures c.if-not-attains.false))

pub returns-clause-walk : goal.returns-clause-walk
returns-clause-walk g c t b at =
    let node = c.args.node.now in
    let best = c.args.self.now in
    let r = c.index-inst-bid.result in
    attains_at node.net node.bids c.inst-inst.result.net.now c.inst-inst.result.bids.now c.args.bid best.worth best.legs.items r c.inst-inst.ensures.net c.inst-inst.ensures.bids
    (c.attains.ensures c.if-not-attains.false) b at

pub returns-clause-free : goal.returns-clause-free
returns-clause-free g c t =
    let node = c.args.node.now in
    let rows = g.F.RowFamily.rows_of node.family node.net in
    let used = g.F.RowFamily.rows_used node.family node.net in
    let kind = kind_at node.bids c.args.bid in
    subst (λ (ls : List Leg). IsStillFree (leaf_weights node.net rows used node.bids node.node c.args.bid [] kind) ls) c.legs.ensures (c.are_free_legs.ensures.free t)
