-- One more leg.
use Rattle.std.proofs.Common.{arith, refl, false}
use Rattle.optra_walk.specs.declared.Action.TheVariants.{Pass}
use Rattle.optra_walk.specs.declared.Leg.{Leg}
use Rattle.optra_node.specs.Nodes.{kind_at}
use Rattle.optra_checker.specs.Frees.{IsFreeLeg}
use Rattle.optra_open.specs.NodeWeights.{leaf_weights}
use Rattle.optra_open.proofs.EachLemmas.{all_next_at, all_past}
use Rattle.optra_checker.proofs.free_legs.each_is_free.Goals as goal

abbrev any_leg : Leg
any_leg = record { track = record { 0 = 0 }; depart = 0; from_halt = false; action = Pass }

pub legs-preserved : goal.legs-preserved
legs-preserved g c =
    let node = c.args.node.now in
    let rows = g.F.RowFamily.rows_of node.family node.net in
    let used = g.F.RowFamily.rows_used node.family node.net in
    let w = leaf_weights node.net rows used node.bids node.node c.args.bid c.args.prices.now (kind_at node.bids c.args.bid) in
    all_next_at (IsFreeLeg w) c.args.legs.now c.legs.leg-index any_leg c.legs-test.true c.legs.invariant (c.is_free_leg.ensures.0 c.if-not-is_free_leg.false)

pub returns : goal.returns
returns g c =
    let node = c.args.node.now in
    let rows = g.F.RowFamily.rows_of node.family node.net in
    let used = g.F.RowFamily.rows_used node.family node.net in
    let w = leaf_weights node.net rows used node.bids node.node c.args.bid c.args.prices.now (kind_at node.bids c.args.bid) in (
      λ _. all_past (IsFreeLeg w) c.args.legs.now c.legs.leg-index c.legs-test.false c.legs.invariant,
      λ _. refl,
    )

pub is_free_leg-requires-clause-ascending : goal.is_free_leg-requires-clause-ascending
is_free_leg-requires-clause-ascending g c = c.requires.ascending

pub is_free_leg-requires-clause-proper : goal.is_free_leg-requires-clause-proper
is_free_leg-requires-clause-proper g c = c.requires.proper

pub is_free_leg-requires-clause-usable : goal.is_free_leg-requires-clause-usable
is_free_leg-requires-clause-usable g c = c.requires.usable c.legs.leg-index any_leg c.legs-test.true

pub legs-init : goal.legs-init
legs-init g c k d l = absurd (omega (arith, l))
