-- The first such leg that is reached.
use Rattle.optra_walk.specs.declared.Leg.{Leg}
use Rattle.optra_search.specs.Marks.{IsCrowding}
use Rattle.optra_search.proofs.FirstLemmas.{first_reached}
use Rattle.optra_search.proofs.splitting.first_crowding.Goals as goal

pub returns-then-is_crowding : goal.returns-then-is_crowding
returns-then-is_crowding g c =
    first_reached (λ (leg : Leg). IsCrowding (g.F.RowFamily.rows_of c.args.rows.now c.args.inst.net.now) c.args.inst.bids.now c.args.node.now c.args.listed.now (c.args.bid, leg))
    c.args.legs.now c.loop-leg.leg-index _ c.loop-leg-test.true c.loop-leg.invariant (c.is_crowding.ensures.0 c.if-is_crowding.true)
