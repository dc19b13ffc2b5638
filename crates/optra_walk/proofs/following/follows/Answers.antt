use Rattle.std.proofs.Common.{IsTrue}
use Rattle.optra_walk.proofs.WalkLemmas.{departures_rise, legs_differ, some_leg, few_legs}
use Rattle.optra_walk.proofs.following.follows.Goals as goal

pub returns-clause-rises : goal.returns-clause-rises
returns-clause-rises c =
    λ (yes : IsTrue c.obeys_rules-is_walk.result).
    departures_rise c.args.net.now c.args.bid.now.path c.args.legs.now c.laws.ensures (c.obeys_rules-is_walk.ensures.0 yes)

pub returns-clause-differ : goal.returns-clause-differ
returns-clause-differ c =
    λ (yes : IsTrue c.obeys_rules-is_walk.result).
    legs_differ c.args.net.now c.args.bid.now.path c.args.legs.now c.laws.ensures (c.obeys_rules-is_walk.ensures.0 yes)

pub returns-clause-few : goal.returns-clause-few
returns-clause-few c =
    λ (yes : IsTrue c.obeys_rules-is_walk.result).
    let walk = c.obeys_rules-is_walk.ensures.0 yes in (
      some_leg c.args.net.now c.args.bid.now.path c.args.legs.now c.laws.ensures walk,
      few_legs c.args.net.now c.args.bid.now.path c.args.legs.now c.laws.ensures walk c.args.bid.now.bounds.arrive.day,
    )
