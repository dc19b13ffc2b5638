-- One more leg takes at most 2^61.
use Rattle.std.proofs.Common.{arith, ◌≡◌, ◌+◌, Some, IfSome, Option, subst, ℤ, ◌-ℤ◌, to_z, of_z}
use Rattle.std.specs.Int.{w128}
use Rattle.std.proofs.lemmas.Int.{ints}
use Rattle.optra_rests.specs.Rests.{IsRestSize}
use Rattle.optra_rests.proofs.MoveLemmas.{less_size}
use Rattle.optra_rests.proofs.rests.begin_with.Goals as goal

pub returns-clause-size : goal.returns-clause-size
returns-clause-size g c =
    let e : c.args.rest ≡ Some c.in_ok-rest.rest = c.in_ok-rest.was in
    let r : IsRestSize (c.args.leg.depart + 1) c.in_ok-rest.rest = subst (λ (o : Option ℤ). IfSome o (IsRestSize (c.args.leg.depart + 1))) e c.requires.rest in
    let low = r.0 in
    let high = r.1 in
    let k = c.in_ok-cost.ensures.told in
    let late = c.requires.usable.depart in
    let from = k.2.0 in
    let to = k.2.1 in
    let n : to_z w128 (of_z w128 c.less.result) ≡ c.in_ok-rest.rest -ℤ c.args.share -ℤ c.in_ok-cost.cost = let z = c.less.ensures in omega (arith, ints) in
    less_size c.args.leg.depart c.in_ok-rest.rest c.args.share c.in_ok-cost.cost (to_z w128 (of_z w128 c.less.result)) late r c.requires.share.0 c.requires.share.1 from to n

pub leg_cost-requires-clause-usable : goal.leg_cost-requires-clause-usable
leg_cost-requires-clause-usable g c = c.requires.usable

pub leg_cost-requires-clause-asks : goal.leg_cost-requires-clause-asks
leg_cost-requires-clause-asks g c = c.requires.asks

pub returns-clause-asks : goal.returns-clause-asks
returns-clause-asks g c = c.in_ok-cost.ensures.asks

pub returns-in_err-rest-clause-asks : goal.returns-in_err-rest-clause-asks
returns-in_err-rest-clause-asks g c = c.requires.asks

pub returns-in_err-cost-clause-asks : goal.returns-in_err-cost-clause-asks
returns-in_err-cost-clause-asks g c = c.in_err-cost.ensures.asks

pub leg_cost-requires-clause-track : goal.leg_cost-requires-clause-track
leg_cost-requires-clause-track g c = c.requires.track
