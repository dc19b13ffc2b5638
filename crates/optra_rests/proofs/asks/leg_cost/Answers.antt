use Rattle.optra_rests.proofs.AskLemmas.{last_asked, alike_told, asked_more}
use Rattle.optra_rests.proofs.asks.leg_cost.Goals as goal

pub returns-then-is_free-clause-asks : goal.returns-then-is_free-clause-asks
returns-then-is_free-clause-asks g c = c.requires.asks

pub returns-then-alike-clause-asks : goal.returns-then-alike-clause-asks
returns-then-alike-clause-asks g c = c.requires.asks

pub alike-requires-clause-second : goal.alike-requires-clause-second
alike-requires-clause-second g c = c.requires.usable

pub cost-cost-requires : goal.cost-cost-requires
cost-cost-requires g c = c.requires.usable

pub bounds-asks-place : goal.bounds-asks-place
bounds-asks-place g c = c.requires.track

pub alike-requires-clause-first : goal.alike-requires-clause-first
alike-requires-clause-first g c = (last_asked (g.W.Weighing.weights c.args.weighing.now) c.args.asks.now c.args.leg.track.0 c.in-Some.last c.requires.asks c.in-Some.is c.requires.track).usable

pub returns-then-alike-clause-told : goal.returns-then-alike-clause-told
returns-then-alike-clause-told g c =
    let w = g.W.Weighing.weights c.args.weighing.now in
    let last = last_asked w c.args.asks.now c.args.leg.track.0 c.in-Some.last c.requires.asks c.in-Some.is c.requires.track in
    alike_told w c.in-Some.last.leg c.args.leg c.in-Some.last.cost (c.alike.ensures c.if-alike.true) last.told

pub returns-clause-told : goal.returns-clause-told
returns-clause-told g c = c.cost-cost.ensures

pub returns-clause-asks : goal.returns-clause-asks
returns-clause-asks g c =
    asked_more (g.W.Weighing.weights c.args.weighing.now) c.args.asks.now c.args.leg.track.0 (record { leg = c.args.leg; cost = c.cost-cost.result }) c.requires.asks
    (record { usable = c.requires.usable; told = c.cost-cost.ensures })
