-- Priced in 64 bits, the arcs weigh what they do.
use Rattle.optra_prices.proofs.NarrowLemmas.{narrow_agrees, narrow_asked}
use Rattle.optra_prices.proofs.searching.best_in.Goals as goal

pub best_by-requires-clause-narrow_asked : goal.best_by-requires-clause-narrow_asked
best_by-requires-clause-narrow_asked c = let w = c.args.weights.now in narrow_asked _ w.arcs w.grouped.now _ c.requires.count c.in-Some.ensures

pub best_by-requires-clause-same : goal.best_by-requires-clause-same
best_by-requires-clause-same c = let w = c.args.weights.now in narrow_agrees c.args.most _ w.arcs w.grouped.now _ c.requires.weighed c.requires.count c.in-Some.ensures

pub best_by-requires-in-Some-narrow_weights-clause-narrow_asked : goal.best_by-requires-in-Some-narrow_weights-clause-narrow_asked
best_by-requires-in-Some-narrow_weights-clause-narrow_asked c = let w = c.args.weights.now in narrow_asked _ w.arcs w.grouped.now _ c.requires.count c.in-Some-narrow_weights.ensures

pub best_by-requires-in-Some-narrow_weights-clause-same : goal.best_by-requires-in-Some-narrow_weights-clause-same
best_by-requires-in-Some-narrow_weights-clause-same c =
    let w = c.args.weights.now in narrow_agrees c.args.most _ w.arcs w.grouped.now _ c.requires.weighed c.requires.count c.in-Some-narrow_weights.ensures
