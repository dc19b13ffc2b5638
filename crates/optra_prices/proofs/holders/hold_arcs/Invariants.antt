use Rattle.optra_prices.proofs.HolderLemmas.{HoldsBelow}
use Rattle.optra_prices.proofs.holders.hold_arcs.Given as goal

abbrev pub invariant-narrow : goal.invariant-narrow
invariant-narrow l = HoldsBelow l.k l.bid l.arcs l.fn.held l.held

abbrev pub invariant-wide : goal.invariant-wide
invariant-wide l = HoldsBelow l.k l.bid l.arcs l.fn.held l.held
