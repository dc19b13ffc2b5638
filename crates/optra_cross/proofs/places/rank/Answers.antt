use Rattle.std.proofs.Common.{arith}
use Rattle.optra_network.specs.declared.Crosser.{Crosser}
use Rattle.optra_cross.proofs.SearchLemmas.{rank_small}
use Rattle.optra_cross.proofs.places.rank.Goals as goal

abbrev any_crosser : Crosser
any_crosser = record { track = record { 0 = 0 }; kind = record { 0 = 0 }; before = 0; after = 0 }

pub overflow_add-sum : goal.overflow_add-sum
overflow_add-sum c =
    let small = rank_small c.args.time c.args.place c.args.crossers.now c.crossers.crosser-index any_crosser c.crossers-test.true c.requires.few in
    let sum = c.crossers.invariant in
    let count = c.count_below-sum.ensures in
    omega (arith, small, sum, count)
