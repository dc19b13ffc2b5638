use Rattle.std.proofs.Common.{◌≤◌, All, sym, subst, true≢false, rules}
use Rattle.optra_network.specs.Crossings.{AreReaches}
use Rattle.optra_network.proofs.CrossingLemmas.{within_reach-from, within_reach-to}
use Rattle.optra_network.proofs.building.Builder.whole_crossings.Goals as goal

pub returns-then-not-are_within-clause-err : goal.returns-then-not-are_within-clause-err
returns-then-not-are_within-clause-err c =
    let are : AreReaches c.args.self.now c.in-Some.reaches.items = search rules in (
      are.both_ways,
      (λ reach. true≢false (sym (c.if-not-are_within.ensures.1 (subst (All (λ n. n ≤ 4000)) (sym c.deref.ensures.value) (within_reach-to c.args.self.now c.in-Some.reaches.items are reach))))),
    )

pub returns-clause-within_reach : goal.returns-clause-within_reach
returns-clause-within_reach c =
    let are : AreReaches c.args.self.now c.in-Some.reaches.items = search rules in
    within_reach-from c.args.self.now c.in-Some.reaches.items are (subst (All (λ n. n ≤ 4000)) c.deref.ensures.value (c.are_within.ensures.0 (search rules)))
