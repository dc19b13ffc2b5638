use Rattle.std.proofs.Common.{arith, rules, subst, length, true≢false, sym, ap}
use Rattle.optra_network.specs.Net.{Net, IsBuilt}
use Rattle.optra_network.proofs.NetLemmas.{HasAllHeadways-from_tests, tests_from-HasAllHeadways}
use Rattle.optra_network.proofs.building.Builder.headways_whole.Goals as goal

pub returns-then-not-has_headways_on : goal.returns-then-not-has_headways_on
returns-then-not-has_headways_on c =
    ((λ t. absurd (true≢false (sym t))), (λ all. c.if-not-has_headways_on.ensures.1 (λ a b _ _. tests_from-HasAllHeadways c.args.self.now all c.loop-track.track a b)))

pub returns : goal.returns
returns c =
    let view = c.self.view_is in (
      (λ _. HasAllHeadways-from_tests c.args.self.now (subst IsBuilt view c.self.invariant)
          (λ t a b tl. c.loop-track.invariant t a b (omega (arith, tl, ap (λ (n : Net). length n.tracks) view)))),
      (λ _. search rules),
    )
