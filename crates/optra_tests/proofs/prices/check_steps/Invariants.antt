-- The prices so far are proper.
use Rattle.optra_rows.specs.Headways.{headway_rows}
use Rattle.optra_rows.specs.TouchedLemmas.{row_cmp}
use Rattle.optra_prices.specs.Steps.{AreProper}
use Rattle.optra_tests.proofs.prices.check_steps.Given as goal

abbrev pub invariant-loop-k : goal.invariant-loop-k
invariant-loop-k g l = AreProper row_cmp (headway_rows l.inst.net.now) l.prices
