use Rattle.std.proofs.Common.{arith, ◌∙◌, pos, ◌*ℤ◌}
use Rattle.optra_walk.proofs.ShareLemmas.{rate_same, rate_kept, time_same}
use Rattle.optra_walk.proofs.shares.wait_cents.Goals as goal

pub rate_times-requires-clause-rate : goal.rate_times-requires-clause-rate
rate_times-requires-clause-rate c = rate_kept c.args.money.wait c.requires.wait

pub rate_times-requires-clause-minutes : goal.rate_times-requires-clause-minutes
rate_times-requires-clause-minutes c = omega (arith, c.from.ensures, c.ranges.minutes)

pub returns-clause-value : goal.returns-clause-value
returns-clause-value c = time_same c.rate_times.result c.rate_times.ensures.range ∙ c.rate_times.ensures.value ∙ (λ i. rate_same c.args.money.wait c.requires.wait i *ℤ pos (c.from.ensures i))
