use Rattle.std.proofs.Common.{arith, ◌∙◌, pos, ◌+ℤ◌, ◌*ℤ◌}
use Rattle.optra_walk.proofs.ShareLemmas.{rate_same, rate_kept, times_sum_fits, times_sum_value, times_sum_range}
use Rattle.optra_walk.proofs.shares.off_price.Goals as goal

pub rate_times-requires-clause-rate : goal.rate_times-requires-clause-rate
rate_times-requires-clause-rate c = rate_kept c.args.early c.requires.early

pub rate_times-requires-clause-minutes : goal.rate_times-requires-clause-minutes
rate_times-requires-clause-minutes c = omega (arith, c.saturating_sub.ensures, c.requires.ideal)

pub rate_times-requires-2-clause-rate : goal.rate_times-requires-2-clause-rate
rate_times-requires-2-clause-rate c = rate_kept c.args.late c.requires.late

pub rate_times-requires-2-clause-minutes : goal.rate_times-requires-2-clause-minutes
rate_times-requires-2-clause-minutes c = omega (arith, c.saturating_sub-2.ensures, c.requires.time)

pub overflow_add-result : goal.overflow_add-result
overflow_add-result c = times_sum_fits c.rate_times.result c.rate_times-2.result c.rate_times.ensures.range c.rate_times-2.ensures.range

pub returns-clause-value : goal.returns-clause-value
returns-clause-value c =
    let early = c.rate_times.ensures.value ∙ (λ i. rate_same c.args.early c.requires.early i *ℤ pos (c.saturating_sub.ensures i)) in
    let late = c.rate_times-2.ensures.value ∙ (λ i. rate_same c.args.late c.requires.late i *ℤ pos (c.saturating_sub-2.ensures i)) in
    times_sum_value c.rate_times.result c.rate_times-2.result c.rate_times.ensures.range c.rate_times-2.ensures.range ∙ (λ i. early i +ℤ late i)

pub returns-clause-range : goal.returns-clause-range
returns-clause-range c = times_sum_range c.rate_times.result c.rate_times-2.result c.rate_times.ensures.range c.rate_times-2.ensures.range
