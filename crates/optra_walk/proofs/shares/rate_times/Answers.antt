use Rattle.optra_walk.proofs.ShareLemmas.{rate_times_fit, rate_times_value, rate_times_range}
use Rattle.optra_walk.proofs.shares.rate_times.Goals as goal

pub overflow_mul-result : goal.overflow_mul-result
overflow_mul-result c = rate_times_fit c.args.rate c.from.result c.args.minutes c.requires.rate c.requires.minutes c.from.ensures

pub returns-clause-value : goal.returns-clause-value
returns-clause-value c = rate_times_value c.args.rate c.from.result c.args.minutes c.requires.rate c.requires.minutes c.from.ensures

pub returns-clause-range : goal.returns-clause-range
returns-clause-range c = rate_times_range c.args.rate c.from.result c.args.minutes c.requires.rate c.requires.minutes c.from.ensures
