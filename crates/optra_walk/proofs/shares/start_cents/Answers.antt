use Rattle.std.proofs.Common.{rules, ◌∙◌, pos, ◌*ℤ◌}
use Rattle.optra_walk.proofs.ShareLemmas.{added_cents_same}
use Rattle.optra_walk.proofs.shares.start_cents.Goals as goal

pub returns-clause-value : goal.returns-clause-value
returns-clause-value c =
    let sum = added_cents_same c.start_sum.result c.start_sum.ensures.range ∙ c.start_sum.ensures.value in
    (λ i. pos 1000 *ℤ sum i) ∙ search rules
