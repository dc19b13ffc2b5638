use Rattle.std.proofs.Common.{sym, ◌∙◌}
use Rattle.optra_rows.specs.TouchedLemmas.{row_rule, row_arithmetic}
use Rattle.optra_rows.proofs.headways.HeadwayRowsRowFamily.is_row.Goals as goal

pub returns-clause-rule : goal.returns-clause-rule
returns-clause-rule c = (
  (λ h. row_rule c.args.net.now c.laws.ensures c.args.row (sym c.is_row.ensures ∙ h)),
  (λ h. c.is_row.ensures ∙ row_arithmetic c.args.net.now c.laws.ensures c.args.row h),
)
