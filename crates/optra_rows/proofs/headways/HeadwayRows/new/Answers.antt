use Rattle.optra_rows.specs.RuleLemmas.{choice_by_rows}
use Rattle.optra_rows.proofs.headways.HeadwayRows.new.Goals as goal

pub returns : goal.returns
returns c = λ net bids walks p all. choice_by_rows net bids walks p all
