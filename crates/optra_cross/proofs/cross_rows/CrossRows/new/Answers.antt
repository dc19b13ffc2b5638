use Rattle.optra_cross.specs.CrossLemmas.{both_rules}
use Rattle.optra_cross.proofs.cross_rows.CrossRows.new.Goals as goal

pub returns : goal.returns
returns c = λ net entries proper all. both_rules net entries proper all
