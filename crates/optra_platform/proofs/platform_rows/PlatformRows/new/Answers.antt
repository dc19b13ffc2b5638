use Rattle.optra_platform.specs.PlatformLemmas.{halts_by_rows}
use Rattle.optra_platform.proofs.platform_rows.PlatformRows.new.Goals as goal

pub returns : goal.returns
returns c = λ net entries. halts_by_rows net entries
