use Rattle.optra_platform.proofs.FewRows.{few_rows}
use Rattle.optra_platform.proofs.laws.platform_rows_are_few.Goals as goal

pub returns : goal.returns
returns c = few_rows c.args.net.now c.station_count-proper.ensures.proper
