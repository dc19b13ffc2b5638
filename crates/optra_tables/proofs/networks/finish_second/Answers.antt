-- The builder refuses exactly where a direction of a crossing is missing, or crossings reach too far.
use Rattle.optra_tables.proofs.CompleteLemmas.{finish_second_gives}
use Rattle.optra_tables.proofs.networks.finish_second.Goals as goal

pub returns : goal.returns
returns c =
    finish_second_gives c.args.net c.finish.result c.net_answer.result c.requires c.finish.ensures.same c.finish.ensures.both_ways c.finish.ensures.within_reach c.finish.ensures.err c.net_answer.ensures
