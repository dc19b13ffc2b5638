-- The builder refuses exactly where a headway is missing.
use Rattle.optra_tables.proofs.CompleteLemmas.{finish_first_gives}
use Rattle.optra_tables.proofs.networks.finish_first.Goals as goal

pub returns : goal.returns
returns c = finish_first_gives c.args.net c.finish.result c.net_answer.result c.requires c.finish.ensures.same c.finish.ensures.complete c.finish.ensures.err c.net_answer.ensures
