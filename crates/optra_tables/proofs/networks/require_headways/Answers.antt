-- Whether a headway is missing is what the whole table of headways is refused for.
use Rattle.optra_tables.proofs.CompleteLemmas.{require_fails, require_gives}
use Rattle.optra_tables.proofs.networks.require_headways.Goals as goal

pub returns-then-headways_whole-clause-gives : goal.returns-then-headways_whole-clause-gives
returns-then-headways_whole-clause-gives c = require_gives c.args.net.now c.headways_whole.result c.headways_whole.ensures c.if-headways_whole.true

pub returns-else-headways_whole-clause-gives : goal.returns-else-headways_whole-clause-gives
returns-else-headways_whole-clause-gives c = rw c.fails.ensures (require_fails c.args.net.now c.headways_whole.result c.headways_whole.ensures c.if-headways_whole.false)
