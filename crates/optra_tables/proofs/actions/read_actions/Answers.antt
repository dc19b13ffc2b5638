-- The actions that are read keep what all actions keep.
use Rattle.optra_tables.specs.Actions.{actions_of}
use Rattle.optra_tables.proofs.ActionLemmas.{actions_kept}
use Rattle.optra_tables.proofs.actions.read_actions.Goals as goal

pub returns-clause-actions : goal.returns-clause-actions
unfolding actions_of
returns-clause-actions c = rw c.into_actions.ensures (actions_kept c.args.bytes.now c.read_table.new.actions (rw c.new-actions.ensures at c.in_ok-read_table.ensures))
