-- What is still to come of the actions that are left.
use Rattle.std.proofs.Common.{◌≡◌, ◌++◌, All}
use Rattle.std.specs.Vec.Iter.{into_iter_items}
use Rattle.optra_auction.specs.Machine.{HasAmount}
use Rattle.optra_rounds.specs.Rounds.{acts_after, acts_of, asked_of, rows_of}
use Rattle.optra_rounds.proofs.actions.round_actions.Given as goal

abbrev pub invariant-actions : goal.invariant-actions
invariant-actions l = record {
  rows : l.parts.rows.items ++ rows_of (acts_of l.round (into_iter_items l.action-iterator)) ≡ rows_of (acts_of l.round l.fn.actions.items);
  acts : l.parts.acts.items ++ asked_of (acts_of l.round (into_iter_items l.action-iterator)) ≡ asked_of (acts_of l.round l.fn.actions.items);
  later : l.parts.later.items ++ rows_of (acts_after l.round (into_iter_items l.action-iterator)) ≡ rows_of (acts_after l.round l.fn.actions.items);
}
