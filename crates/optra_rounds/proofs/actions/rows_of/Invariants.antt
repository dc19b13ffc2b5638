-- The rows so far.
use Rattle.std.proofs.Common.{◌≡◌, map, take}
use Rattle.optra_rounds.proofs.actions.rows_of.Given as goal

abbrev pub invariant-actions : goal.invariant-actions
invariant-actions l = l.rows.items ≡ map (λ a. a.row) (take l.action-index l.actions)
