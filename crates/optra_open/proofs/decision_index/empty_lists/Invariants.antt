use Rattle.std.proofs.Common.{◌≡◌, map, replicate, []}
use Rattle.optra_open.proofs.decision_index.empty_lists.Given as goal

abbrev pub invariant-lists : goal.invariant-lists
invariant-lists l = map (λ v. v.items) l.lists.items ≡ replicate l.counter []
