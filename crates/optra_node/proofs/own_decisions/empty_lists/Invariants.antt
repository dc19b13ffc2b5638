use Rattle.std.proofs.Common.{◌≡◌, map, replicate, []}
use Rattle.optra_node.proofs.own_decisions.empty_lists.Given as goal

abbrev pub invariant-lists : goal.invariant-lists
invariant-lists g l = map (λ v. v.items) l.lists.items ≡ replicate l.counter []
