use Rattle.std.proofs.Common.{◌≡◌, map, replicate, []}
use Rattle.optra_network.proofs.dense.empty_lists.Given as goal

abbrev pub invariant-lists : goal.invariant-lists
invariant-lists g l = map (λ v. v.items) l.lists.items ≡ replicate l.counter []
