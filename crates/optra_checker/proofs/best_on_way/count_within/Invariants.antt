use Rattle.std.proofs.Common.{◌≡◌, take}
use Rattle.std.specs.Prelude.{All, ◌≤◌}
use Rattle.optra_checker.specs.declared.best_walk.BestWalk.{BestWalk}
use Rattle.optra_checker.proofs.best_on_way.count_within.Given as goal

abbrev pub invariant-kept : goal.invariant-kept
invariant-kept l = record {
  count : l.count ≡ l.best-index;
  within : All (λ (best : BestWalk). best.depth ≤ l.depth) (take l.best-index l.kept);
}
