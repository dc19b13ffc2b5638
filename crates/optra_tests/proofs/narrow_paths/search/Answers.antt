-- A mark below 16 less 8.
use Rattle.std.proofs.Common.{◌<◌, ◌%◌, arith, get_or}
use Rattle.std.proofs.Math.Nat.{mod-lt}
use Rattle.std.proofs.lemmas.Int.{ints}
use Rattle.optra_tests.proofs.narrow_paths.search.Goals as goal

pub narrow_best_in-requires-clause-weights : goal.narrow_best_in-requires-clause-weights
narrow_best_in-requires-clause-weights c k l on =
    let small : get_or c.args.marks.now.marks k 0 % 16 < 16 = mod-lt (get_or c.args.marks.now.marks k 0) (omega arith) in
    record { low = omega (arith, ints, small); high = omega (arith, ints, small) }
