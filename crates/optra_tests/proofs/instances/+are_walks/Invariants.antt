-- Each call has a bid less.
use Rattle.std.proofs.Common.{length}
use Rattle.optra_tests.proofs.instances.+are_walks.Given as goal

abbrev pub decreases-are_walks : goal.decreases-are_walks
decreases-are_walks l = length l.bids.now
