-- One for each of the bids so far.
use Rattle.std.proofs.Common.{[]}
use Rattle.optra_checker.specs.BestOnWay.{AreBestOf}
use Rattle.optra_open.proofs.EachLemmas.{AreEach}
use Rattle.optra_checker.proofs.frees.find_frees.Given as goal

abbrev pub invariant-bids : goal.invariant-bids
invariant-bids g l =
    AreEach (AreBestOf l.inst.net.now (g.F.RowFamily.rows_of l.rows l.inst.net.now) (g.F.RowFamily.rows_used l.rows l.inst.net.now) l.inst.bids.now []) l.bid-index l.all.items
