-- What waits may become leaves, what waited has become leaves, and the tables of arcs are kept.
use Rattle.std.proofs.Common.{length}
use Rattle.optra_prices.specs.Keepings.{AreKept}
use Rattle.optra_search.specs.Reached.{parts_of}
use Rattle.optra_search.specs.Closings.{MayClose, HasClosed}
use Rattle.optra_search.proofs.closing.close_all.Given as goal

abbrev pub invariant-waiting : goal.invariant-waiting
invariant-waiting g l = record {
  closing : MayClose g.F.Row.Ord.cmp l.inst.net.now (g.F.RowFamily.rows_of l.rows l.inst.net.now) l.inst.bids.now (parts_of l.search);
  closed : HasClosed (parts_of l.initial.search) (parts_of l.search);
  kept : AreKept g.F.Row.Ord.cmp l.inst.net.now (g.F.RowFamily.rows_of l.rows l.inst.net.now) (g.F.RowFamily.rows_used l.rows l.inst.net.now) l.inst.bids.now l.kept;
}

abbrev pub decreases-waiting : goal.decreases-waiting
decreases-waiting g l = length l.search.waiting.items
