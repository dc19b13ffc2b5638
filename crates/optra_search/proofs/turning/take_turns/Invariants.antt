-- The turns so far have led here, each of them counted a node, and the tables of arcs are kept.
use Rattle.std.proofs.Common.{◌≡◌}
use Rattle.optra_prices.specs.Keepings.{AreKept}
use Rattle.optra_search.specs.Searches.{IsReached}
use Rattle.optra_search.specs.Reached.{parts_of}
use Rattle.optra_search.proofs.turning.take_turns.Given as goal

abbrev pub invariant-turns : goal.invariant-turns
invariant-turns g l = record {
  reached : IsReached g.F.Row.Ord.cmp l.inst.net.now (g.F.RowFamily.rows_of l.rows l.inst.net.now) l.inst.bids.now l.means.limits.steps l.means.limits.budget (parts_of l.search);
  kept : AreKept g.F.Row.Ord.cmp l.inst.net.now (g.F.RowFamily.rows_of l.rows l.inst.net.now) (g.F.RowFamily.rows_used l.rows l.inst.net.now) l.inst.bids.now l.kept;
  count : l.search.count ≡ l._taken;
}
