use Rattle.std.proofs.Common.{◌≡◌, ◌+◌, drop}
use Rattle.optra_walk.specs.Families.{load_of, entries_of, total_of}
use Rattle.optra_checker.specs.Fits.{AreWithin}
use Rattle.optra_checker.proofs.fitting.rule_holds.Given as goal

abbrev pub invariant-bids : goal.invariant-bids
invariant-bids g l = record {
  rest : (q : g.row.F-Row.Denot) → load_of (g.F.RowFamily.rows_of l.rows l.net) q (entries_of l.bids l.entries) ≡ total_of g.F.Row.Ord.cmp l.totals.sums q + load_of (g.F.RowFamily.rows_of l.rows l.net) q (entries_of (drop l.i l.bids) (drop l.i l.entries));
  within : AreWithin (g.F.RowFamily.rows_of l.rows l.net) (total_of g.F.Row.Ord.cmp l.totals.sums);
}
