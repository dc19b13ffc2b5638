use Rattle.std.proofs.Common.{◌≡◌, ◌+◌, map, take}
use Rattle.optra_walk.specs.Families.{load_of, total_of}
use Rattle.optra_checker.specs.Fits.{AreWithin}
use Rattle.optra_checker.proofs.fitting.legs_fit.Given as goal

abbrev pub invariant-legs : goal.invariant-legs
invariant-legs g l = record {
  added : (q : g.row.F-Row.Denot) → total_of g.F.Row.Ord.cmp l.totals.sums q ≡ total_of g.F.Row.Ord.cmp l.fn.totals.sums q + load_of (g.F.RowFamily.rows_of l.rows l.net) q (map (λ leg. (l.kind, leg)) (take l.leg-index l.legs));
  within : AreWithin (g.F.RowFamily.rows_of l.rows l.net) (total_of g.F.Row.Ord.cmp l.totals.sums);
}
