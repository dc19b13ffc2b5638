-- The totals are small, and with one leg more they are within the capacities exactly where it had room.
use Rattle.std.proofs.Common.{◌+◌, ◌<◌, ◌^◌, arith}
use Rattle.optra_walk.specs.Families.{total_of}
use Rattle.optra_checker.proofs.FitLemmas.{room_within, uses_small, within_small}
use Rattle.optra_checker.proofs.fitting.leg_fits.Goals as goal

pub add_and_test-requires-clause-usable : goal.add_and_test-requires-clause-usable
add_and_test-requires-clause-usable g c = c.requires.usable

pub add_and_test-requires-clause-below : goal.add_and_test-requires-clause-below
add_and_test-requires-clause-below g c row =
    let f = c.args.rows.now in
    let net = c.args.net.now in
    let rows = g.F.RowFamily.rows_of f net in
    let lists = g.met.F.RowFamily.lists_rows f net c.args.kind c.args.leg c.requires.usable in
    let total = within_small rows (λ q is. g.met.F.RowFamily.capacity_fits f net q c.laws.ensures is) (total_of g.F.Row.Ord.cmp c.args.totals.now.sums) c.requires.within row in
    let uses = uses_small g.F.Row.Ord.cmp rows.is_row (rows.uses c.args.kind c.args.leg) (g.F.RowFamily.rows_used f net c.args.kind c.args.leg) lists row in
    omega (arith, total, uses)

pub returns-clause-within : goal.returns-clause-within
returns-clause-within g c =
    let f = c.args.rows.now in
    let net = c.args.net.now in
    let rows = g.F.RowFamily.rows_of f net in
    let lists = g.met.F.RowFamily.lists_rows f net c.args.kind c.args.leg c.requires.usable in
    let h = c.in_ok-fits.ensures.fitted in
    let w = room_within rows c.args.kind c.args.leg (total_of g.F.Row.Ord.cmp c.args.totals.now.sums) (total_of g.F.Row.Ord.cmp c.add_and_test.new.self.sums) lists.are_rows c.requires.within c.in_ok-fits.ensures.added in
    ((λ t. w.0 (h.0 t)), (λ a. h.1 (w.1 a)))
