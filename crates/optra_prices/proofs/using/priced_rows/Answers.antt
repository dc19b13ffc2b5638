use Rattle.std.proofs.Common.{◌≡◌, ◌≤◌, length, Some, slice_get, refl, subst, rules, arith}
use Rattle.std.specs.Prelude.{FitsSigned}
use Rattle.std.specs.Int.{w64}
use Rattle.std.proofs.lemmas.Int.{to_z-of_z}
use Rattle.std.specs.Ordering.{eq_by_cmp}
use Rattle.std.proofs.lemmas.List.{take_all}
use Rattle.std.proofs.lemmas.Option.{slice_get_read}
use Rattle.optra_node.specs.Duals.{IsPrice, price_of}
use Rattle.optra_prices.specs.Holdings.{Holds}
use Rattle.optra_prices.proofs.ListLemmas.{all_at}
use Rattle.optra_prices.proofs.HoldLemmas.{holds_price}
use Rattle.optra_prices.proofs.using.priced_rows.Goals as goal

pub loop-entry-preserved : goal.loop-entry-preserved
loop-entry-preserved g c =
    let rows = g.F.RowFamily.rows_of c.args.rows.now c.args.net.now in
    let entries = c.args.entries.now in
    let i = c.loop-entry.entry-index in
    let e = c.entry-item.result in
    let at : slice_get entries i ≡ Some e = slice_get_read entries (length entries) i e refl c.loop-entry-test.true c.entry-item.is in
    let fits : FitsSigned w64 c.entry-item.result.1 = search rules in
    let priced = all_at (IsPrice rows) entries i e c.requires.each at in
    holds_price g.F.Row.Ord.cmp g.met.F.Row.Ord.total g.met.F.Row.CodedRow.tells_apart rows.is_row entries i e c.loop-entry.held c.insert.new.self _ c.requires.ascending at priced.is_row (to_z-of_z w64 e.1 fits) refl c.in_ok-insert.ensures.updates.0 c.loop-entry.invariant

pub returns : goal.returns
returns g c =
    let rows = g.F.RowFamily.rows_of c.args.rows.now c.args.net.now in
    let entries = c.args.entries.now in
    let past : length entries ≤ c.loop-entry.entry-index = omega arith in
    subst (λ xs. Holds g.F.Row.Ord.cmp rows.is_row (price_of (eq_by_cmp g.F.Row.Ord.cmp) xs) (λ row. 0) c.loop-entry.held) (take_all c.loop-entry.entry-index entries past) c.loop-entry.invariant
