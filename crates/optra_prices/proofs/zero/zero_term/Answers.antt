-- What is known of the bid at zero prices has its term.
use Rattle.std.proofs.Common.{◌<◌, [], length, refl, sym, subst, arith, rules}
use Rattle.std.specs.Prelude.{FitsSigned}
use Rattle.std.specs.Int.{w128}
use Rattle.std.proofs.lemmas.Int.{to_z-of_z}
use Rattle.std.proofs.lemmas.Option.{slice_get_read}
use Rattle.optra_node.specs.Duals.{IsTerm}
use Rattle.optra_prices.specs.Terms.{Setting, setting}
use Rattle.optra_prices.proofs.ListLemmas.{some_at}
use Rattle.optra_prices.proofs.ZeroLemmas.{zero_termed}
use Rattle.optra_prices.proofs.zero.zero_term.Goals as goal

pub returns : goal.returns
returns g c bid at =
    let net = c.args.inst.net.now in
    let f = c.args.rows.now in
    let s : Setting g.row.F-Row.Denot = setting net (g.F.RowFamily.rows_of f net) (g.F.RowFamily.rows_used f net) c.args.inst.bids.now c.args.node.now in
    let kept = c.args.kept.now in
    let n = c.args.number in
    let standing = c.index.result.now in
    let is = c.requires.kept.is in
    let count = is.tables.count_is in
    let m = is.zero.count_is in
    let l : n < length kept.tables.items = omega (arith, count, c.requires.number) in
    let k : n < length kept.zero.items = omega (arith, m, l) in
    let table = some_at kept.tables.items n l in
    let standing_at = slice_get_read kept.zero.items (length kept.zero.items) n standing refl k c.index.ensures in
    let fits : FitsSigned w128 standing.term = search rules in
    subst (IsTerm net s.rows s.bids s.node [] n bid) (sym (to_z-of_z w128 standing.term fits))
    (zero_termed g.F.Row.Ord.cmp s c.args.inst.proper c.tests_tell_allowed.ensures c.prices_by_used_rows.ensures kept.numbering.rows.items kept.columns.groups kept.tables.items kept.zero.items is.tables is.zero n table.0 standing table.1 standing_at bid at)
