-- The table is that of the bid.
use Rattle.std.proofs.Common.{◌≡◌, ◌<◌, length, Some, slice_get, refl, arith}
use Rattle.std.proofs.lemmas.Option.{slice_get_read}
use Rattle.optra_prices.proofs.parts.graph_of.Goals as goal

pub returns-clause-table : goal.returns-clause-table
returns-clause-table g c =
    let tables = c.args.kept.now.tables.items in
    let count = c.requires.kept.1.is.tables.count_is in
    let l : c.args.number < length tables = omega (arith, count, c.requires.number) in
    (c.index.result.now, slice_get_read tables (length tables) c.args.number c.index.result.now refl l c.index.ensures, refl)

pub returns-clause-graph : goal.returns-clause-graph
returns-clause-graph g c bid here =
    let tables = c.args.kept.now.tables.items in
    let count = c.requires.kept.1.is.tables.count_is in
    let l : c.args.number < length tables = omega (arith, count, c.requires.number) in
    let at : slice_get tables c.args.number ≡ Some c.index.result.now = slice_get_read tables (length tables) c.args.number c.index.result.now refl l c.index.ensures in
    (c.requires.kept.1.is.tables.each c.args.number bid c.index.result.now here at).arcs_are.graph
