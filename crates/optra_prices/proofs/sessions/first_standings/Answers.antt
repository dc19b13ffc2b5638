use Rattle.std.proofs.Common.{◌≡◌, ◌+◌, ◌<◌, length, Some, slice_get, refl, sym, subst, arith}
use Rattle.std.proofs.lemmas.Option.{slice_get_read}
use Rattle.optra_prices.proofs.StandLemmas.{StandBelow, stand_push}
use Rattle.optra_prices.proofs.sessions.first_standings.Goals as goal

pub loop-number-preserved : goal.loop-number-preserved
loop-number-preserved c =
    let tables = c.args.tables.now in
    let n = c.loop-number.number in
    let l : n < length tables = omega arith in
    let table = c.index-tables-number.result in
    let at : slice_get tables n ≡ Some table = slice_get_read tables (length tables) n table refl l c.index-tables-number.is in
    subst (StandBelow tables c.args.grouped.prices.now (n + 1)) (sym c.in_ok-push.ensures.items) (stand_push tables c.args.grouped.prices.now n c.loop-number.standings.items table c.in_ok-standing.standing c.loop-number.invariant at c.in_ok-standing.ensures)
