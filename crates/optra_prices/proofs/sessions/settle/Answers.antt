use Rattle.std.proofs.Common.{◌≡◌, ◌≤◌, ◌<◌, length, Some, slice_get, refl, arith}
use Rattle.std.proofs.lemmas.Option.{slice_get_read}
use Rattle.optra_prices.proofs.StandLemmas.{mixed_first, mixed_more, mixed_all}
use Rattle.optra_prices.proofs.sessions.settle.Goals as goal

pub loop-number-init : goal.loop-number-init
loop-number-init c =
    let before = c.requires.before in
    let tables = c.args.tables.now in
    (before.0, mixed_first tables tables before.0 c.args.grouped.prices.now c.args.standings.now.items refl before.1, before.2)

pub update-requires-clause-before : goal.update-requires-clause-before
update-requires-clause-before c =
    let tables = c.args.tables.now in
    let standings = c.loop-number.standings.items in
    let n = c.loop-number.number in
    let l : n < length tables = omega arith in
    let table = c.index-tables-number.result in
    let at : slice_get tables n ≡ Some table = slice_get_read tables (length tables) n table refl l c.index-tables-number.is in
    let m : n < length standings = let count = c.loop-number.invariant.1.count_is in omega arith in
    let standing_at : slice_get standings n ≡ Some c.index_mut.result.now = slice_get_read standings (length standings) n c.index_mut.result.now refl m c.index_mut.ensures.value in
    (c.loop-number.invariant.0, c.loop-number.invariant.1.left n table c.index_mut.result.now (omega arith) at standing_at, c.loop-number.invariant.2)

pub loop-number-preserved : goal.loop-number-preserved
loop-number-preserved c =
    let tables = c.args.tables.now in
    let n = c.loop-number.number in
    let l : n < length tables = omega arith in
    let table = c.index-tables-number.result in
    let at : slice_get tables n ≡ Some table = slice_get_read tables (length tables) n table refl l c.index-tables-number.is in
    (c.loop-number.invariant.0, mixed_more tables tables c.loop-number.invariant.0 c.args.grouped.prices.now n c.loop-number.standings.items table c.update.new.standing c.loop-number.invariant.1 at c.in_ok-update.ensures, c.loop-number.invariant.2)

pub returns : goal.returns
returns c =
    let l : length c.args.tables.now ≤ c.loop-number.number = omega arith in
    mixed_all c.args.tables.now c.args.tables.now c.loop-number.invariant.0 c.args.grouped.prices.now c.loop-number.number c.loop-number.standings.items c.loop-number.invariant.1 l
