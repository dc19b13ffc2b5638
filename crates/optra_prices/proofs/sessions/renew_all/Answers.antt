use Rattle.std.proofs.Common.{◌≡◌, ◌≤◌, ◌<◌, false, length, get_or, Some, slice_get, refl, arith}
use Rattle.std.proofs.lemmas.Option.{slice_get_read, slice_get-get_or}
use Rattle.optra_prices.proofs.ListLemmas.{some_at}
use Rattle.optra_prices.proofs.StandLemmas.{mixed_first, mixed_more, mixed_all}
use Rattle.optra_prices.proofs.sessions.renew_all.Goals as goal

pub loop-number-init : goal.loop-number-init
loop-number-init c =
    let b = c.requires.brought in
    (b.0, b.1, mixed_first b.0 c.args.tables.now c.args.grouped.prices.now c.args.grouped.prices.now c.args.standings.now.items b.1.count_is b.2)

pub loop-number-preserved : goal.loop-number-preserved
loop-number-preserved c =
    let tables = c.args.tables.now in
    let grouped = c.args.grouped.prices.now in
    let standings = c.loop-number.standings.items in
    let n = c.loop-number.number in
    let l : n < length tables = omega arith in
    let inv = c.loop-number.invariant in
    let same = inv.1.count_is in
    let marked = inv.1.changed_count in
    let before = some_at inv.0 n (omega arith) in
    let table = c.index-tables-number.result in
    let at : slice_get tables n ≡ Some table = slice_get_read tables (length tables) n table refl l c.index-tables-number.is in
    let m : n < length standings = let count = inv.2.count_is in omega arith in
    let standing_at : slice_get standings n ≡ Some c.index_mut.result.now = slice_get_read standings (length standings) n c.index_mut.result.now refl m c.index_mut.ensures.value in
    let stood = inv.2.left n before.0 c.index_mut.result.now (omega arith) before.1 standing_at in
    let changed = c.args.changed.now in
    let told : slice_get changed n ≡ Some (get_or changed n false) = slice_get-get_or changed n false (omega arith) in
    let is = inv.1.each n (get_or changed n false) before.0 table told before.1 at in
    let stands = c.in_ok-renew_where.ensures before.0 is stood in
    (inv.0, inv.1, mixed_more inv.0 tables grouped grouped n standings table c.renew_where.new.standing inv.2 at stands)

pub returns : goal.returns
returns c =
    let l : length c.args.tables.now ≤ c.loop-number.number = omega arith in
    let inv = c.loop-number.invariant in
    mixed_all inv.0 c.args.tables.now c.args.grouped.prices.now c.args.grouped.prices.now c.loop-number.number c.loop-number.standings.items inv.2 l
