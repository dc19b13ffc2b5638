use Rattle.std.proofs.Common.{◌≡◌, ◌<◌, ◌≤◌, false, length, Some, slice_get, refl, sym, ap, ◌∙◌, arith}
use Rattle.std.proofs.lemmas.Option.{slice_get_read}
use Rattle.optra_prices.proofs.ListLemmas.{some_at}
use Rattle.optra_prices.proofs.AllowLemmas.{tables_first, tables_more, tables_all, tables_skip, brought_none, brought_more, brought_skip, brought_all}
use Rattle.optra_prices.proofs.allowing.allow_told.Goals as goal

pub loop-number-init : goal.loop-number-init
loop-number-init g c =
    let net = c.args.inst.net.now in
    let f = c.args.rows.now in
    let grouping = c.args.grouping.now in
    let tables = c.args.tables.now.items in
    record {
      decided = c.requires.decided;
      tables = tables_first net (g.F.RowFamily.rows_of f net) (g.F.RowFamily.rows_used f net) c.args.inst.bids.now c.args.own.now.node grouping.numbering.now.rows.items grouping.groups.now tables c.requires.tables;
      brought = brought_none c.args.told.now.items tables;
    }

pub loop-number-preserved-then-not-index : goal.loop-number-preserved-then-not-index
loop-number-preserved-then-not-index g c =
    let net = c.args.inst.net.now in
    let f = c.args.rows.now in
    let grouping = c.args.grouping.now in
    let bids = c.args.inst.bids.now in
    let n = c.loop-number.number in
    let told = c.loop-number.told.items in
    let inv = c.loop-number.invariant in
    let brought = inv.brought in
    let counts = brought.changed_count in
    let size = c.requires.told in
    let all = c.requires.tables.count_is in
    let l : n < length bids = omega arith in
    let within : n < length told = omega (arith, l, counts, size, all) in
    let here : slice_get told n ≡ Some c.index.result.now = slice_get_read told (length told) n c.index.result.now refl within c.index.ensures in
    let untold : slice_get c.args.told.now.items n ≡ Some false = sym (brought.told_left n (omega arith)) ∙ here ∙ ap Some c.if-not-index.true in
    record {
      decided = inv.decided;
      tables = tables_skip net (g.F.RowFamily.rows_of f net) (g.F.RowFamily.rows_used f net) bids c.args.own.now.node grouping.numbering.now.rows.items grouping.groups.now n c.loop-number.tables.items inv.tables
          (λ bid table bid_at table_at. c.requires.others n bid table untold bid_at (sym (brought.left n (omega arith)) ∙ table_at));
      brought = brought_skip n c.args.told.now.items told c.args.tables.now.items c.loop-number.tables.items (here ∙ ap Some c.if-not-index.true) brought;
    }

pub allow_bid-requires-clause-table : goal.allow_bid-requires-clause-table
allow_bid-requires-clause-table g c =
    let bids = c.args.inst.bids.now in
    let tables = c.loop-number.tables.items in
    let n = c.loop-number.number in
    let mixed = c.loop-number.invariant.tables in
    let l : n < length bids = omega arith in
    let bid = some_at bids n l in
    let table = c.index_mut.result.now in
    let count = mixed.count_is in
    let within : n < length tables = omega (arith, l, count) in
    let at : slice_get tables n ≡ Some table = slice_get_read tables (length tables) n table refl within c.index_mut.ensures.value in
    (bid.0, bid.1, mixed.left n bid.0 table (omega arith) bid.1 at)

pub loop-number-preserved : goal.loop-number-preserved
loop-number-preserved g c =
    let net = c.args.inst.net.now in
    let f = c.args.rows.now in
    let grouping = c.args.grouping.now in
    let bids = c.args.inst.bids.now in
    let tables = c.loop-number.tables.items in
    let n = c.loop-number.number in
    let inv = c.loop-number.invariant in
    let mixed = inv.tables in
    let l : n < length bids = omega arith in
    let bid = some_at bids n l in
    let table = c.index_mut.result.now in
    let count = mixed.count_is in
    let within : n < length tables = omega (arith, l, count) in
    let at : slice_get tables n ≡ Some table = slice_get_read tables (length tables) n table refl within c.index_mut.ensures.value in
    let counts = inv.brought.changed_count in
    let size = c.requires.told in
    let all = c.requires.tables.count_is in
    let told_within : n < length c.loop-number.told.items = omega (arith, l, counts, size, all) in
    let one = c.in_ok-told.ensures in
    record {
      decided = one.decided;
      tables = tables_more net (g.F.RowFamily.rows_of f net) (g.F.RowFamily.rows_used f net) bids c.args.own.now.node grouping.numbering.now.rows.items grouping.groups.now n tables bid.0 table c.allow_bid.new.table mixed bid.1 at one.anew;
      brought = brought_more n c.args.told.now.items c.loop-number.told.items c.args.tables.now.items tables c.in_ok-told.field-0 table c.allow_bid.new.table inv.brought at told_within one.brought;
    }

pub returns-clause-tables : goal.returns-clause-tables
returns-clause-tables g c =
    let net = c.args.inst.net.now in
    let f = c.args.rows.now in
    let grouping = c.args.grouping.now in
    let bids = c.args.inst.bids.now in
    let all : length bids ≤ c.loop-number.number = omega arith in
    tables_all net (g.F.RowFamily.rows_of f net) (g.F.RowFamily.rows_used f net) bids c.args.own.now.node grouping.numbering.now.rows.items grouping.groups.now c.loop-number.number c.loop-number.tables.items c.loop-number.invariant.tables all

pub returns-clause-brought : goal.returns-clause-brought
returns-clause-brought g c =
    let all : length c.args.inst.bids.now ≤ c.loop-number.number = omega arith in
    let count = c.requires.tables.count_is in
    let whole : length c.args.tables.now.items ≤ c.loop-number.number = omega (arith, all, count) in
    brought_all c.loop-number.number c.args.told.now.items c.loop-number.told.items c.args.tables.now.items c.loop-number.tables.items c.loop-number.invariant.brought whole c.requires.told
