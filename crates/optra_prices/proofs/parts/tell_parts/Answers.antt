-- The table is that of the bid at the node.
use Rattle.std.proofs.Common.{◌≡◌, ◌<◌, length, Some, slice_get, refl, sym, ap, ◌∙◌, subst, arith}
use Rattle.std.proofs.lemmas.Option.{same_Some, slice_get_read}
use Rattle.std.proofs.lemmas.Result.{on_ok_weaker}
use Rattle.optra_network.specs.declared.TypeId.{TypeId}
use Rattle.optra_walk.specs.declared.Leg.{Leg}
use Rattle.optra_walk.specs.Families.{IsUsable}
use Rattle.optra_graph.specs.Timed.{Timed}
use Rattle.optra_prices.specs.Parts.{AreParts}
use Rattle.optra_prices.specs.declared.numbering.BidTable.{BidTable}
use Rattle.optra_prices.proofs.ListLemmas.{some_at}
use Rattle.optra_prices.proofs.PartLemmas.{parts_are}
use Rattle.optra_prices.proofs.parts.tell_parts.Goals as goal

pub index-requires : goal.index-requires
index-requires g c = let count = c.requires.kept.is.tables.count_is in let l = c.requires.number in omega arith

pub tell_table-requires-clause-groups : goal.tell_table-requires-clause-groups
tell_table-requires-clause-groups g c = c.requires.kept.is.columns.are

pub tell_table-requires-clause-within : goal.tell_table-requires-clause-within
tell_table-requires-clause-within g c =
    let tables = c.args.kept.now.tables.items in
    let number = c.args.number in
    let count = c.requires.kept.is.tables.count_is in
    let bid = some_at c.args.inst.bids.now number c.requires.number in
    let l : number < length tables = omega (arith, count, c.requires.number) in
    let at : slice_get tables number ≡ Some c.index.result.now = slice_get_read tables (length tables) number c.index.result.now refl l c.index.ensures in
    (c.requires.kept.is.tables.each number bid.0 c.index.result.now bid.1 at).arcs_are.terms.within

pub returns : goal.returns
returns g c =
    let net = c.args.inst.net.now in
    let f = c.args.rows.now in
    let rows = g.F.RowFamily.rows_of f net in
    let used = g.F.RowFamily.rows_used f net in
    let proper = c.args.inst.proper in
    let bids = c.args.inst.bids.now in
    let numbered = c.args.kept.now.numbering.rows.items in
    let groups = c.args.kept.now.columns.groups in
    let tables = c.args.kept.now.tables.items in
    let number = c.args.number in
    let table = c.index.result.now in
    let count = c.requires.kept.is.tables.count_is in
    let l : number < length tables = omega (arith, count, c.requires.number) in
    let at : slice_get tables number ≡ Some table = slice_get_read tables (length tables) number table refl l c.index.ensures in
    let lists = λ (kind : TypeId) (leg : Leg) (usable : IsUsable net kind leg). g.met.F.RowFamily.lists_rows f net kind leg usable in
    let parts = c.tell_table.new.parts.items in
    on_ok_weaker c.tell_table.result
    (λ told bid t total here there is_room.
    let same : table ≡ there.0 = same_Some table there.0 (sym at ∙ there.1) in
    let graph : table.graph.now ≡ t = ap (λ (x : BidTable). x.graph.now) same ∙ there.2 in
    subst (λ (x : Timed). AreParts net rows bids c.args.node.now total number bid x (length x.dag.arcs) parts) graph
    (parts_are g.F.Row.Ord.cmp net proper rows used lists bids c.args.node.now number bid table.graph.now numbered table.arcs groups.starts.items groups.touches table.forced
    (c.requires.kept.is.tables.each number bid table here at).arcs_are total c.args.room.now is_room parts told))
    c.tell_table.ensures
