-- There is room for each arc of the path exactly where there is for each leg of its walk.
use Rattle.std.proofs.Common.{◌≡◌, ◌<◌, length, Some, slice_get, refl, sym, ap, ◌∙◌, subst, arith}
use Rattle.std.specs.Prelude.{◌↔◌, All, IsTrue}
use Rattle.std.proofs.lemmas.Option.{same_Some, slice_get_read}
use Rattle.optra_network.specs.declared.TypeId.{TypeId}
use Rattle.optra_walk.specs.declared.Leg.{Leg}
use Rattle.optra_walk.specs.Families.{IsUsable}
use Rattle.optra_graph.specs.Timed.{Timed, walk_of}
use Rattle.optra_prices.specs.Parts.{HasRoom}
use Rattle.optra_prices.specs.Terms.{Setting, setting}
use Rattle.optra_prices.specs.declared.numbering.BidTable.{BidTable}
use Rattle.optra_prices.proofs.ListLemmas.{some_at}
use Rattle.optra_prices.proofs.PutLemmas.{route_within, each_tells}
use Rattle.optra_prices.proofs.parts.has_room_for_path.Goals as goal

pub index-requires : goal.index-requires
index-requires g c = let count = c.requires.kept.1.is.tables.count_is in let l = c.requires.number in omega arith

pub has_room_for_each-requires : goal.has_room_for_each-requires
has_room_for_each-requires g c =
    let tables = c.args.kept.now.tables.items in
    let number = c.args.number in
    let is = c.requires.kept.1.is in
    let count = is.tables.count_is in
    let bid = some_at c.args.inst.bids.now number c.requires.number in
    let l : number < length tables = omega (arith, count, c.requires.number) in
    let at : slice_get tables number ≡ Some c.index.result.now = slice_get_read tables (length tables) number c.index.result.now refl l c.index.ensures in
    let arcs = (is.tables.each number bid.0 c.index.result.now bid.1 at).arcs_are in
    record { are = arcs.groups; within = arcs.terms.within }

pub returns : goal.returns
returns g c bid t total bid_at graph room =
    let net = c.args.inst.net.now in
    let f = c.args.rows.now in
    let kept = c.args.kept.now in
    let s : Setting g.row.F-Row.Denot = setting net (g.F.RowFamily.rows_of f net) (g.F.RowFamily.rows_used f net) c.args.inst.bids.now c.requires.kept.0 in
    let proper = c.args.inst.proper in
    let lists = λ (kind : TypeId) (leg : Leg) (usable : IsUsable net kind leg). g.met.F.RowFamily.lists_rows f net kind leg usable in
    let tables = kept.tables.items in
    let number = c.args.number in
    let path = c.args.path.now in
    let table = c.index.result.now in
    let is = c.requires.kept.1.is in
    let count = is.tables.count_is in
    let l : number < length tables = omega (arith, count, c.requires.number) in
    let at : slice_get tables number ≡ Some table = slice_get_read tables (length tables) number table refl l c.index.ensures in
    let arcs = (is.tables.each number bid table bid_at at).arcs_are in
    let route = c.requires.route table.graph.now (table, at, refl) in
    let within = route_within table arcs.count path route in
    let tells = each_tells g.F.Row.Ord.cmp g.met.F.Row.Ord.total g.met.F.Row.CodedRow.tells_apart s proper lists kept.numbering.order.items kept.numbering.rows.items is.numbering kept.columns.groups number bid table arcs path within route total c.args.room.now room in
    let same : table.graph.now ≡ t = ap (λ (x : BidTable). x.graph.now) (same_Some table graph.0 (sym at ∙ graph.1)) ∙ graph.2 in
    let r = c.has_room_for_each.result in
    subst (λ (t : Timed). IsTrue r ↔ All (HasRoom s.rows total bid.path.kind) (walk_of t path)) same ((λ is_so. tells.0 (c.has_room_for_each.ensures.0 is_so)), (λ all. c.has_room_for_each.ensures.1 (tells.1 all)))
