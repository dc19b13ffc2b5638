-- The path was put where its legs have room together, and else taken away again.
use Rattle.std.proofs.Common.{◌≡◌, ◌<◌, true, false, length, Some, slice_get, refl, sym, ap, ◌∙◌, subst, arith}
use Rattle.std.proofs.lemmas.Option.{same_Some, slice_get_read}
use Rattle.optra_network.specs.declared.TypeId.{TypeId}
use Rattle.optra_walk.specs.declared.Leg.{Leg}
use Rattle.optra_walk.specs.Families.{IsUsable}
use Rattle.optra_graph.specs.Timed.{Timed, walk_of}
use Rattle.optra_prices.specs.Parts.{IsPutIn}
use Rattle.optra_prices.specs.Terms.{Setting, setting}
use Rattle.optra_prices.specs.declared.numbering.BidTable.{BidTable}
use Rattle.optra_prices.proofs.ListLemmas.{some_at}
use Rattle.optra_prices.proofs.PutLemmas.{route_within, adds_path, takes_path, path_fits, path_told}
use Rattle.optra_prices.proofs.parts.put_path.Goals as goal

pub index-table-requires : goal.index-table-requires
index-table-requires g c = let count = c.requires.kept.1.is.tables.count_is in let l = c.requires.number in omega arith

pub add_arcs-requires : goal.add_arcs-requires
add_arcs-requires g c =
    let tables = c.args.kept.now.tables.items in
    let number = c.args.number in
    let is = c.requires.kept.1.is in
    let count = is.tables.count_is in
    let bid = some_at c.args.inst.bids.now number c.requires.number in
    let l : number < length tables = omega (arith, count, c.requires.number) in
    let at : slice_get tables number ≡ Some c.index-table.result.now = slice_get_read tables (length tables) number c.index-table.result.now refl l c.index-table.ensures in
    let arcs = (is.tables.each number bid.0 c.index-table.result.now bid.1 at).arcs_are in
    record { are = arcs.groups; within = arcs.terms.within }

pub are_arcs_within-requires : goal.are_arcs_within-requires
are_arcs_within-requires g c =
    let tables = c.args.kept.now.tables.items in
    let number = c.args.number in
    let is = c.requires.kept.1.is in
    let count = is.tables.count_is in
    let bid = some_at c.args.inst.bids.now number c.requires.number in
    let l : number < length tables = omega (arith, count, c.requires.number) in
    let at : slice_get tables number ≡ Some c.index-table.result.now = slice_get_read tables (length tables) number c.index-table.result.now refl l c.index-table.ensures in
    let arcs = (is.tables.each number bid.0 c.index-table.result.now bid.1 at).arcs_are in
    record { are = arcs.groups; within = arcs.terms.within }

pub take_arcs-requires : goal.take_arcs-requires
take_arcs-requires g c =
    let tables = c.args.kept.now.tables.items in
    let number = c.args.number in
    let is = c.requires.kept.1.is in
    let count = is.tables.count_is in
    let bid = some_at c.args.inst.bids.now number c.requires.number in
    let l : number < length tables = omega (arith, count, c.requires.number) in
    let at : slice_get tables number ≡ Some c.index-table.result.now = slice_get_read tables (length tables) number c.index-table.result.now refl l c.index-table.ensures in
    let arcs = (is.tables.each number bid.0 c.index-table.result.now bid.1 at).arcs_are in
    record { are = arcs.groups; within = arcs.terms.within }

pub returns-then-are_arcs_within : goal.returns-then-are_arcs_within
returns-then-are_arcs_within g c bid t total bid_at graph below room =
    let net = c.args.inst.net.now in
    let f = c.args.rows.now in
    let kept = c.args.kept.now in
    let s : Setting g.row.F-Row.Denot = setting net (g.F.RowFamily.rows_of f net) (g.F.RowFamily.rows_used f net) c.args.inst.bids.now c.requires.kept.0 in
    let proper = c.args.inst.proper in
    let lists = λ (kind : TypeId) (leg : Leg) (usable : IsUsable net kind leg). g.met.F.RowFamily.lists_rows f net kind leg usable in
    let tables = kept.tables.items in
    let number = c.args.number in
    let path = c.args.path.now in
    let table = c.index-table.result.now in
    let is = c.requires.kept.1.is in
    let count = is.tables.count_is in
    let l : number < length tables = omega (arith, count, c.requires.number) in
    let at : slice_get tables number ≡ Some table = slice_get_read tables (length tables) number table refl l c.index-table.ensures in
    let arcs = (is.tables.each number bid table bid_at at).arcs_are in
    let route = c.requires.route table.graph.now (table, at, refl) in
    let within = route_within table arcs.count path route in
    let new = c.add_arcs.new.room in
    let added = adds_path g.F.Row.Ord.cmp g.met.F.Row.Ord.total g.met.F.Row.CodedRow.tells_apart s proper lists kept.numbering.order.items kept.numbering.rows.items is.numbering kept.columns.groups number bid table arcs path within route total c.args.room.now new room c.in_ok-add_arcs.ensures.uses c.in_ok-add_arcs.ensures.capacities in
    let fits = path_fits g.F.Row.Ord.cmp g.met.F.Row.Ord.total g.met.F.Row.CodedRow.tells_apart s proper lists kept.numbering.order.items kept.numbering.rows.items is.numbering kept.columns.groups number bid table arcs path within route total new added below (c.are_arcs_within.ensures.0 c.if-are_arcs_within.true) in
    let same : table.graph.now ≡ t = ap (λ (x : BidTable). x.graph.now) (same_Some table graph.0 (sym at ∙ graph.1)) ∙ graph.2 in
    subst (λ (t : Timed). IsPutIn s.rows kept bid.path.kind (walk_of t path) true total new) same (fits, added)

pub returns : goal.returns
returns g c bid t total bid_at graph below room =
    let net = c.args.inst.net.now in
    let f = c.args.rows.now in
    let kept = c.args.kept.now in
    let s : Setting g.row.F-Row.Denot = setting net (g.F.RowFamily.rows_of f net) (g.F.RowFamily.rows_used f net) c.args.inst.bids.now c.requires.kept.0 in
    let proper = c.args.inst.proper in
    let lists = λ (kind : TypeId) (leg : Leg) (usable : IsUsable net kind leg). g.met.F.RowFamily.lists_rows f net kind leg usable in
    let tables = kept.tables.items in
    let number = c.args.number in
    let path = c.args.path.now in
    let table = c.index-table.result.now in
    let is = c.requires.kept.1.is in
    let count = is.tables.count_is in
    let l : number < length tables = omega (arith, count, c.requires.number) in
    let at : slice_get tables number ≡ Some table = slice_get_read tables (length tables) number table refl l c.index-table.ensures in
    let arcs = (is.tables.each number bid table bid_at at).arcs_are in
    let route = c.requires.route table.graph.now (table, at, refl) in
    let within = route_within table arcs.count path route in
    let mid = c.add_arcs.new.room in
    let new = c.take_arcs.new.room in
    let added = adds_path g.F.Row.Ord.cmp g.met.F.Row.Ord.total g.met.F.Row.CodedRow.tells_apart s proper lists kept.numbering.order.items kept.numbering.rows.items is.numbering kept.columns.groups number bid table arcs path within route total c.args.room.now mid room c.in_ok-add_arcs.ensures.uses c.in_ok-add_arcs.ensures.capacities in
    let taken = takes_path g.F.Row.Ord.cmp g.met.F.Row.Ord.total g.met.F.Row.CodedRow.tells_apart s proper lists kept.numbering.order.items kept.numbering.rows.items is.numbering kept.columns.groups number bid table arcs path within route total mid new added c.take_arcs.ensures.uses c.take_arcs.ensures.capacities in
    let same : table.graph.now ≡ t = ap (λ (x : BidTable). x.graph.now) (same_Some table graph.0 (sym at ∙ graph.1)) ∙ graph.2 in
    subst (λ (t : Timed). IsPutIn s.rows kept bid.path.kind (walk_of t path) false total new) same (
      (λ have. no (sym c.if-are_arcs_within.false ∙ c.are_arcs_within.ensures.1 (path_told g.F.Row.Ord.cmp g.met.F.Row.Ord.total g.met.F.Row.CodedRow.tells_apart s proper lists kept.numbering.order.items kept.numbering.rows.items is.numbering kept.columns.groups number bid table arcs path within route total mid added is.rows have))),
      taken,
    )
  where
    no : false ≡ true → ⊥
    no e = cc
