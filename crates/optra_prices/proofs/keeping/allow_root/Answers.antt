use Rattle.std.proofs.Common.{true, All, length, sym, ap, ◌∙◌, subst}
use Rattle.std.proofs.lemmas.List.{length-replicate}
use Rattle.optra_prices.specs.Allowing.{IsOpen}
use Rattle.optra_prices.specs.Terms.{Setting, setting}
use Rattle.optra_prices.specs.Rooms.{HasRoomOnHeld, IsDecided}
use Rattle.optra_network.specs.declared.TypeId.{TypeId}
use Rattle.optra_walk.specs.declared.Leg.{Leg}
use Rattle.optra_walk.specs.Families.{IsUsable}
use Rattle.optra_prices.proofs.OpeningLemmas.{open_tables}
use Rattle.optra_prices.proofs.StayLemmas.{all_told}
use Rattle.optra_node.specs.declared.Decision.{Decision}
use Rattle.optra_node.specs.Nodes.{InstanceNode, instance_node}
use Rattle.std.proofs.Common.{List}
use Rattle.optra_prices.proofs.keeping.allow_root.Goals as goal

pub returns-then-has_room_on_each-clause-tables : goal.returns-then-has_room_on_each-clause-tables
returns-then-has_room_on_each-clause-tables g c =
    let net = c.args.inst.net.now in
    let f = c.args.rows.now in
    let rows = g.F.RowFamily.rows_of f net in
    let used = g.F.RowFamily.rows_used f net in
    let grouping = c.args.grouping.now in
    let decided = c.args.decided.now in
    let lists = λ (kind : TypeId) (leg : Leg) (usable : IsUsable net kind leg). g.met.F.RowFamily.lists_rows f net kind leg usable in
    let free = subst (HasRoomOnHeld decided.room) c.slice.ensures (c.has_room_on_each.ensures c.if-has_room_on_each.true) in
    let opened = subst (All IsOpen) c.deref.ensures.value (c.are_open.ensures.0 c.if-are_open.true) in
    open_tables g.F.Row.Ord.cmp net c.args.inst.proper rows used lists c.args.inst.bids.now grouping.numbering.now.rows.items grouping.groups.now decided c.requires.decided free c.args.tables.now.items c.requires.tables opened

pub allow_told-requires-clause-own_is : goal.allow_told-requires-clause-own_is
allow_told-requires-clause-own_is g c =
    let net = c.args.inst.net.now in
    let node_is = ap (λ (x : InstanceNode g.row.F.Denot). x.node) c.in_ok-own.ensures in
    c.in_ok-own.ensures ∙ ap (λ (ds : List Decision). instance_node c.args.rows.now net c.args.inst.bids.now ds) (sym node_is)

pub allow_told-requires-clause-decided : goal.allow_told-requires-clause-decided
allow_told-requires-clause-decided g c =
    let net = c.args.inst.net.now in
    let node_is = ap (λ (x : InstanceNode g.row.F.Denot). x.node) c.in_ok-own.ensures in
    subst (λ (ds : List Decision). IsDecided net (g.F.RowFamily.rows_of c.args.rows.now net) c.args.inst.bids.now c.args.grouping.now.numbering.now.rows.items ds c.args.decided.now) (sym (node_is ∙ c.root-node.ensures.value)) c.requires.decided

pub allow_told-requires-clause-others : goal.allow_told-requires-clause-others
allow_told-requires-clause-others g c =
    let net = c.args.inst.net.now in
    let f = c.args.rows.now in
    let s : Setting g.row.F-Row.Denot = setting net (g.F.RowFamily.rows_of f net) (g.F.RowFamily.rows_used f net) c.args.inst.bids.now c.in_ok-own.own.node in
    all_told s c.args.grouping.now.numbering.now.rows.items c.args.grouping.now.groups.now c.in_ok-told.told.items c.args.tables.now.items (length c.args.inst.bids.now) (c.in_ok-told.ensures.items_if_clones_equal (λ y e. e))

pub allow_told-requires-clause-told : goal.allow_told-requires-clause-told
allow_told-requires-clause-told g c = ap length (c.in_ok-told.ensures.items_if_clones_equal (λ y e. e)) ∙ length-replicate (length c.args.inst.bids.now) true ∙ sym c.requires.tables.count_is

pub allow_told-requires-clause-tables : goal.allow_told-requires-clause-tables
allow_told-requires-clause-tables g c = c.requires.tables
