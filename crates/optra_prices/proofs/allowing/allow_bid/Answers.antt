use Rattle.std.proofs.Common.{ℕ, ◌<◌, List, length, sym, subst}
use Rattle.std.specs.Prelude.{All}
use Rattle.optra_network.specs.declared.TypeId.{TypeId}
use Rattle.optra_walk.specs.declared.Leg.{Leg}
use Rattle.optra_walk.specs.Families.{IsUsable}
use Rattle.optra_node.specs.Nodes.{InstanceNode}
use Rattle.optra_node.specs.OwnDecisions.{decisions_for}
use Rattle.optra_prices.specs.Allowing.{RoomTells}
use Rattle.optra_prices.specs.Claims.{placed_uses}
use Rattle.optra_prices.specs.Uses.{TakesUses, AddsUses}
use Rattle.optra_prices.specs.declared.claims.Claim.{Claim}
use Rattle.optra_prices.proofs.AllowLemmas.{room_without, room_with, table_tells}
use Rattle.optra_prices.proofs.ClaimLemmas.{placed_within}
use Rattle.optra_prices.proofs.allowing.allow_bid.Goals as goal

pub take_placed-requires : goal.take_placed-requires
take_placed-requires g c =
    let node = c.args.own.now.node in
    let decided = c.args.decided.now in
    let places = c.places-places.result.now in
    subst (λ (cs : List Claim). All (λ (place : ℕ). place < length cs) places) (sym c.deref.ensures.value)
    (placed_within (g.F.RowFamily.rows_of c.args.rows.now c.args.inst.net.now) c.args.inst.bids.now c.args.grouping.now.numbering.now.rows.items node decided.claims.items c.requires.decided.claims_are places (decisions_for node c.args.number) c.places-places.ensures)

pub add_placed-requires : goal.add_placed-requires
add_placed-requires g c =
    let node = c.args.own.now.node in
    let decided = c.args.decided.now in
    let places = c.places-places.result.now in
    subst (λ (cs : List Claim). All (λ (place : ℕ). place < length cs) places) (sym c.deref-2.ensures.value)
    (placed_within (g.F.RowFamily.rows_of c.args.rows.now c.args.inst.net.now) c.args.inst.bids.now c.args.grouping.now.numbering.now.rows.items node decided.claims.items c.requires.decided.claims_are places (decisions_for node c.args.number) c.places-places.ensures)

pub allow_table-changed-requires-clause-tells : goal.allow_table-changed-requires-clause-tells
allow_table-changed-requires-clause-tells g c =
    let net = c.args.inst.net.now in
    let f = c.args.rows.now in
    let rows = g.F.RowFamily.rows_of f net in
    let used = g.F.RowFamily.rows_used f net in
    let bids = c.args.inst.bids.now in
    let node = c.args.own.now.node in
    let n = c.args.number in
    let numbered = c.args.grouping.now.numbering.now.rows.items in
    let table = c.args.table.now in
    let old = c.args.decided.now in
    let is = c.requires.decided in
    let places = c.places-places.result.now in
    let new = c.take_placed.new.room in
    let proper = c.args.inst.proper in
    let lists = λ (kind : TypeId) (leg : Leg) (usable : IsUsable net kind leg). g.met.F.RowFamily.lists_rows f net kind leg usable in
    let takes = subst (λ (cs : List Claim). TakesUses (placed_uses cs places) old.room.loads.uses new.loads.uses) c.deref.ensures.value c.take_placed.ensures.uses in
    let room = room_without rows bids numbered node old.claims.items is.claims_are n places c.places-places.ensures old.room new is.room_is takes c.take_placed.ensures.capacities in
    subst (λ (x : InstanceNode g.row.F.Denot). RoomTells (g.F.RowFamily.rows_of x.family x.net) x.bids x.node n new table.graph.now c.args.grouping.now.groups.now table.arcs) (sym c.requires.own_is)
    (table_tells g.F.Row.Ord.cmp net proper rows used lists bids node n numbered new room c.args.grouping.now.groups.now table c.requires.table)

pub returns-clause-decided : goal.returns-clause-decided
returns-clause-decided g c =
    let rows = g.F.RowFamily.rows_of c.args.rows.now c.args.inst.net.now in
    let bids = c.args.inst.bids.now in
    let node = c.args.own.now.node in
    let n = c.args.number in
    let numbered = c.args.grouping.now.numbering.now.rows.items in
    let old = c.args.decided.now in
    let claims = old.claims.items in
    let is = c.requires.decided in
    let places = c.places-places.result.now in
    let own = c.places-places.ensures in
    let mid = c.take_placed.new.room in
    let new = c.add_placed.new.room in
    let takes = subst (λ (cs : List Claim). TakesUses (placed_uses cs places) old.room.loads.uses mid.loads.uses) c.deref.ensures.value c.take_placed.ensures.uses in
    let adds = subst (λ (cs : List Claim). AddsUses (placed_uses cs places) mid.loads.uses new.loads.uses) c.deref-2.ensures.value c.in_ok-add_placed.ensures.uses in
    let beside = room_without rows bids numbered node claims is.claims_are n places own old.room mid is.room_is takes c.take_placed.ensures.capacities in
    record { decisions_are = is.decisions_are; formed = is.formed; claims_are = is.claims_are; room_is = room_with rows bids numbered node claims is.claims_are n places own mid new beside adds c.in_ok-add_placed.ensures.capacities }
