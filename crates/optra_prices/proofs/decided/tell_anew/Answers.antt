use Rattle.std.proofs.Common.{◌+◌, List, refl, subst, arith}
use Rattle.optra_node.specs.declared.Decision.{Decision}
use Rattle.optra_node.specs.Nodes.{yes_load}
use Rattle.optra_prices.specs.Claims.{AreClaims, claim_uses}
use Rattle.optra_prices.specs.Uses.{AddsUses}
use Rattle.optra_prices.specs.declared.claims.Claim.{Claim}
use Rattle.optra_prices.proofs.ClaimLemmas.{claims_load}
use Rattle.optra_prices.proofs.RoomLemmas.{room_adds, same_room}
use Rattle.optra_prices.proofs.decided.tell_anew.Goals as goal

pub returns : goal.returns
returns g c =
    let rows = g.F.RowFamily.rows_of c.args.rows.now c.args.inst.net.now in
    let bids = c.args.inst.bids.now in
    let numbered = c.args.numbering.now.rows.items in
    let decisions = c.args.decided.now.decisions.items in
    let claims = c.in_ok-claims.claims.items in
    let load = yes_load rows bids decisions in
    let room = c.in_ok-room.room in
    let new = c.add_claims.new.room in
    let are = subst (λ (ds : List Decision). AreClaims rows bids numbered ds claims) c.deref.ensures.value c.in_ok-claims.ensures in
    let added = c.in_ok-add_claims.ensures in
    let adds = subst (λ (cs : List Claim). AddsUses (claim_uses cs) room.loads.uses new.loads.uses) c.deref-2.ensures.value added.uses in
    let is = room_adds rows numbered (claim_uses claims) (λ row. 0) load (λ n row at. claims_load rows bids numbered n row at decisions claims are) room new c.in_ok-room.ensures adds added.capacities in
    record { decisions_are = refl; formed = c.requires.decisions; claims_are = are; room_is = same_room rows numbered (λ row. 0 + load row) load new (λ row. omega arith) is }
