use Rattle.std.proofs.Common.{◌-◌, ◌≤◌, ◌++◌, List, length, take, drop, sym, ap, ◌∙◌, subst, arith, rules}
use Rattle.std.proofs.lemmas.List.{take-append-drop}
use Rattle.std.proofs.lemmas.Slice.Zip.{AllZip-long}
use Rattle.optra_node.specs.declared.Decision.{Decision}
use Rattle.optra_node.specs.Nodes.{yes_load}
use Rattle.optra_prices.specs.Claims.{IsClaim, AreClaims, claim_uses}
use Rattle.optra_prices.specs.Uses.{TakesUses, AddsUses}
use Rattle.optra_prices.specs.declared.claims.Claim.{Claim}
use Rattle.optra_prices.proofs.ClaimLemmas.{claims_load}
use Rattle.optra_prices.proofs.DecidedLemmas.{room_parts, room_whole}
use Rattle.optra_prices.proofs.ListLemmas.{zip_take, zip_drop, zip_append}
use Rattle.optra_prices.proofs.RoomLemmas.{room_takes, room_adds}
use Rattle.optra_prices.proofs.TellingLemmas.{rest_is}
use Rattle.optra_prices.proofs.decided.move_room.Goals as goal

pub slice_bounds-take_claims-count : goal.slice_bounds-take_claims-count
slice_bounds-take_claims-count g c =
    let decided = c.args.decided.now in
    let zip = IsClaim (g.F.RowFamily.rows_of c.args.rows.now c.args.inst.net.now) c.args.inst.bids.now c.args.numbering.now.rows.items in
    let long = AllZip-long zip decided.decisions.items decided.claims.items c.requires.decided.claims_are in
    let same = ap length c.deref.ensures.value in
    let within = c.requires.old in
    omega (arith, long, same, within)

pub slice_bounds-take_claims-start : goal.slice_bounds-take_claims-start
slice_bounds-take_claims-start g c =
    let decided = c.args.decided.now in
    let zip = IsClaim (g.F.RowFamily.rows_of c.args.rows.now c.args.inst.net.now) c.args.inst.bids.now c.args.numbering.now.rows.items in
    let long = AllZip-long zip decided.decisions.items decided.claims.items c.requires.decided.claims_are in
    let same = ap length c.deref.ensures.value in
    let within = c.requires.old in
    omega (arith, long, same, within)

pub offset_bounds-deref-count : goal.offset_bounds-deref-count
offset_bounds-deref-count g c =
    let decided = c.args.decided.now in
    let zip = IsClaim (g.F.RowFamily.rows_of c.args.rows.now c.args.inst.net.now) c.args.inst.bids.now c.args.numbering.now.rows.items in
    let long = AllZip-long zip decided.decisions.items decided.claims.items c.requires.decided.claims_are in
    let same = ap length c.deref.ensures.value in
    let within = c.requires.old in
    let inside : c.args.count ≤ length c.deref.result.now = omega (arith, long, same, within) in
    search rules

pub returns : goal.returns
returns g c =
    let rows = g.F.RowFamily.rows_of c.args.rows.now c.args.inst.net.now in
    let bids = c.args.inst.bids.now in
    let numbered = c.args.numbering.now.rows.items in
    let k = c.args.count in
    let decided = c.args.decided.now in
    let before = decided.decisions.items in
    let node = c.args.node.now in
    let claims = decided.claims.items in
    let more = c.args.claims.items in
    let is = c.requires.decided in
    let zip = IsClaim rows bids numbered in
    let left = rest_is c.deref.result.now claims k c.deref.ensures.value in
    let entered = rest_is c.decisions_of.result.now node k c.decisions_of.ensures in
    let taken = c.take_claims.new.room in
    let room = c.add_claims.new.room in
    let base = yes_load rows bids (take k before) in
    let takes = subst (λ (cs : List Claim). TakesUses (claim_uses cs) decided.room.loads.uses taken.loads.uses) left c.take_claims.ensures.uses in
    let left_are = zip_drop zip k before claims is.claims_are in
    let beside = room_takes rows numbered (claim_uses (drop k claims)) base (yes_load rows bids (drop k before)) (λ n row at. claims_load rows bids numbered n row at (drop k before) (drop k claims) left_are) decided.room taken
    (room_parts rows bids numbered k before decided.room is.room_is) takes c.take_claims.ensures.capacities
    in
    let adds = subst (λ (cs : List Claim). AddsUses (claim_uses cs) taken.loads.uses room.loads.uses) c.deref-2.ensures.value c.in_ok-add_claims.ensures.uses in
    let whole = room_adds rows numbered (claim_uses more) base (yes_load rows bids (drop k node)) (λ n row at. claims_load rows bids numbered n row at (drop k node) more c.requires.claims) taken room beside adds c.in_ok-add_claims.ensures.capacities in
    let kept_are = subst (λ (ds : List Decision). AreClaims rows bids numbered ds (take k claims)) c.requires.shared (zip_take zip k before claims is.claims_are) in
    let all_are = subst (λ (ds : List Decision). AreClaims rows bids numbered ds (take k claims ++ more)) (take-append-drop k node) (zip_append zip (take k node) (drop k node) (take k claims) more kept_are c.requires.claims) in
    record {
      decisions_are = c.in_ok-extend_from_slice.ensures.items ∙ ap (λ (ds : List Decision). ds ++ take (length c.decisions_of.result.now - k) (drop k c.decisions_of.result.now)) (c.truncate.ensures.items ∙ c.requires.shared) ∙ ap (λ (ds : List Decision). take k node ++ ds) entered ∙ take-append-drop k node;
      formed = c.requires.node.formed;
      claims_are = subst (AreClaims rows bids numbered node) (sym (c.in_ok-append.ensures.items ∙ ap (λ (cs : List Claim). cs ++ more) c.truncate-2.ensures.items)) all_are;
      room_is = room_whole rows bids numbered k before node room c.requires.shared whole;
    }
