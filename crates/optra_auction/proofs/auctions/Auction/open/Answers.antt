-- An opening keeps what every auction keeps.
use Rattle.std.proofs.Common.{◌∙◌, List, true, ap, sym, subst, length, w64}
use Rattle.std.proofs.lemmas.Bool.{leb-false}
use Rattle.std.proofs.lemmas.Int.{to_z-of_z}
use Rattle.std.specs.Int.RustNames.{FitsSigned}
use Rattle.optra_auction.specs.Machine.{IsAuction, Standing, State, opening_refusal, place_named, spec_named, state_of}
use Rattle.optra_auction.proofs.KeptLemmas.{none-from_is_some}
use Rattle.optra_auction.proofs.AuctionLemmas.{IsAuction-open, opening-may}
use Rattle.optra_auction.proofs.auctions.Auction.open.Goals as goal

pub push-requires-clause-room : goal.push-requires-clause-room
push-requires-clause-room c =
    let s = state_of c.self.inside.specs c.self.inside.rules c.self.inside.round c.self.inside.standing c.self.inside.moved c.self.inside.closed in
    let fits : FitsSigned w64 c.args.amount = c.ranges.amount in
    let ok = simp to_z-of_z at c.in-Ok.ensures.place in
    let due = ap (λ (t : State). opening_refusal t c.args.bid c.args.spec c.args.amount) c.self.view_is ∙ ok.0 in
    let may = opening-may s c.args.bid c.args.spec c.args.amount due in
    leb-false 500 (length s.standing) may.room

pub push-requires-clause-new : goal.push-requires-clause-new
push-requires-clause-new c =
    let s = state_of c.self.inside.specs c.self.inside.rules c.self.inside.round c.self.inside.standing c.self.inside.moved c.self.inside.closed in
    let fits : FitsSigned w64 c.args.amount = c.ranges.amount in
    let ok = simp to_z-of_z at c.in-Ok.ensures.place in
    let due = ap (λ (t : State). opening_refusal t c.args.bid c.args.spec c.args.amount) c.self.view_is ∙ ok.0 in
    let may = opening-may s c.args.bid c.args.spec c.args.amount due in
    none-from_is_some (place_named s c.args.bid) may.new

pub invariant_of-self : goal.invariant_of-self
invariant_of-self c =
    let s = state_of c.self.inside.specs c.self.inside.rules c.self.inside.round c.self.inside.standing c.self.inside.moved c.self.inside.closed in
    let fits : FitsSigned w64 c.args.amount = c.ranges.amount in
    let ok = simp to_z-of_z at c.in-Ok.ensures.place in
    let due = ap (λ (t : State). opening_refusal t c.args.bid c.args.spec c.args.amount) c.self.view_is ∙ ok.0 in
    let may = opening-may s c.args.bid c.args.spec c.args.amount due in
    let known = ap (λ (t : State). spec_named t c.args.spec) c.self.view_is ∙ ok.1 in
    let after = simp to_z-of_z at c.push.ensures in
    subst (λ (l : List Standing). IsAuction (state_of s.specs s.rules s.round l true s.closed)) (sym after)
    (IsAuction-open s c.self.invariant c.args.bidder c.args.bid c.args.spec c.args.amount c.in-Ok.place c.in-Ok.ensures.name c.requires may (none-from_is_some (place_named s c.args.bid) may.new) known)

pub returns-clause-auction : goal.returns-clause-auction
returns-clause-auction c =
    let s = state_of c.self.inside.specs c.self.inside.rules c.self.inside.round c.self.inside.standing c.self.inside.moved c.self.inside.closed in
    let fits : FitsSigned w64 c.args.amount = c.ranges.amount in
    let ok = simp to_z-of_z at c.in-Ok.ensures.place in
    let due = ap (λ (t : State). opening_refusal t c.args.bid c.args.spec c.args.amount) c.self.view_is ∙ ok.0 in
    let may = opening-may s c.args.bid c.args.spec c.args.amount due in
    let known = ap (λ (t : State). spec_named t c.args.spec) c.self.view_is ∙ ok.1 in
    let after = simp to_z-of_z at c.push.ensures in
    subst (λ (l : List Standing). IsAuction (state_of s.specs s.rules s.round l true s.closed)) (sym after)
    (IsAuction-open s c.self.invariant c.args.bidder c.args.bid c.args.spec c.args.amount c.in-Ok.place c.in-Ok.ensures.name c.requires may (none-from_is_some (place_named s c.args.bid) may.new) known)
