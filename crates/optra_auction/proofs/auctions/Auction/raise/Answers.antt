-- A raise keeps what every auction keeps.
use Rattle.std.proofs.Common.{◌∙◌, List, true, ap, sym, subst, w64}
use Rattle.std.proofs.lemmas.Int.{to_z-of_z}
use Rattle.std.specs.Int.RustNames.{FitsSigned}
use Rattle.optra_auction.specs.Machine.{IsAuction, Standing, State, raise_refusal, place_named, state_of}
use Rattle.optra_auction.proofs.AuctionLemmas.{IsAuction-raise}
use Rattle.optra_auction.proofs.auctions.Auction.raise.Goals as goal

pub invariant_of-self : goal.invariant_of-self
invariant_of-self c =
    let s = state_of c.self.inside.specs c.self.inside.rules c.self.inside.round c.self.inside.standing c.self.inside.moved c.self.inside.closed in
    let fits : FitsSigned w64 c.args.amount = c.ranges.amount in
    let ok = simp to_z-of_z at c.in-Ok.ensures in
    let after = simp to_z-of_z at c.raise.ensures in
    let due = ap (λ (t : State). raise_refusal t c.args.bidder c.args.bid c.args.amount) c.self.view_is ∙ ok.0 in
    let place = ap (λ (t : State). place_named t c.args.bid) c.self.view_is ∙ ok.1 in
    subst (λ (l : List Standing). IsAuction (state_of s.specs s.rules s.round l true s.closed)) (sym after)
    (IsAuction-raise s c.self.invariant c.args.bidder c.args.bid c.args.amount c.in-Ok.place c.requires due place)

pub returns-clause-auction : goal.returns-clause-auction
returns-clause-auction c =
    let s = state_of c.self.inside.specs c.self.inside.rules c.self.inside.round c.self.inside.standing c.self.inside.moved c.self.inside.closed in
    let fits : FitsSigned w64 c.args.amount = c.ranges.amount in
    let ok = simp to_z-of_z at c.in-Ok.ensures in
    let after = simp to_z-of_z at c.raise.ensures in
    let due = ap (λ (t : State). raise_refusal t c.args.bidder c.args.bid c.args.amount) c.self.view_is ∙ ok.0 in
    let place = ap (λ (t : State). place_named t c.args.bid) c.self.view_is ∙ ok.1 in
    subst (λ (l : List Standing). IsAuction (state_of s.specs s.rules s.round l true s.closed)) (sym after)
    (IsAuction-raise s c.self.invariant c.args.bidder c.args.bid c.args.amount c.in-Ok.place c.requires due place)
