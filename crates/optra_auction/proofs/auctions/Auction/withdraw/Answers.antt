-- A withdrawal keeps what every auction keeps.
use Rattle.std.proofs.Common.{◌∙◌, List, true, ap, sym, subst}
use Rattle.optra_auction.specs.Machine.{IsAuction, Standing, State, place_named, state_of}
use Rattle.optra_auction.proofs.AuctionLemmas.{IsAuction-withdraw}
use Rattle.optra_auction.proofs.auctions.Auction.withdraw.Goals as goal

pub invariant_of-self : goal.invariant_of-self
invariant_of-self c =
    let s = state_of c.self.inside.specs c.self.inside.rules c.self.inside.round c.self.inside.standing c.self.inside.moved c.self.inside.closed in
    let place = ap (λ (t : State). place_named t c.args.bid) c.self.view_is ∙ c.in-Ok.ensures.1 in
    subst (λ (l : List Standing). IsAuction (state_of s.specs s.rules s.round l true s.closed)) (sym c.remove.ensures)
    (IsAuction-withdraw s c.self.invariant c.args.bid c.in-Ok.place place)

pub returns-clause-auction : goal.returns-clause-auction
returns-clause-auction c =
    let s = state_of c.self.inside.specs c.self.inside.rules c.self.inside.round c.self.inside.standing c.self.inside.moved c.self.inside.closed in
    let place = ap (λ (t : State). place_named t c.args.bid) c.self.view_is ∙ c.in-Ok.ensures.1 in
    subst (λ (l : List Standing). IsAuction (state_of s.specs s.rules s.round l true s.closed)) (sym c.remove.ensures)
    (IsAuction-withdraw s c.self.invariant c.args.bid c.in-Ok.place place)
