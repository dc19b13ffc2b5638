-- An amendment keeps what every auction keeps.
use Rattle.std.proofs.Common.{◌∙◌, List, true, ap, sym, subst}
use Rattle.optra_auction.specs.Machine.{IsAuction, Standing, State, amend_refusal, place_named, spec_named, state_of}
use Rattle.optra_auction.proofs.AuctionLemmas.{IsAuction-amend}
use Rattle.optra_auction.proofs.auctions.Auction.amend.Goals as goal

pub invariant_of-self : goal.invariant_of-self
invariant_of-self c =
    let s = state_of c.self.inside.specs c.self.inside.rules c.self.inside.round c.self.inside.standing c.self.inside.moved c.self.inside.closed in
    let due = ap (λ (t : State). amend_refusal t c.args.bidder c.args.bid c.args.spec) c.self.view_is ∙ c.in-Ok.ensures.0 in
    let place = ap (λ (t : State). place_named t c.args.bid) c.self.view_is ∙ c.in-Ok.ensures.1 in
    let known = ap (λ (t : State). spec_named t c.args.spec) c.self.view_is ∙ c.in-Ok.ensures.2 in
    subst (λ (l : List Standing). IsAuction (state_of s.specs s.rules s.round l true s.closed)) (sym c.amend.ensures)
    (IsAuction-amend s c.self.invariant c.args.bidder c.args.bid c.args.spec c.in-Ok.places.0 c.in-Ok.places.1 due place known)

pub returns-clause-auction : goal.returns-clause-auction
returns-clause-auction c =
    let s = state_of c.self.inside.specs c.self.inside.rules c.self.inside.round c.self.inside.standing c.self.inside.moved c.self.inside.closed in
    let due = ap (λ (t : State). amend_refusal t c.args.bidder c.args.bid c.args.spec) c.self.view_is ∙ c.in-Ok.ensures.0 in
    let place = ap (λ (t : State). place_named t c.args.bid) c.self.view_is ∙ c.in-Ok.ensures.1 in
    let known = ap (λ (t : State). spec_named t c.args.spec) c.self.view_is ∙ c.in-Ok.ensures.2 in
    subst (λ (l : List Standing). IsAuction (state_of s.specs s.rules s.round l true s.closed)) (sym c.amend.ensures)
    (IsAuction-amend s c.self.invariant c.args.bidder c.args.bid c.args.spec c.in-Ok.places.0 c.in-Ok.places.1 due place known)
