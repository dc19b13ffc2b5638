-- The values and the next round keep what every auction keeps.
use Rattle.std.proofs.Common.{◌∙◌, ◌+◌, List, map, true, false, ap, sym, subst}
use Rattle.optra_auction.specs.Machine.{IsAuction, Standing, is_last_round, rested, state_of}
use Rattle.optra_auction.proofs.AuctionLemmas.{IsAuction-rested, IsAuction-with_values, not_last}
use Rattle.optra_auction.proofs.auctions.Auction.close_round.Goals as goal

pub invariant_of-self : goal.invariant_of-self
invariant_of-self c =
    let s = state_of c.self.inside.specs c.self.inside.rules c.self.inside.round c.self.inside.standing c.self.inside.moved c.self.inside.closed in
    subst (λ (l : List Standing). IsAuction (state_of s.specs s.rules s.round l s.moved true)) (sym c.set_values.ensures)
    (IsAuction-with_values s c.self.invariant c.args.values.now s.moved true)

pub returns-then-is_last-clause-auction : goal.returns-then-is_last-clause-auction
returns-then-is_last-clause-auction c =
    let s = state_of c.self.inside.specs c.self.inside.rules c.self.inside.round c.self.inside.standing c.self.inside.moved c.self.inside.closed in
    subst (λ (l : List Standing). IsAuction (state_of s.specs s.rules s.round l s.moved true)) (sym c.set_values.ensures)
    (IsAuction-with_values s c.self.invariant c.args.values.now s.moved true)

pub invariant_of-self-else-is_last : goal.invariant_of-self-else-is_last
invariant_of-self-else-is_last c =
    let s = state_of c.self.inside.specs c.self.inside.rules c.self.inside.round c.self.inside.standing c.self.inside.moved c.self.inside.closed in
    let more = not_last s (ap is_last_round c.self.view_is ∙ sym c.is_last_round-is_last.ensures ∙ c.if-is_last.false) in
    subst (λ (l : List Standing). IsAuction (state_of s.specs s.rules (s.round + 1) l false s.closed)) (sym (c.rest.ensures ∙ ap (map rested) c.set_values.ensures))
    (IsAuction-rested s c.self.invariant c.args.values.now false s.closed more)

pub returns-else-is_last-clause-auction : goal.returns-else-is_last-clause-auction
returns-else-is_last-clause-auction c =
    let s = state_of c.self.inside.specs c.self.inside.rules c.self.inside.round c.self.inside.standing c.self.inside.moved c.self.inside.closed in
    let more = not_last s (ap is_last_round c.self.view_is ∙ sym c.is_last_round-is_last.ensures ∙ c.if-is_last.false) in
    subst (λ (l : List Standing). IsAuction (state_of s.specs s.rules (s.round + 1) l false s.closed)) (sym (c.rest.ensures ∙ ap (map rested) c.set_values.ensures))
    (IsAuction-rested s c.self.invariant c.args.values.now false s.closed more)
