-- The tests of a withdrawal, one after another.
use Rattle.std.proofs.Common.{◌∙◌, ℕ, List, ap, sym}
use Rattle.optra_network.specs.Names.{place_of}
use Rattle.optra_auction.specs.Kept.{named}
use Rattle.optra_auction.specs.Tests.{withdraw_tests}
use Rattle.optra_auction.specs.Machine.{State, place_named, withdraw_refusal, standing_names, state_of}
use Rattle.optra_auction.proofs.RefusalLemmas.{withdraw-closed, withdraw-tested, withdraw-unknown}
use Rattle.optra_auction.proofs.auctions.Auction.withdraw_place.Goals as goal

pub returns-then-self : goal.returns-then-self
returns-then-self c =
    let s = state_of c.self.inside.specs c.self.inside.rules c.self.inside.round c.self.inside.standing c.self.inside.moved c.self.inside.closed in
    ap (λ (t : State). withdraw_refusal t c.args.bidder.now c.args.bid.now) (sym c.self.view_is) ∙ withdraw-closed s c.args.bidder.now c.args.bid.now c.if-self.true

pub returns-in_default : goal.returns-in_default
returns-in_default c =
    let s = state_of c.self.inside.specs c.self.inside.rules c.self.inside.round c.self.inside.standing c.self.inside.moved c.self.inside.closed in
    let none = ap (λ (n : List ℕ). place_of n (standing_names c.self.inside.standing)) (sym c.text.ensures.text) ∙ sym c.in_default.ensures.place in
    ap (λ (t : State). withdraw_refusal t c.args.bidder.now c.args.bid.now) (sym c.self.view_is) ∙ withdraw-unknown s c.args.bidder.now c.args.bid.now c.if-self.false none

pub returns-in-Some-withdraw_refusal : goal.returns-in-Some-withdraw_refusal
returns-in-Some-withdraw_refusal c =
    let s = state_of c.self.inside.specs c.self.inside.rules c.self.inside.round c.self.inside.standing c.self.inside.moved c.self.inside.closed in
    let found = ap (λ (n : List ℕ). place_of n (standing_names c.self.inside.standing)) (sym c.text.ensures.text) ∙ sym c.in-Some.ensures.place in
    ap (λ (t : State). withdraw_refusal t c.args.bidder.now c.args.bid.now) (sym c.self.view_is)
    ∙ withdraw-tested s c.args.bidder.now c.args.bid.now c.in-Some.place (named c.at.result.0.now c.at.result.1.now) c.if-self.false found c.at.ensures
    ∙ ap (λ (n : List ℕ). withdraw_tests n (named c.at.result.0.now c.at.result.1.now)) (sym c.text-2.ensures.text) ∙ sym c.withdraw_refusal.ensures ∙ c.in-Some-withdraw_refusal.is

pub returns-in-None : goal.returns-in-None
returns-in-None c =
    let s = state_of c.self.inside.specs c.self.inside.rules c.self.inside.round c.self.inside.standing c.self.inside.moved c.self.inside.closed in
    let found = ap (λ (n : List ℕ). place_of n (standing_names c.self.inside.standing)) (sym c.text.ensures.text) ∙ sym c.in-Some.ensures.place in (
      ap (λ (t : State). withdraw_refusal t c.args.bidder.now c.args.bid.now) (sym c.self.view_is)
          ∙ withdraw-tested s c.args.bidder.now c.args.bid.now c.in-Some.place (named c.at.result.0.now c.at.result.1.now) c.if-self.false found c.at.ensures
          ∙ ap (λ (n : List ℕ). withdraw_tests n (named c.at.result.0.now c.at.result.1.now)) (sym c.text-2.ensures.text) ∙ sym c.withdraw_refusal.ensures ∙ c.in-None.is,
      ap (λ (t : State). place_named t c.args.bid.now) (sym c.self.view_is) ∙ found,
    )
