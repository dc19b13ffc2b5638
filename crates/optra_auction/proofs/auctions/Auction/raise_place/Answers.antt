-- The tests of a raise, one after another.
use Rattle.std.proofs.Common.{◌∙◌, ℕ, List, ap, sym, w64}
use Rattle.std.proofs.lemmas.Int.{to_z-of_z}
use Rattle.std.specs.Int.RustNames.{FitsSigned}
use Rattle.optra_network.specs.Names.{place_of}
use Rattle.optra_auction.specs.Kept.{named}
use Rattle.optra_auction.specs.Tests.{raise_tests}
use Rattle.optra_auction.specs.Machine.{IsOn, State, place_named, raise_refusal, standing_names, state_of}
use Rattle.optra_auction.proofs.MachineLemmas.{All-slice_get}
use Rattle.optra_auction.proofs.RefusalLemmas.{raise-closed, raise-tested, raise-unknown}
use Rattle.optra_auction.proofs.auctions.Auction.raise_place.Goals as goal

pub returns-then-self : goal.returns-then-self
returns-then-self c =
    let s = state_of c.self.inside.specs c.self.inside.rules c.self.inside.round c.self.inside.standing c.self.inside.moved c.self.inside.closed in
    ap (λ (t : State). raise_refusal t c.args.bidder.now c.args.bid.now c.args.amount) (sym c.self.view_is) ∙ raise-closed s c.args.bidder.now c.args.bid.now c.args.amount c.if-self.true

pub returns-in_default : goal.returns-in_default
returns-in_default c =
    let s = state_of c.self.inside.specs c.self.inside.rules c.self.inside.round c.self.inside.standing c.self.inside.moved c.self.inside.closed in
    let none = ap (λ (n : List ℕ). place_of n (standing_names c.self.inside.standing)) (sym c.text.ensures.text) ∙ sym c.in_default.ensures.place in
    ap (λ (t : State). raise_refusal t c.args.bidder.now c.args.bid.now c.args.amount) (sym c.self.view_is) ∙ raise-unknown s c.args.bidder.now c.args.bid.now c.args.amount c.if-self.false none

pub raise_refusal-requires-clause-amount : goal.raise_refusal-requires-clause-amount
raise_refusal-requires-clause-amount c = (All-slice_get (IsOn c.self.inside.specs) c.self.inside.standing c.in-Some.place _ c.self.invariant.standing c.at.ensures).amount

pub returns-in-Some-raise_refusal : goal.returns-in-Some-raise_refusal
returns-in-Some-raise_refusal c =
    let s = state_of c.self.inside.specs c.self.inside.rules c.self.inside.round c.self.inside.standing c.self.inside.moved c.self.inside.closed in
    let fits : FitsSigned w64 c.args.amount = c.ranges.amount in
    let tested = simp to_z-of_z at c.raise_refusal.ensures in
    let found = ap (λ (n : List ℕ). place_of n (standing_names c.self.inside.standing)) (sym c.text.ensures.text) ∙ sym c.in-Some.ensures.place in
    ap (λ (t : State). raise_refusal t c.args.bidder.now c.args.bid.now c.args.amount) (sym c.self.view_is)
    ∙ raise-tested s c.args.bidder.now c.args.bid.now c.args.amount c.in-Some.place (named c.at.result.0.now c.at.result.1.now) c.if-self.false found c.at.ensures
    ∙ ap (λ (n : List ℕ). raise_tests c.self.inside.rules n c.args.amount (named c.at.result.0.now c.at.result.1.now)) (sym c.text-2.ensures.text) ∙ sym tested ∙ c.in-Some-raise_refusal.is

pub returns-in-None : goal.returns-in-None
returns-in-None c =
    let s = state_of c.self.inside.specs c.self.inside.rules c.self.inside.round c.self.inside.standing c.self.inside.moved c.self.inside.closed in
    let fits : FitsSigned w64 c.args.amount = c.ranges.amount in
    let tested = simp to_z-of_z at c.raise_refusal.ensures in
    let found = ap (λ (n : List ℕ). place_of n (standing_names c.self.inside.standing)) (sym c.text.ensures.text) ∙ sym c.in-Some.ensures.place in (
      ap (λ (t : State). raise_refusal t c.args.bidder.now c.args.bid.now c.args.amount) (sym c.self.view_is)
          ∙ raise-tested s c.args.bidder.now c.args.bid.now c.args.amount c.in-Some.place (named c.at.result.0.now c.at.result.1.now) c.if-self.false found c.at.ensures
          ∙ ap (λ (n : List ℕ). raise_tests c.self.inside.rules n c.args.amount (named c.at.result.0.now c.at.result.1.now)) (sym c.text-2.ensures.text) ∙ sym tested ∙ c.in-None.is,
      ap (λ (t : State). place_named t c.args.bid.now) (sym c.self.view_is) ∙ found,
    )
