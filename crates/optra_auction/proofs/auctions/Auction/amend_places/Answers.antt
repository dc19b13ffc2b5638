-- The tests of an amendment, one after another.
use Rattle.std.proofs.Common.{◌∙◌, ℕ, List, ap, sym, w64, rules}
use Rattle.std.proofs.lemmas.Int.{to_z-of_z}
use Rattle.std.specs.Int.RustNames.{FitsSigned}
use Rattle.optra_network.specs.Names.{place_of}
use Rattle.optra_auction.specs.Kept.{named}
use Rattle.optra_auction.specs.Tests.{amend_tests}
use Rattle.optra_auction.specs.Machine.{State, place_named, spec_named, spec_names, amend_refusal, standing_names, state_of}
use Rattle.optra_auction.proofs.RefusalLemmas.{amend-closed, amend-no_spec, amend-tested, amend-unknown}
use Rattle.optra_auction.proofs.auctions.Auction.amend_places.Goals as goal

pub returns-then-self : goal.returns-then-self
returns-then-self c =
    let s = state_of c.self.inside.specs c.self.inside.rules c.self.inside.round c.self.inside.standing c.self.inside.moved c.self.inside.closed in
    ap (λ (t : State). amend_refusal t c.args.bidder.now c.args.bid.now c.args.spec.now) (sym c.self.view_is) ∙ amend-closed s c.args.bidder.now c.args.bid.now c.args.spec.now c.if-self.true

pub returns-in_default : goal.returns-in_default
returns-in_default c =
    let s = state_of c.self.inside.specs c.self.inside.rules c.self.inside.round c.self.inside.standing c.self.inside.moved c.self.inside.closed in
    let none = ap (λ (n : List ℕ). place_of n (spec_names c.self.inside.specs)) (sym c.text.ensures.text) ∙ sym c.in_default.ensures.place in
    ap (λ (t : State). amend_refusal t c.args.bidder.now c.args.bid.now c.args.spec.now) (sym c.self.view_is) ∙ amend-no_spec s c.args.bidder.now c.args.bid.now c.args.spec.now c.if-self.false none

pub returns-in_default-place : goal.returns-in_default-place
returns-in_default-place c =
    let s = state_of c.self.inside.specs c.self.inside.rules c.self.inside.round c.self.inside.standing c.self.inside.moved c.self.inside.closed in
    let known = ap (λ (n : List ℕ). place_of n (spec_names c.self.inside.specs)) (sym c.text.ensures.text) ∙ sym c.in-Some.ensures.place in
    let none = ap (λ (n : List ℕ). place_of n (standing_names c.self.inside.standing)) (sym c.text-2.ensures.text) ∙ sym c.in_default-place.ensures.place in
    ap (λ (t : State). amend_refusal t c.args.bidder.now c.args.bid.now c.args.spec.now) (sym c.self.view_is) ∙ amend-unknown s c.args.bidder.now c.args.bid.now c.args.spec.now c.in-Some.spec_place c.if-self.false known none

pub returns-in-Some-amend_refusal : goal.returns-in-Some-amend_refusal
returns-in-Some-amend_refusal c =
    let s = state_of c.self.inside.specs c.self.inside.rules c.self.inside.round c.self.inside.standing c.self.inside.moved c.self.inside.closed in
    let fits : FitsSigned w64 c.at-2.result.now.money.base = search rules in
    let tested = simp to_z-of_z at c.amend_refusal.ensures in
    let known = ap (λ (n : List ℕ). place_of n (spec_names c.self.inside.specs)) (sym c.text.ensures.text) ∙ sym c.in-Some.ensures.place in
    let found = ap (λ (n : List ℕ). place_of n (standing_names c.self.inside.standing)) (sym c.text-2.ensures.text) ∙ sym c.in-Some-place.ensures.place in
    ap (λ (t : State). amend_refusal t c.args.bidder.now c.args.bid.now c.args.spec.now) (sym c.self.view_is)
    ∙ amend-tested s c.args.bidder.now c.args.bid.now c.args.spec.now c.in-Some.spec_place c.in-Some-place.place c.at-2.result.now (named c.at.result.0.now c.at.result.1.now) c.if-self.false known c.at-2.ensures found c.at.ensures
    ∙ ap (λ (n : List ℕ). amend_tests n c.at-2.result.now.money.base (named c.at.result.0.now c.at.result.1.now)) (sym c.text-3.ensures.text) ∙ sym tested ∙ c.in-Some-amend_refusal.is

pub returns-in-None : goal.returns-in-None
returns-in-None c =
    let s = state_of c.self.inside.specs c.self.inside.rules c.self.inside.round c.self.inside.standing c.self.inside.moved c.self.inside.closed in
    let fits : FitsSigned w64 c.at-2.result.now.money.base = search rules in
    let tested = simp to_z-of_z at c.amend_refusal.ensures in
    let known = ap (λ (n : List ℕ). place_of n (spec_names c.self.inside.specs)) (sym c.text.ensures.text) ∙ sym c.in-Some.ensures.place in
    let found = ap (λ (n : List ℕ). place_of n (standing_names c.self.inside.standing)) (sym c.text-2.ensures.text) ∙ sym c.in-Some-place.ensures.place in (
      ap (λ (t : State). amend_refusal t c.args.bidder.now c.args.bid.now c.args.spec.now) (sym c.self.view_is)
          ∙ amend-tested s c.args.bidder.now c.args.bid.now c.args.spec.now c.in-Some.spec_place c.in-Some-place.place c.at-2.result.now (named c.at.result.0.now c.at.result.1.now) c.if-self.false known c.at-2.ensures found c.at.ensures
          ∙ ap (λ (n : List ℕ). amend_tests n c.at-2.result.now.money.base (named c.at.result.0.now c.at.result.1.now)) (sym c.text-3.ensures.text) ∙ sym tested ∙ c.in-None.is,
      ap (λ (t : State). place_named t c.args.bid.now) (sym c.self.view_is) ∙ found,
      ap (λ (t : State). spec_named t c.args.spec.now) (sym c.self.view_is) ∙ known,
    )
