-- The tests of an opening, one after another.
use Rattle.std.proofs.Common.{◌∙◌, ℕ, List, [], ◌∷◌, is_some, length, ap, sym, arith, w64, rules}
use Rattle.std.specs.Prelude.{int_lt}
use Rattle.std.proofs.lemmas.Int.{to_z-of_z}
use Rattle.std.specs.Int.RustNames.{FitsSigned}
use Rattle.optra_network.specs.Names.{place_of}
use Rattle.optra_network.specs.Refusals.{first_of}
use Rattle.optra_auction.specs.Machine.{State, is_full, spec_named, spec_names, opening_refusal, standing_names, state_of}
use Rattle.optra_auction.specs.declared.Refusal.TheVariants.{A2, A3, A10}
use Rattle.optra_auction.proofs.MachineLemmas.{some_at}
use Rattle.std.proofs.lemmas.Bool.{le-leb, lt-leb}
use Rattle.optra_auction.proofs.RefusalLemmas.{opening-closed, opening-no_spec, opening-tested}
use Rattle.optra_auction.proofs.auctions.Auction.opening_place.Goals as goal

pub returns-then-self-clause-place : goal.returns-then-self-clause-place
returns-then-self-clause-place c =
    let s = state_of c.self.inside.specs c.self.inside.rules c.self.inside.round c.self.inside.standing c.self.inside.moved c.self.inside.closed in
    ap (λ (t : State). opening_refusal t c.args.bid.now c.args.spec.now c.args.amount) (sym c.self.view_is) ∙ opening-closed s c.args.bid.now c.args.spec.now c.args.amount c.if-self.true

pub returns-in_default-clause-place : goal.returns-in_default-clause-place
returns-in_default-clause-place c =
    let s = state_of c.self.inside.specs c.self.inside.rules c.self.inside.round c.self.inside.standing c.self.inside.moved c.self.inside.closed in
    let none = ap (λ (n : List ℕ). place_of n (spec_names c.self.inside.specs)) (sym c.text.ensures.text) ∙ sym c.in_default.ensures.place in
    ap (λ (t : State). opening_refusal t c.args.bid.now c.args.spec.now c.args.amount) (sym c.self.view_is) ∙ opening-no_spec s c.args.bid.now c.args.spec.now c.args.amount c.if-self.false none

pub returns-then-is_some-clause-place : goal.returns-then-is_some-clause-place
returns-then-is_some-clause-place c =
    let s = state_of c.self.inside.specs c.self.inside.rules c.self.inside.round c.self.inside.standing c.self.inside.moved c.self.inside.closed in
    let known = ap (λ (n : List ℕ). place_of n (spec_names c.self.inside.specs)) (sym c.text.ensures.text) ∙ sym c.in-Some.ensures.place in
    let taken = ap is_some (ap (λ (n : List ℕ). place_of n (standing_names c.self.inside.standing)) (sym c.text-2.ensures.text) ∙ sym c.place-2.ensures.place) ∙ sym c.is_some.ensures ∙ c.if-is_some.true in
    let spec = some_at c.self.inside.specs c.in-Some.place c.in-Some.ensures.within in
    ap (λ (t : State). opening_refusal t c.args.bid.now c.args.spec.now c.args.amount) (sym c.self.view_is)
    ∙ opening-tested s c.args.bid.now c.args.spec.now c.args.amount c.in-Some.place spec.0 c.if-self.false known spec.1
    ∙ (λ j. first_of ((taken j, A2) ∷ (int_lt c.args.amount spec.0.money.base, A3) ∷ (is_full c.self.inside.standing, A10) ∷ []))

pub returns-then-amount-at-clause-place : goal.returns-then-amount-at-clause-place
returns-then-amount-at-clause-place c =
    let s = state_of c.self.inside.specs c.self.inside.rules c.self.inside.round c.self.inside.standing c.self.inside.moved c.self.inside.closed in
    let known = ap (λ (n : List ℕ). place_of n (spec_names c.self.inside.specs)) (sym c.text.ensures.text) ∙ sym c.in-Some.ensures.place in
    let free = ap is_some (ap (λ (n : List ℕ). place_of n (standing_names c.self.inside.standing)) (sym c.text-2.ensures.text) ∙ sym c.place-2.ensures.place) ∙ sym c.is_some.ensures ∙ c.if-is_some.false in
    let own : FitsSigned w64 c.args.amount = c.ranges.amount in
    let other : FitsSigned w64 c.at.result.now.money.base = search rules in
    let low = simp to_z-of_z at c.if-amount-at.true in
    ap (λ (t : State). opening_refusal t c.args.bid.now c.args.spec.now c.args.amount) (sym c.self.view_is)
    ∙ opening-tested s c.args.bid.now c.args.spec.now c.args.amount c.in-Some.place c.at.result.now c.if-self.false known c.at.ensures
    ∙ (λ j. first_of ((free j, A2) ∷ (low j, A3) ∷ (is_full c.self.inside.standing, A10) ∷ []))

pub returns-then-len-ge-MOST_STANDING-clause-place : goal.returns-then-len-ge-MOST_STANDING-clause-place
returns-then-len-ge-MOST_STANDING-clause-place c =
    let s = state_of c.self.inside.specs c.self.inside.rules c.self.inside.round c.self.inside.standing c.self.inside.moved c.self.inside.closed in
    let known = ap (λ (n : List ℕ). place_of n (spec_names c.self.inside.specs)) (sym c.text.ensures.text) ∙ sym c.in-Some.ensures.place in
    let free = ap is_some (ap (λ (n : List ℕ). place_of n (standing_names c.self.inside.standing)) (sym c.text-2.ensures.text) ∙ sym c.place-2.ensures.place) ∙ sym c.is_some.ensures ∙ c.if-is_some.false in
    let own : FitsSigned w64 c.args.amount = c.ranges.amount in
    let other : FitsSigned w64 c.at.result.now.money.base = search rules in
    let high = simp to_z-of_z at c.if-amount-at.false in
    let full = le-leb 500 (length c.self.inside.standing) (omega (arith, c.len.ensures.len, c.if-len-ge-MOST_STANDING.true)) in
    ap (λ (t : State). opening_refusal t c.args.bid.now c.args.spec.now c.args.amount) (sym c.self.view_is)
    ∙ opening-tested s c.args.bid.now c.args.spec.now c.args.amount c.in-Some.place c.at.result.now c.if-self.false known c.at.ensures
    ∙ (λ j. first_of ((free j, A2) ∷ (high j, A3) ∷ (full j, A10) ∷ []))

pub returns-clause-place : goal.returns-clause-place
returns-clause-place c =
    let s = state_of c.self.inside.specs c.self.inside.rules c.self.inside.round c.self.inside.standing c.self.inside.moved c.self.inside.closed in
    let known = ap (λ (n : List ℕ). place_of n (spec_names c.self.inside.specs)) (sym c.text.ensures.text) ∙ sym c.in-Some.ensures.place in
    let free = ap is_some (ap (λ (n : List ℕ). place_of n (standing_names c.self.inside.standing)) (sym c.text-2.ensures.text) ∙ sym c.place-2.ensures.place) ∙ sym c.is_some.ensures ∙ c.if-is_some.false in
    let own : FitsSigned w64 c.args.amount = c.ranges.amount in
    let other : FitsSigned w64 c.at.result.now.money.base = search rules in
    let high = simp to_z-of_z at c.if-amount-at.false in
    let full = lt-leb 500 (length c.self.inside.standing) (omega (arith, c.len.ensures.len, c.if-len-ge-MOST_STANDING.false)) in (
      ap (λ (t : State). opening_refusal t c.args.bid.now c.args.spec.now c.args.amount) (sym c.self.view_is)
          ∙ opening-tested s c.args.bid.now c.args.spec.now c.args.amount c.in-Some.place c.at.result.now c.if-self.false known c.at.ensures
          ∙ (λ j. first_of ((free j, A2) ∷ (high j, A3) ∷ (full j, A10) ∷ [])),
      ap (λ (t : State). spec_named t c.args.spec.now) (sym c.self.view_is) ∙ known,
    )
