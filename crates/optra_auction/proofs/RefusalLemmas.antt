-- The tables of refusals, test by test.
use Rattle.std.proofs.Common.{◌≡◌, ℕ, Bool, true, false, List, [], ◌∷◌, ◌∙◌, slice_get, Option, Some, None, is_some, is_none, ap, ℤ, pos}
use Rattle.std.specs.Prelude.{int_lt}
use Rattle.std.specs.Option.{option_and_then, option_map_or}
use Rattle.optra_network.specs.Refusals.{first_of}
use Rattle.optra_bid.specs.declared.bids.Bid.{Bid}
use Rattle.optra_auction.specs.declared.Refusal.{Refusal}
use Rattle.optra_auction.specs.declared.Refusal.TheVariants.{A1, A2, A3, A4, A5, A6, A7, A8, A9, A10}
use Rattle.optra_auction.specs.declared.Rules.{Rules}
use Rattle.optra_auction.specs.Tests.{amend_tests, raise_tests, withdraw_tests}
use Rattle.optra_auction.specs.Machine.{Standing, State, amend_refusal, has_acted, is_anothers, is_below, is_below_raise, is_full, is_winning, opening_refusal, place_named, raise_refusal, reserve_at, reserve_named, spec_named, standing_named, withdraw_refusal}

-- the standing bid of a name that has a place
pub standing-named : (s : State) (bid : List ℕ) (i : ℕ) (b : Standing) → place_named s bid ≡ Some i → slice_get s.standing i ≡ Some b → standing_named s bid ≡ Some b
standing-named s bid i b place at = ap (option_and_then (slice_get s.standing)) place ∙ at

-- the reserve of a specification that has a place
reserve-named : (s : State) (spec : List ℕ) (i : ℕ) (bid : Bid) → spec_named s spec ≡ Some i → slice_get s.specs i ≡ Some bid → reserve_named s spec ≡ bid.money.base
reserve-named s spec i bid place at = ap (λ (o : Option ℕ). option_map_or (reserve_at s.specs) o (pos 0)) place ∙ ap (λ (o : Option Bid). option_map_or (λ (x : Bid). x.money.base) o (pos 0)) at

-- ---- a raise

abbrev raise_by : Rules → List ℕ → ℤ → Bool → Option ℕ → Option Standing → Option Refusal
raise_by rules bidder amount closed place b =
    first_of (
    (closed, A9)
    ∷ (is_none place, A4)
    ∷ (option_map_or (is_anothers bidder) b false, A5)
    ∷ (option_map_or (is_below_raise rules amount) b false, A6)
    ∷ (option_map_or is_winning b false, A7)
    ∷ (option_map_or has_acted b false, A8)
    ∷ [])

module _ (s : State) (bidder bid : List ℕ) (amount : ℤ) where
  pub raise-closed : s.closed ≡ true → raise_refusal s bidder bid amount ≡ Some A9
  unfolding raise_refusal
  raise-closed closed = ap (λ (c : Bool). raise_by s.rules bidder amount c (place_named s bid) (standing_named s bid)) closed

  pub raise-unknown : s.closed ≡ false → place_named s bid ≡ None → raise_refusal s bidder bid amount ≡ Some A4
  unfolding raise_refusal
  raise-unknown up none = λ j. raise_by s.rules bidder amount (up j) (none j) (standing_named s bid)

  pub raise-tested : (i : ℕ) (b : Standing) → s.closed ≡ false → place_named s bid ≡ Some i → slice_get s.standing i ≡ Some b
      → raise_refusal s bidder bid amount ≡ raise_tests s.rules bidder amount b
  unfolding raise_refusal
  raise-tested i b up place at = λ j. raise_by s.rules bidder amount (up j) (place j) (standing-named s bid i b place at j)

-- ---- a withdrawal

abbrev withdraw_by : List ℕ → Bool → Option ℕ → Option Standing → Option Refusal
withdraw_by bidder closed place b =
    first_of (
    (closed, A9)
    ∷ (is_none place, A4)
    ∷ (option_map_or (is_anothers bidder) b false, A5)
    ∷ (option_map_or is_winning b false, A7)
    ∷ (option_map_or has_acted b false, A8)
    ∷ [])

module _ (s : State) (bidder bid : List ℕ) where
  pub withdraw-closed : s.closed ≡ true → withdraw_refusal s bidder bid ≡ Some A9
  unfolding withdraw_refusal
  withdraw-closed closed = ap (λ (c : Bool). withdraw_by bidder c (place_named s bid) (standing_named s bid)) closed

  pub withdraw-unknown : s.closed ≡ false → place_named s bid ≡ None → withdraw_refusal s bidder bid ≡ Some A4
  unfolding withdraw_refusal
  withdraw-unknown up none = λ j. withdraw_by bidder (up j) (none j) (standing_named s bid)

  pub withdraw-tested : (i : ℕ) (b : Standing) → s.closed ≡ false → place_named s bid ≡ Some i → slice_get s.standing i ≡ Some b
      → withdraw_refusal s bidder bid ≡ withdraw_tests bidder b
  unfolding withdraw_refusal
  withdraw-tested i b up place at = λ j. withdraw_by bidder (up j) (place j) (standing-named s bid i b place at j)

-- ---- an amendment

abbrev amend_by : List ℕ → Bool → Option ℕ → ℤ → Option ℕ → Option Standing → Option Refusal
amend_by bidder closed spec reserve place b =
    first_of (
    (closed, A9)
    ∷ (is_none spec, A1)
    ∷ (is_none place, A4)
    ∷ (option_map_or (is_anothers bidder) b false, A5)
    ∷ (option_map_or is_winning b false, A7)
    ∷ (option_map_or has_acted b false, A8)
    ∷ (option_map_or (is_below reserve) b false, A3)
    ∷ [])

module _ (s : State) (bidder bid spec : List ℕ) where
  pub amend-closed : s.closed ≡ true → amend_refusal s bidder bid spec ≡ Some A9
  unfolding amend_refusal
  amend-closed closed = ap (λ (c : Bool). amend_by bidder c (spec_named s spec) (reserve_named s spec) (place_named s bid) (standing_named s bid)) closed

  pub amend-no_spec : s.closed ≡ false → spec_named s spec ≡ None → amend_refusal s bidder bid spec ≡ Some A1
  unfolding amend_refusal
  amend-no_spec up none = λ j. amend_by bidder (up j) (none j) (reserve_named s spec) (place_named s bid) (standing_named s bid)

  pub amend-unknown : (k : ℕ) → s.closed ≡ false → spec_named s spec ≡ Some k → place_named s bid ≡ None → amend_refusal s bidder bid spec ≡ Some A4
  unfolding amend_refusal
  amend-unknown k up known none = λ j. amend_by bidder (up j) (known j) (reserve_named s spec) (none j) (standing_named s bid)

  pub amend-tested : (k i : ℕ) (to : Bid) (b : Standing) → s.closed ≡ false → spec_named s spec ≡ Some k → slice_get s.specs k ≡ Some to → place_named s bid ≡ Some i → slice_get s.standing i ≡ Some b
      → amend_refusal s bidder bid spec ≡ amend_tests bidder to.money.base b
  unfolding amend_refusal
  amend-tested k i to b up known there place at = λ j. amend_by bidder (up j) (known j) (reserve-named s spec k to known there j) (place j) (standing-named s bid i b place at j)

-- ---- an opening

abbrev opening_by : ℤ → Bool → Option ℕ → Option ℕ → ℤ → Bool → Option Refusal
opening_by amount closed spec place reserve full =
    first_of ((closed, A9) ∷ (is_none spec, A1) ∷ (is_some place, A2) ∷ (int_lt amount reserve, A3) ∷ (full, A10) ∷ [])

module _ (s : State) (bid spec : List ℕ) (amount : ℤ) where
  pub opening-closed : s.closed ≡ true → opening_refusal s bid spec amount ≡ Some A9
  unfolding opening_refusal
  opening-closed closed = ap (λ (c : Bool). opening_by amount c (spec_named s spec) (place_named s bid) (reserve_named s spec) (is_full s.standing)) closed

  pub opening-no_spec : s.closed ≡ false → spec_named s spec ≡ None → opening_refusal s bid spec amount ≡ Some A1
  unfolding opening_refusal
  opening-no_spec up none = λ j. opening_by amount (up j) (none j) (place_named s bid) (reserve_named s spec) (is_full s.standing)

  pub opening-tested : (k : ℕ) (to : Bid) → s.closed ≡ false → spec_named s spec ≡ Some k → slice_get s.specs k ≡ Some to
      → opening_refusal s bid spec amount ≡ first_of ((is_some (place_named s bid), A2) ∷ (int_lt amount to.money.base, A3) ∷ (is_full s.standing, A10) ∷ [])
  unfolding opening_refusal
  opening-tested k to up known there = λ j. opening_by amount (up j) (known j) (place_named s bid) (reserve-named s spec k to known there j) (is_full s.standing)
