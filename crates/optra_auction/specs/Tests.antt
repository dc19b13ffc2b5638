-- The refusals as the code finds them: the tests of the standing bid alone, and the places that are found where nothing refuses.
use Rattle.std.specs.Prelude.{◌≡◌, ℕ, ℤ, List, [], ◌∷◌, Option, None, Some, Result, MatchResult}
use Rattle.optra_network.specs.Refusals.{first_of}
use Rattle.optra_auction.specs.Machine.{Standing, has_acted, is_anothers, is_below, is_below_raise, is_winning}
use Rattle.optra_auction.specs.declared.Refusal.{Refusal}
use Rattle.optra_auction.specs.declared.Refusal.TheVariants.{A3, A5, A6, A7, A8}
use Rattle.optra_auction.specs.declared.Rules.{Rules}

-- the tests of a standing bid by which its own bidder is refused
abbrev pub own_tests : Standing → Option Refusal
own_tests b = first_of ((is_winning b, A7) ∷ (has_acted b, A8) ∷ [])

-- the tests of the standing bid that is to be raised
abbrev pub raise_tests : Rules → List ℕ → ℤ → Standing → Option Refusal
raise_tests rules bidder amount b = first_of ((is_anothers bidder b, A5) ∷ (is_below_raise rules amount b, A6) ∷ (is_winning b, A7) ∷ (has_acted b, A8) ∷ [])

-- the tests of the standing bid that is to be amended
abbrev pub amend_tests : List ℕ → ℤ → Standing → Option Refusal
amend_tests bidder reserve b = first_of ((is_anothers bidder b, A5) ∷ (is_winning b, A7) ∷ (has_acted b, A8) ∷ (is_below reserve b, A3) ∷ [])

-- the tests of the standing bid that is to be withdrawn
abbrev pub withdraw_tests : List ℕ → Standing → Option Refusal
withdraw_tests bidder b = first_of ((is_anothers bidder b, A5) ∷ (is_winning b, A7) ∷ (has_acted b, A8) ∷ [])

-- the place that a name has, where nothing refuses, or the refusal
abbrev pub FindsPlace : Option Refusal → Option ℕ → Result ℕ Refusal → Type 0
FindsPlace refusal place result = MatchResult result (λ found. (refusal ≡ None) × (place ≡ Some found)) (λ why. refusal ≡ Some why)

-- the places that two names have, where nothing refuses, or the refusal
abbrev pub FindsPlaces : Option Refusal → Option ℕ → Option ℕ → Result (ℕ × ℕ) Refusal → Type 0
FindsPlaces refusal first second result = MatchResult result (λ found. (refusal ≡ None) × (first ≡ Some found.0) × (second ≡ Some found.1)) (λ why. refusal ≡ Some why)
