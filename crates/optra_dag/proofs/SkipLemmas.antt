-- What stays of the first best path when arcs close and weights fall.
use Rattle.std.proofs.Common.{◌≡◌, ℕ, Bool, true, List, [], ◌∷◌, refl, ◌∙◌, arith, ℤ, pos, ◌+ℤ◌, ◌≤ℤ◌}
use Rattle.std.proofs.lemmas.Int.{ints}
use Rattle.std.proofs.lemmas.List.Elements.{All-head, All-tail}
use Rattle.optra_dag.specs.Paths.{Graph, IsPath, IsFirstBest, LeadsToEnd, to_of, weight_of}
use Rattle.optra_dag.specs.Skips.{OnlyFalls, IsKept, StaysFirstBest, StaysWorthless, StaysClosed}

le_both : (a b c d : ℤ) → a ≤ℤ b → c ≤ℤ d → (a +ℤ c) ≤ℤ (b +ℤ d)
le_both a b c d h l = omega (arith, ints)

le_then : (a b c : ℤ) → a ≤ℤ b → b ≤ℤ c → a ≤ℤ c
le_then a b c h l = omega (arith, ints)

le_zero : pos 0 ≤ℤ pos 0
le_zero = omega (arith, ints)

both_ways : (a b c : ℤ) → a ≤ℤ b → b ≤ℤ c → a ≡ c → b ≡ c
both_ways a b c h l e = omega (arith, ints)

module _ (g : Graph) (allows : ℕ → Bool) (weight : ℕ → ℤ) (allows' : ℕ → Bool) (weight' : ℕ → ℤ) (falls : OnlyFalls g allows weight allows' weight') where
  led : (n : ℕ) (p : List ℕ) → LeadsToEnd g allows' n p → LeadsToEnd g allows n p
  led n [] h = h
  led n (k ∷ p) h = (h.0, (falls k h.0 h.1).0, h.2, led (to_of g k) p h.3)

  pub was_path : (p : List ℕ) → IsPath g allows' p → IsPath g allows p
  was_path p h = record { some = h.some; leads = led 0 p h.leads }

  leads_still : (n : ℕ) (p : List ℕ) → LeadsToEnd g allows n p → IsKept weight allows' weight' p → LeadsToEnd g allows' n p
  leads_still n [] h kept = h
  leads_still n (k ∷ p) h kept = (h.0, (All-head (λ j. (allows' j ≡ true) × (weight' j ≡ weight j)) k p kept).0, h.2, leads_still (to_of g k) p h.3 (All-tail (λ j. (allows' j ≡ true) × (weight' j ≡ weight j)) k p kept))

  weighs_still : (p : List ℕ) → IsKept weight allows' weight' p → weight_of weight' p ≡ weight_of weight p
  weighs_still [] kept = refl
  weighs_still (k ∷ p) kept = let e = (All-head (λ j. (allows' j ≡ true) × (weight' j ≡ weight j)) k p kept).1 in let f = weighs_still p (All-tail (λ j. (allows' j ≡ true) × (weight' j ≡ weight j)) k p kept) in cc

  fell : (n : ℕ) (p : List ℕ) → LeadsToEnd g allows' n p → weight_of weight' p ≤ℤ weight_of weight p
  fell n [] h = le_zero
  fell n (k ∷ p) h = le_both _ _ _ _ (falls k h.0 h.1).1 (fell (to_of g k) p h.3)

  pub best_still : (sum : ℤ) (path : List ℕ) → IsKept weight allows' weight' path → IsFirstBest g allows weight sum path → IsFirstBest g allows' weight' sum path
  best_still sum path kept h = record {
    path = record { some = h.path.some; leads = leads_still 0 path h.path.leads kept };
    sum = weighs_still path kept ∙ h.sum;
    greatest = λ q w. le_then _ _ _ (fell 0 q w.leads) (h.greatest q (was_path q w));
    first = λ q w e. h.first q (was_path q w) (both_ways _ _ _ (fell 0 q w.leads) (h.greatest q (was_path q w)) e);
  }

  pub worthless_still : ((path : List ℕ) → IsPath g allows path → weight_of weight path ≤ℤ pos 0) → (path : List ℕ) → IsPath g allows' path → weight_of weight' path ≤ℤ pos 0
  worthless_still none q w = le_then _ _ _ (fell 0 q w.leads) (none q (was_path q w))

pub stays_first_best : StaysFirstBest
stays_first_best g allows weight allows' weight' sum path falls kept h = best_still g allows weight allows' weight' falls sum path kept h

pub stays_worthless : StaysWorthless
stays_worthless g allows weight allows' weight' falls none path h = worthless_still g allows weight allows' weight' falls none path h

pub stays_closed : StaysClosed
stays_closed g allows weight allows' weight' falls none path h = none path (was_path g allows weight allows' weight' falls path h)
