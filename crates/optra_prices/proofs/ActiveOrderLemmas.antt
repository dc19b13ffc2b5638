-- Active rows in another order.
use Rattle.std.proofs.Common.{◌≡◌, ◌≢◌, ℕ, zero, suc, ◌<◌, ◌⊎◌, Vec, Global, Bool, true, false, List, [], ◌∷◌, length, refl, sym, ap, ◌∙◌, subst, arith, inl, inr}
use Rattle.std.specs.Prelude.{All, Contains, eqb, slice_index}
use Rattle.std.specs.List.{AllByRecursion, IsDistinct}
use Rattle.std.specs.List.Sorted.{IsPermutation}
use Rattle.std.proofs.lemmas.Bool.{cases_eq, ne_eqb, eq-eqb}
use Rattle.std.proofs.lemmas.List.Sorted.{All-permutation, Contains-permutation}
use Rattle.std.proofs.lemmas.Map.Keys.{IsDistinct-IsPermutation}
use Rattle.optra_prices.specs.Levels.{IsLevels, IsIdle, StandOnce, is_listed}
use Rattle.optra_prices.specs.declared.levels.Levels.{Levels}

flips : (x y : ℕ) → eqb x y ≡ eqb y x
flips x y = elim (cases_eq x y) as (λ _. eqb x y ≡ eqb y x) [
  | inl e ↦ eq-eqb x y e ∙ sym (eq-eqb y x (sym e))
  | inr apart ↦ ne_eqb x y apart ∙ sym (ne_eqb y x (λ e. apart (sym e)))
]

-- ---- numbers none of which stands twice
others : (x : ℕ) (xs : List ℕ) → ((j : ℕ) → j < length xs → x ≢ slice_index xs j) → AllByRecursion (λ y. eqb x y ≡ false) xs
others x [] apart = tt
others x (y ∷ xs) apart = (ne_eqb x y (apart 0 (omega arith)), others x xs (λ j l. apart (suc j) (omega arith)))

distinct : (xs : List ℕ) → StandOnce xs → IsDistinct eqb xs
unfolding IsDistinct
distinct [] once = tt
distinct (x ∷ xs) once = (others x xs (λ j l. once 0 (suc j) (omega arith) (omega arith)), distinct xs (λ i j l m. once (suc i) (suc j) (omega arith) (omega arith)))

other_at : (x : ℕ) (xs : List ℕ) (j : ℕ) → AllByRecursion (λ y. eqb x y ≡ false) xs → j < length xs → x ≢ slice_index xs j
other_at x [] j all l e = absurd (omega arith)
other_at x (y ∷ xs) zero all l e = let f : true ≡ false = sym (eq-eqb x y e) ∙ all.0 in cc
other_at x (y ∷ xs) (suc j) all l e = other_at x xs j all.1 (omega arith) e

once : (xs : List ℕ) → IsDistinct eqb xs → StandOnce xs
unfolding IsDistinct
once [] apart i j l m e = absurd (omega arith)
once (x ∷ xs) apart zero zero l m e = absurd (omega arith)
once (x ∷ xs) apart zero (suc j) l m e = other_at x xs j apart.0 (omega arith) e
once (x ∷ xs) apart (suc i) zero l m e = absurd (omega arith)
once (x ∷ xs) apart (suc i) (suc j) l m e = once xs apart.1 i j (omega arith) (omega arith) e

-- rows and their prices are as they were where the active rows change places
pub levels_ordered : (old : Levels) (active : Vec ℕ Global) → IsLevels old → IsPermutation old.active.items active.items → IsLevels (record old { active = active })
levels_ordered old active is moved = record {
  use_count = is.use_count;
  capacity_count = is.capacity_count;
  mark_count = is.mark_count;
  range = is.range;
  small = is.small;
  capacity_is = is.capacity_is;
  within = All-permutation (λ (n : ℕ). n < length old.prices.items) old.active.items active.items moved is.within;
  once = once active.items (IsDistinct-IsPermutation eqb flips old.active.items active.items moved (distinct old.active.items is.once));
  marked = All-permutation (λ (n : ℕ). is_listed old n ≡ true) old.active.items active.items moved is.marked;
  found = λ n listed. Contains-permutation old.active.items active.items n moved (is.found n listed);
  covers = λ n l. elim (is.covers n l) as (λ _. IsIdle old n ⊎ Contains active.items n) [
    | inl idle ↦ inl idle
    | inr has ↦ inr (Contains-permutation old.active.items active.items n moved has)
  ];
}
