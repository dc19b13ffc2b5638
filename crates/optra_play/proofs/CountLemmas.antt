-- Elements with no two the same, each of them one of a list, are at most as many as the list has.
use Rattle.std.proofs.Common.{◌≡◌, ◌≢◌, ◌⊎◌, inl, inr, ℕ, suc, ◌≤◌, ◌<◌, Bool, true, false, eqb, List, [], ◌∷◌, length, get_or, ◌||◌, refl, sym, ap, ◌∙◌, subst, arith}
use Rattle.std.specs.Prelude.{All, Contains}
use Rattle.std.specs.List.{AllByRecursion, IsDistinct, list_any}
use Rattle.std.proofs.lemmas.List.{get_or_default}
use Rattle.std.proofs.lemmas.List.Elements.{recursion_from_All}
use Rattle.std.proofs.lemmas.Bool.Decides.{eqb_tells}
use Rattle.std.proofs.lemmas.Map.Steps.{length-le_from_distinct_below}
use Rattle.optra_network.specs.Names.{AllDiffer}

module _ {X : Type 0} (ys : List X) where
  -- the places at which the elements stand
  abbrev places : (xs : List X) → AllByRecursion (Contains ys) xs → List ℕ
  places [] h = []
  places (x ∷ xs) h = h.0.0 ∷ places xs h.1

  length-places : (xs : List X) (h : AllByRecursion (Contains ys) xs) → length (places xs h) ≡ length xs
  length-places [] h = refl
  length-places (x ∷ xs) h = ap suc (length-places xs h.1)

  -- two that aren't the same stand at two places
  two_places : (x z : X) (a : Contains ys x) (b : Contains ys z) → x ≢ z → eqb a.0 b.0 ≡ false
  two_places x z a b differ = by (eqb_tells a.0 b.0)
    where
      by : ((eqb a.0 b.0 ≡ true) × (a.0 ≡ b.0)) ⊎ ((eqb a.0 b.0 ≡ false) × (a.0 ≢ b.0)) → eqb a.0 b.0 ≡ false
      by (inl same) = absurd (differ (sym a.2 ∙ ap (λ (k : ℕ). get_or ys k x) same.1 ∙ get_or_default ys b.0 x z b.1 ∙ b.2))
      by (inr apart) = apart.0

  apart : (x : X) (a : Contains ys x) (xs : List X) (h : AllByRecursion (Contains ys) xs) → AllByRecursion (λ z. x ≢ z) xs → AllByRecursion (λ (k : ℕ). eqb a.0 k ≡ false) (places xs h)
  apart x a [] h differ = tt
  apart x a (z ∷ xs) h differ = (two_places x z a h.0 differ.0, apart x a xs h.1 differ.1)

  distinct : (xs : List X) (h : AllByRecursion (Contains ys) xs) → AllDiffer xs → IsDistinct eqb (places xs h)
  unfolding IsDistinct
  distinct [] h differ = tt
  distinct (x ∷ xs) h differ =
      let others : All (λ z. x ≢ z) xs = λ k d within. differ 0 (suc k) d (omega arith) (omega arith) in
      let rest : AllDiffer xs = λ i j d below within. differ (suc i) (suc j) d (omega arith) (omega arith) in (
        apart x h.0 xs h.1 (recursion_from_All (λ z. x ≢ z) xs others),
        distinct xs h.1 rest,
      )

  below : (xs : List X) (h : AllByRecursion (Contains ys) xs) (q : ℕ) → list_any (eqb q) (places xs h) ≡ true → q < length ys
  below [] h q e = absurd (cc)
  below (x ∷ xs) h q e = by (eqb_tells q h.0.0) (below xs h.1 q)
    where
      by : ((eqb q h.0.0 ≡ true) × (q ≡ h.0.0)) ⊎ ((eqb q h.0.0 ≡ false) × (q ≢ h.0.0)) → (list_any (eqb q) (places xs h.1) ≡ true → q < length ys) → q < length ys
      by (inl same) rest = subst (λ (k : ℕ). k < length ys) (sym same.1) h.0.1
      by (inr other) rest = rest (ap (λ (b : Bool). b || list_any (eqb q) (places xs h.1)) (sym other.0) ∙ e)

pub length-le_from_among : {X : Type 0} (xs ys : List X) → AllDiffer xs → All (Contains ys) xs → length xs ≤ length ys
length-le_from_among xs ys differ among =
    let h = recursion_from_All (Contains ys) xs among in
    let few = length-le_from_distinct_below (places ys xs h) (length ys) (distinct ys xs h differ) (below ys xs h) in
    let long = length-places ys xs h in
    omega (arith, few, long)
