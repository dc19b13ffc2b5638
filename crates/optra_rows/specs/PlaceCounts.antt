-- Rows in order by several numbers, and how many of them there are where each has a place.
use Rattle.std.proofs.Common.{◌≡◌, ℕ, zero, suc, ◌<◌, ◌≤◌, ◌⊎◌, inl, inr, List, length, get_or, refl, sym, ◌∙◌, ap, arith}
use Rattle.std.proofs.lemmas.Bool.{cases_lt}
use Rattle.std.proofs.lemmas.List.Elements.{All-get_or}
use Rattle.std.specs.Prelude.{All}
use Rattle.std.specs.List.{AllPairs}
use Rattle.std.specs.Cmp.{nat_cmp_is}
use Rattle.std.specs.Ordering.{nat_cmp, ordering_then}
use Rattle.std.specs.declared.cmp.Ordering.{Ordering}
use Rattle.std.specs.declared.cmp.Ordering.TheVariants.{Less, Equal, Greater}

-- ---- order by several numbers

equal_parts : (x y : ℕ) (o : Ordering) → x ≡ y → ordering_then (nat_cmp x y) o ≡ Less → o ≡ Less
equal_parts x y o e less = sym (ap (λ c. ordering_then c o) (sym (nat_cmp_is x y Equal e))) ∙ less

greater_parts : (x y : ℕ) (o : Ordering) → y < x → ordering_then (nat_cmp x y) o ≡ Less → ⊥
greater_parts x y o l less =
    let bad : Greater ≡ Less = sym (ap (λ c. ordering_then c o) (sym (nat_cmp_is x y Greater l))) ∙ less in absurd (cc bad)

-- the first numbers are in order, or they are the same and the rest is
pub less_parts : (x y : ℕ) (o : Ordering) → ordering_then (nat_cmp x y) o ≡ Less → (x < y) ⊎ ((x ≡ y) × (o ≡ Less))
less_parts x y o less = elim (cases_lt x y) [
  | inl lt ↦ inl lt
  | inr ge ↦ elim (cases_lt y x) [
    | inl gt ↦ absurd (greater_parts x y o gt less)
    | inr le ↦ let same : x ≡ y = omega arith in inr (same, equal_parts x y o same less)
  ]
]

pub last_part : (x y : ℕ) → nat_cmp x y ≡ Less → x < y
last_part x y less = elim (less_parts x y Less (ap (λ c. ordering_then c Less) less)) [
  | inl lt ↦ lt
  | inr same ↦ let bad : Equal ≡ Less = nat_cmp_is x y Equal same.0 ∙ less in absurd (cc bad)
]

-- ---- so many places, so many rows

module _ {R : Type 0} (cmp : R → R → Ordering) (place : R → ℕ) (IsSmall : R → Type 0)
    (rise : (a b : R) → IsSmall a → IsSmall b → cmp a b ≡ Less → place a < place b)
    (rows : List R) (ascend : AllPairs (λ a b. cmp a b ≡ Less) rows) (small : All IsSmall rows) where
  -- the row at a position of an ascending list has at least that place
  places_from : (d : R) (i : ℕ) → i < length rows → i ≤ place (get_or rows i d)
  places_from d zero within = omega arith
  places_from d (suc i) within =
      let before = places_from d i (omega (arith, within)) in
      let step = rise (get_or rows i d) (get_or rows (suc i) d) (All-get_or IsSmall rows i d (omega (arith, within)) small) (All-get_or IsSmall rows (suc i) d within small) (ascend i (suc i) d (omega arith) within) in
      omega (arith, before, step)

  -- an ascending list of rows whose places are below a number is no longer than it
  pub few_by_places : (d : R) (most : ℕ) → ((row : R) → IsSmall row → place row < most) → length rows ≤ most
  few_by_places d most below = go (length rows) refl
    where
      go : (n : ℕ) → length rows ≡ n → length rows ≤ most
      go zero e = omega (arith, e)
      go (suc n) e =
          let last = places_from d n (omega (arith, e)) in
          let inside = below (get_or rows n d) (All-get_or IsSmall rows n d (omega (arith, e)) small) in
          omega (arith, e, last, inside)
