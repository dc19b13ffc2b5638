-- Rows as numbers: numbers of several parts are ordered as their parts are.
use Rattle.std.proofs.Common.{◌≡◌, ℕ, ◌+◌, ◌-◌, ◌*◌, ◌<◌, Bool, true, false, cond, refl, sym, ap, ◌∙◌, arith, inl, inr}
use Rattle.std.specs.Prelude.{Some, None}
use Rattle.std.specs.Cmp.{nat_cmp_is}
use Rattle.std.specs.Ordering.{nat_cmp, ordering_then}
use Rattle.std.specs.declared.cmp.Ordering.{Ordering}
use Rattle.std.specs.declared.cmp.Ordering.TheVariants.{Less, Equal, Greater}
use Rattle.std.proofs.lemmas.Option.{none-some, same_Some}
use Rattle.std.proofs.lemmas.Bool.{cases_order}

-- a number with a higher first part is the greater one
less_parts : (base x y x' y' : ℕ) → y < base → x < x' → x * base + y < x' * base + y'
less_parts base x y x' y' small up =
    let more : x' ≡ x + 1 + (x' - x - 1) = omega arith in
    let product : x' * base ≡ x * base + base + (x' - x - 1) * base = ap (λ (n : ℕ). n * base) more ∙ spread x (x' - x - 1) in
    omega arith
  where
    spread : (n d : ℕ) → (n + 1 + d) * base ≡ n * base + base + d * base
    spread n d = grind arith

-- numbers of two parts are ordered by the first and then by the second
pub parts_cmp : (base x y x' y' : ℕ) → y < base → y' < base → nat_cmp (x * base + y) (x' * base + y') ≡ ordering_then (nat_cmp x x') (nat_cmp y y')
parts_cmp base x y x' y' small small' = elim (cases_order x x') as (λ _. nat_cmp (x * base + y) (x' * base + y') ≡ ordering_then (nat_cmp x x') (nat_cmp y y')) [
  | inl same ↦ parts_same same
  | inr (inl up) ↦ sym (nat_cmp_is (x * base + y) (x' * base + y') Less (less_parts base x y x' y' small up)) ∙ ap (λ (c : Ordering). ordering_then c (nat_cmp y y')) (nat_cmp_is x x' Less up)
  | inr (inr down) ↦ sym (nat_cmp_is (x * base + y) (x' * base + y') Greater (less_parts base x' y' x y small' down)) ∙ ap (λ (c : Ordering). ordering_then c (nat_cmp y y')) (nat_cmp_is x x' Greater down)
]
  where
    parts_same : x ≡ x' → nat_cmp (x * base + y) (x' * base + y') ≡ ordering_then (nat_cmp x x') (nat_cmp y y')
    parts_same same =
        let sums : x * base ≡ x' * base = ap (λ (n : ℕ). n * base) same in
        let rest = ap (λ (c : Ordering). ordering_then c (nat_cmp y y')) (nat_cmp_is x x' Equal same) in
        elim (cases_order y y') as (λ _. nat_cmp (x * base + y) (x' * base + y') ≡ ordering_then (nat_cmp x x') (nat_cmp y y')) [
          | inl equal ↦ sym (nat_cmp_is (x * base + y) (x' * base + y') Equal (omega arith)) ∙ nat_cmp_is y y' Equal equal ∙ rest
          | inr (inl up) ↦ sym (nat_cmp_is (x * base + y) (x' * base + y') Less (omega arith)) ∙ nat_cmp_is y y' Less up ∙ rest
          | inr (inr down) ↦ sym (nat_cmp_is (x * base + y) (x' * base + y') Greater (omega arith)) ∙ nat_cmp_is y y' Greater down ∙ rest
        ]

-- a number that is there where a test holds
pub some_parts : (test : Bool) (n code : ℕ) → cond test (Some n) None ≡ Some code → (test ≡ true) × (n ≡ code)
some_parts true n code is = (refl, same_Some n code is)
some_parts false n code is = absurd (none-some code is)

-- an order by three parts
pub then_then : (x y z : Ordering) → ordering_then (ordering_then x y) z ≡ ordering_then x (ordering_then y z)
then_then Less y z = refl
then_then Equal y z = refl
then_then Greater y z = refl

pub then_equal : (x : Ordering) → ordering_then x Equal ≡ x
then_equal Less = refl
then_equal Equal = refl
then_equal Greater = refl

-- numbers that are multiplied or moved alike keep their order
pub scaled_cmp : (base x y : ℕ) → 0 < base → nat_cmp (x * base) (y * base) ≡ nat_cmp x y
scaled_cmp base x y some =
    let none : (n : ℕ) → n * base ≡ n * base + 0 = λ n. omega arith in
    ap (λ (n : ℕ). nat_cmp n (y * base)) (none x) ∙ ap (nat_cmp (x * base + 0)) (none y) ∙ parts_cmp base x 0 y 0 some some ∙ then_equal (nat_cmp x y)

pub moved_cmp : (by x y : ℕ) → nat_cmp (by + x) (by + y) ≡ nat_cmp x y
moved_cmp by x y = elim (cases_order x y) as (λ _. nat_cmp (by + x) (by + y) ≡ nat_cmp x y) [
  | inl same ↦ sym (nat_cmp_is (by + x) (by + y) Equal (omega arith)) ∙ nat_cmp_is x y Equal same
  | inr (inl up) ↦ sym (nat_cmp_is (by + x) (by + y) Less (omega arith)) ∙ nat_cmp_is x y Less up
  | inr (inr down) ↦ sym (nat_cmp_is (by + x) (by + y) Greater (omega arith)) ∙ nat_cmp_is x y Greater down
]
