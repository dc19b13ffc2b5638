-- Rows that get numbers at no price.
use Rattle.std.proofs.Common.{◌≡◌, ℕ, zero, suc, ◌<◌, ◌≤◌, List, [], ◌∷◌, ◌++◌, length, take, replicate, Some, slice_get, refl, sym, ap, ◌∙◌, arith}
use Rattle.std.specs.Prelude.{ℤ, pos, ◌*ℤ◌, slice_index_or}
use Rattle.std.proofs.lemmas.Int.{ints}
use Rattle.std.proofs.lemmas.Option.{none-some, same_Some, slice_get_within}
use Rattle.optra_node.proofs.SumLemmas.{sum_of-cons}
use Rattle.optra_walk.specs.Families.{Rows}
use Rattle.optra_prices.specs.Courses.{HaveCapacities}
use Rattle.optra_prices.specs.Listings.{AddsZeros}
use Rattle.optra_prices.specs.Tables.{Extends, group_price}
use Rattle.optra_prices.specs.declared.touch.Touch.{Touch}
use Rattle.optra_prices.proofs.ListLemmas.{some_at}
use Rattle.optra_prices.proofs.ValueOfLemmas.{zeros_at}

-- more rows have numbers than had
pub extends_longer : {R : Type 0} (old new : List R) → Extends old new → length old ≤ length new
extends_longer {R} old new extends = by (length old) refl
  where
    by : (n : ℕ) → length old ≡ n → length old ≤ length new
    by zero e = omega arith
    by (suc n) e =
        let last = some_at old n (omega arith) in
        let l = slice_get_within new n last.0 (extends n last.0 last.1) in
        omega arith

take_at : {R : Type 0} (xs : List R) (count n : ℕ) (x : R) → slice_get (take count xs) n ≡ Some x → (n < count) × (slice_get xs n ≡ Some x)
take_at xs zero n x e = absurd (none-some x e)
take_at [] (suc count) n x e = absurd (none-some x e)
take_at (y ∷ xs) (suc count) zero x e = (omega arith, e)
take_at (y ∷ xs) (suc count) (suc n) x e = let i = take_at xs count n x e in let l = i.0 in (omega arith, i.1)

-- the rows that had numbers have their capacities
pub capacities_before : {R : Type 0} (rows : Rows R) (old new : List R) (count : ℕ) (capacities : List ℕ) → count ≡ length old → Extends old new → HaveCapacities rows old capacities → HaveCapacities rows (take count new) capacities
capacities_before rows old new count capacities is extends have n row at =
    let there = take_at new count n row at in
    let l = there.0 in
    let was = some_at old n (omega arith) in
    let same = same_Some was.0 row (sym (extends n was.0 was.1) ∙ there.1) in
    have n row (was.1 ∙ ap Some same)

-- zeros that are added are no prices
zeros_read : (old : List ℤ) (n k : ℕ) → slice_index_or (old ++ replicate n (pos 0)) k (pos 0) ≡ slice_index_or old k (pos 0)
zeros_read [] n k = zeros_at n k
zeros_read (z ∷ old) n zero = refl
zeros_read (z ∷ old) n (suc k) = zeros_read old n k

price_read : (old new : List ℤ) → ((k : ℕ) → slice_index_or new k (pos 0) ≡ slice_index_or old k (pos 0)) → (touches : List Touch) → group_price new touches ≡ group_price old touches
price_read old new same [] = refl
price_read old new same (touch ∷ touches) =
    let a = sum_of-cons (λ (t : Touch). slice_index_or new t.row (pos 0) *ℤ pos t.uses) touch touches in
    let b = sum_of-cons (λ (t : Touch). slice_index_or old t.row (pos 0) *ℤ pos t.uses) touch touches in
    let i = price_read old new same touches in
    let h = ap (λ (z : ℤ). z *ℤ pos touch.uses) (same touch.row) in
    omega (arith, ints)

pub prices_read : (old new : List ℤ) → AddsZeros old new → (touches : List Touch) → group_price new touches ≡ group_price old touches
prices_read old new zeros = price_read old new (λ k. ap (λ (xs : List ℤ). slice_index_or xs k (pos 0)) zeros.1 ∙ zeros_read old zeros.0 k)
