-- A sum over rows with their numbers is the sum over the numbers.
use Rattle.std.proofs.Common.{◌≡◌, ℕ, zero, suc, ◌+◌, ◌≤◌, ◌<◌, Bool, true, false, cond, nat_eq, List, [], ◌∷◌, length, get_or, Some, slice_get, refl, sym, ap, ◌∙◌, subst, arith, inl, inr}
use Rattle.std.specs.Prelude.{All, ℤ, pos, ◌+ℤ◌}
use Rattle.std.specs.List.{AllByRecursion}
use Rattle.std.specs.List.Sorted.{IsStrictlySortedBy}
use Rattle.std.specs.Map.{keys_of}
use Rattle.std.specs.declared.cmp.Ordering.{Ordering}
use Rattle.std.specs.declared.cmp.Ordering.TheVariants.{Less, Equal}
use Rattle.std.specs.Cmp.{IsTotalOrder}
use Rattle.std.proofs.lemmas.Bool.Decides.{eqb_tells}
use Rattle.std.proofs.lemmas.Cmp.{tied_itself}
use Rattle.std.proofs.lemmas.Int.{ints}
use Rattle.std.proofs.lemmas.List.Elements.{All-head, All-tail}
use Rattle.std.proofs.lemmas.Map.Keys.{sorted_head, sorted_tail}
use Rattle.std.proofs.lemmas.Option.{none-some, same_Some}
use Rattle.optra_walk.specs.Families.{TellsApart}
use Rattle.optra_node.specs.Duals.{sum_of}
use Rattle.optra_node.proofs.SumLemmas.{sum_of-cons}
use Rattle.optra_prices.specs.Listings.{sum_below}
use Rattle.optra_prices.specs.Tables.{IsNumbering, AreUp}
use Rattle.optra_prices.proofs.RankLemmas.{up_number}
use Rattle.optra_prices.proofs.ListLemmas.{some_at}

-- ---- sums over numbers
below_add : (f g : ℕ → ℤ) (n : ℕ) → sum_below (λ i. f i +ℤ g i) n ≡ sum_below f n +ℤ sum_below g n
below_add f g zero = omega (arith, ints)
below_add f g (suc n) = let e = below_add f g n in omega (arith, ints)

below_same : (f g : ℕ → ℤ) (n : ℕ) → ((i : ℕ) → i < n → f i ≡ g i) → sum_below f n ≡ sum_below g n
below_same f g zero same = refl
below_same f g (suc n) same =
    let e = below_same f g n (λ i l. same i (omega arith)) in
    let h = same n (omega arith) in
    omega (arith, ints)

below_none : (n : ℕ) → sum_below (λ i. pos 0) n ≡ pos 0
below_none zero = refl
below_none (suc n) = let e = below_none n in omega (arith, ints)

-- f at k alone
abbrev at_alone : (ℕ → ℤ) → ℕ → ℕ → ℤ
at_alone f k i = cond (nat_eq k i) (f i) (pos 0)

alone_past : (f : ℕ → ℤ) (k n : ℕ) → n ≤ k → sum_below (at_alone f k) n ≡ pos 0
alone_past f k zero l = refl
alone_past f k (suc n) l =
    let e = alone_past f k n (omega arith) in
    let z : at_alone f k n ≡ pos 0 = elim (eqb_tells k n) as (λ _. at_alone f k n ≡ pos 0) [
      | inl (test, same) ↦ absurd (omega arith)
      | inr (test, other) ↦ ap (λ (b : Bool). cond b (f n) (pos 0)) test
    ] in
    omega (arith, ints)

alone_below : (f : ℕ → ℤ) (k n : ℕ) → k < n → sum_below (at_alone f k) n ≡ f k
alone_below f k zero l = absurd (omega arith)
alone_below f k (suc n) l = elim (eqb_tells k n) as (λ _. sum_below (at_alone f k) (suc n) ≡ f k) [
  | inl (test, same) ↦
      let e = alone_past f k n (omega arith) in
      let z : at_alone f k n ≡ f n = ap (λ (b : Bool). cond b (f n) (pos 0)) test in
      let h : f n ≡ f k = ap f (sym same) in
      omega (arith, ints)
  | inr (test, other) ↦
      let e = alone_below f k n (omega arith) in
      let z : at_alone f k n ≡ pos 0 = ap (λ (b : Bool). cond b (f n) (pos 0)) test in
      omega (arith, ints)
]

-- ---- how often a number stands
abbrev often : ℕ → ℤ → ℤ
often zero z = pos 0
often (suc k) z = z +ℤ often k z

often_more : (b : Bool) (k : ℕ) (z : ℤ) → often (k + cond b 1 0) z ≡ cond b z (pos 0) +ℤ often k z
often_more true k z = let e : k + 1 ≡ suc k = omega arith in ap (λ (n : ℕ). often n z) e
often_more false k z =
    let e : k + 0 ≡ k = omega arith in
    let same : often (k + 0) z ≡ often k z = ap (λ (n : ℕ). often n z) e in
    same ∙ omega (arith, ints)

often_once : (k : ℕ) (z : ℤ) → k ≡ 1 → often k z ≡ z
often_once k z once = ap (λ (n : ℕ). often n z) once ∙ omega (arith, ints)

abbrev one_at : ℕ → ℕ → ℕ
one_at k i = cond (nat_eq k i) 1 0

abbrev pub times : {R : Type 0} → ℕ → List (R × ℕ) → ℕ
times i [] = 0
times i (e ∷ es) = times i es + one_at e.1 i

-- a sum over entries by how often each number stands
sum_often : {R : Type 0} (f : ℕ → ℤ) (n : ℕ) (es : List (R × ℕ)) → All (λ e. e.1 < n) es → sum_of (λ e. f e.1) es ≡ sum_below (λ i. often (times i es) (f i)) n
sum_often f n [] small = sym (below_none n)
sum_often {R} f n (e ∷ es) small =
    let cons = sum_of-cons (λ (x : R × ℕ). f x.1) e es in
    let rest = sum_often f n es (All-tail (λ (x : R × ℕ). x.1 < n) e es small) in
    let split = below_same (λ (i : ℕ). often (times i (e ∷ es)) (f i)) (λ (i : ℕ). at_alone f e.1 i +ℤ often (times i es) (f i)) n (λ i l. often_more (nat_eq e.1 i) (times i es) (f i)) in
    let add = below_add (at_alone f e.1) (λ (i : ℕ). often (times i es) (f i)) n in
    let here = alone_below f e.1 n (All-head (λ (x : R × ℕ). x.1 < n) e es small) in
    omega (arith, ints)

module _ {R : Type 0} (cmp : R → R → Ordering) (total : IsTotalOrder cmp) (i : ℕ) (row : R) where
  less_self : cmp row row ≡ Less → ⊥
  less_self less = let e : Less ≡ Equal = sym less ∙ tied_itself total row in cc

  -- past the row its number doesn't stand
  times_none : (es : List (R × ℕ)) → All (λ e. e.1 ≡ i → e.0 ≡ row) es → AllByRecursion (λ other. cmp row other ≡ Less) (keys_of es) → times i es ≡ 0
  times_none [] owns past = refl
  times_none (e ∷ es) owns past =
      let rest = times_none es (All-tail (λ (x : R × ℕ). x.1 ≡ i → x.0 ≡ row) e es owns) past.1 in
      let z : one_at e.1 i ≡ 0 = elim (eqb_tells e.1 i) as (λ _. one_at e.1 i ≡ 0) [
        | inl (test, same) ↦ absurd (less_self (subst (λ (x : R). cmp row x ≡ Less) (All-head (λ (x : R × ℕ). x.1 ≡ i → x.0 ≡ row) e es owns same) past.0))
        | inr (test, other) ↦ ap (λ (b : Bool). cond {A = ℕ} b 1 0) test
      ] in
      omega arith

  -- a key is below each one after it
  key_less : (key : R) (es : List (R × ℕ)) (k : ℕ) (x : R × ℕ) → AllByRecursion (λ other. cmp key other ≡ Less) (keys_of es) → slice_get es k ≡ Some x → cmp key x.0 ≡ Less
  key_less key [] k x past at = absurd (none-some x at)
  key_less key (e ∷ es) zero x past at = subst (λ (y : R × ℕ). cmp key y.0 ≡ Less) (same_Some e x at) past.0
  key_less key (e ∷ es) (suc k) x past at = key_less key es k x past.1 at

  times_one : (es : List (R × ℕ)) (k : ℕ) → IsStrictlySortedBy cmp (keys_of es) → All (λ e. e.1 ≡ i → e.0 ≡ row) es → slice_get es k ≡ Some (row, i) → times i es ≡ 1
  times_one [] k up owns at = absurd (none-some (row, i) at)
  times_one (e ∷ es) zero up owns at =
      let same : e ≡ (row, i) = same_Some e (row, i) at in
      let past = subst (λ (x : R). AllByRecursion (λ other. cmp x other ≡ Less) (keys_of es)) (ap (λ (x : R × ℕ). x.0) same) (sorted_head cmp e.0 (keys_of es) up) in
      let rest = times_none es (All-tail (λ (x : R × ℕ). x.1 ≡ i → x.0 ≡ row) e es owns) past in
      let number : e.1 ≡ i = ap (λ (x : R × ℕ). x.1) same in
      let one : one_at e.1 i ≡ 1 = elim (eqb_tells e.1 i) as (λ _. one_at e.1 i ≡ 1) [
        | inl (test, is) ↦ ap (λ (b : Bool). cond {A = ℕ} b 1 0) test
        | inr (test, other) ↦ absurd (other number)
      ] in
      omega arith
  times_one (e ∷ es) (suc k) up owns at =
      let rest = times_one es k (sorted_tail cmp e.0 (keys_of es) up) (All-tail (λ (x : R × ℕ). x.1 ≡ i → x.0 ≡ row) e es owns) at in
      let less : cmp e.0 row ≡ Less = key_less e.0 es k (row, i) (sorted_head cmp e.0 (keys_of es) up) at in
      let z : one_at e.1 i ≡ 0 = elim (eqb_tells e.1 i) as (λ _. one_at e.1 i ≡ 0) [
        | inl (test, same) ↦ absurd (less_self (subst (λ (x : R). cmp x row ≡ Less) (All-head (λ (x : R × ℕ). x.1 ≡ i → x.0 ≡ row) e es owns same) less))
        | inr (test, other) ↦ ap (λ (b : Bool). cond {A = ℕ} b 1 0) test
      ] in
      omega arith

-- where each number below n stands once
pub sum_numbers : {R : Type 0} (f : ℕ → ℤ) (n : ℕ) (es : List (R × ℕ)) → All (λ e. e.1 < n) es → ((i : ℕ) → i < n → times i es ≡ 1) → sum_of (λ e. f e.1) es ≡ sum_below f n
sum_numbers f n es small once =
    sum_often f n es small ∙ below_same (λ (i : ℕ). often (times i es) (f i)) f n (λ i l. often_once (times i es) (f i) (once i l))

-- in a numbering each number stands once
pub numbers_once : {R : Type 0} (cmp : R → R → Ordering) → IsTotalOrder cmp → TellsApart cmp → (numbers : List (R × ℕ)) (numbered : List R) → IsNumbering cmp numbers numbered → AreUp cmp numbers
    → All (λ e. slice_get numbered e.1 ≡ Some e.0) numbers → (i : ℕ) → i < length numbered → times i numbers ≡ 1
numbers_once {R} cmp total apart numbers numbered is ordered all i l =
    let row = some_at numbered i l in
    let place = up_number cmp total apart numbers row.0 i (is.known i row.0 row.1) in
    let owns : All (λ (e : R × ℕ). e.1 ≡ i → e.0 ≡ row.0) numbers = λ k d m same.
    same_Some (get_or numbers k d).0 row.0 (sym (all k d m) ∙ ap (slice_get numbered) same ∙ row.1)
    in
    times_one cmp total i row.0 numbers place.0 ordered owns place.1
