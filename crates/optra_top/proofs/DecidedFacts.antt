-- Facts that hold or don't: of numbers, of options, of each element of a list.
use Rattle.std.proofs.Common.{◌≡◌, ℕ, zero, suc, ◌+◌, ◌-◌, ◌≤◌, ◌<◌, Bool, true, false, List, [], ◌∷◌, length, get_or, Option, None, Some, IsSomeAnd, refl, sym, ap, subst, arith, inl, inr}
use Rattle.std.specs.Prelude.{All, Contains, IsSome, ◌⊎◌}
use Rattle.std.specs.List.{AllZip, AllAdjacentBelow}
use Rattle.std.proofs.lemmas.Bool.{cases_eq}
use Rattle.std.proofs.lemmas.List.{get_or_default}
use Rattle.std.proofs.lemmas.List.Elements.{All-nil, All-cons, All-head, All-tail}

-- the fact holds, or it doesn't
abbrev pub Decided : Type 0 → Type 0
Decided P = P ⊎ (P → ⊥)

-- facts that hold together are decided together
pub alike : {P Q : Type 0} → (P → Q) → (Q → P) → Decided P → Decided Q
alike to from (inl p) = inl (to p)
alike to from (inr f) = inr (λ q. f (from q))

pub both : {P Q : Type 0} → Decided P → Decided Q → Decided (P × Q)
both (inl p) (inl q) = inl (p, q)
both (inr f) q = inr (λ h. f h.0)
both (inl p) (inr f) = inr (λ h. f h.1)

pub same_number : (m n : ℕ) → Decided (m ≡ n)
same_number m n = cases_eq m n

pub at_most : (m n : ℕ) → Decided (m ≤ n)
at_most zero n = inl (omega arith)
at_most (suc m) zero = inr (λ h. omega arith)
at_most (suc m) (suc n) = alike (λ (h : m ≤ n). omega arith) (λ (h : suc m ≤ suc n). omega arith) (at_most m n)

pub same_bool : (a b : Bool) → Decided (a ≡ b)
same_bool true true = inl refl
same_bool false false = inl refl
same_bool true false = inr (λ e. cc)
same_bool false true = inr (λ e. cc)

pub same_option : {X : Type 0} → ((x y : X) → Decided (x ≡ y)) → (a b : Option X) → Decided (a ≡ b)
same_option same None None = inl refl
same_option same None (Some y) = inr (λ e. cc)
same_option same (Some x) None = inr (λ e. cc)
same_option {X} same (Some x) (Some y) = alike (λ (e : x ≡ y). ap Some e) (λ (e : Some x ≡ Some y). cc) (same x y)

pub is_some : {X : Type 0} (o : Option X) → Decided (IsSome o)
is_some None = inr (λ h. cc)
is_some (Some x) = inl refl

pub some_and : {X : Type 0} (P : X → Type 0) → ((x : X) → Decided (P x)) → (o : Option X) → Decided (IsSomeAnd o P)
some_and P each None = inr (λ h. h)
some_and P each (Some x) = each x

pub all_of : {X : Type 0} (P : X → Type 0) → ((x : X) → Decided (P x)) → (xs : List X) → Decided (All P xs)
all_of P each [] = inl (All-nil P)
all_of P each (x ∷ xs) = alike (λ (h : P x × All P xs). All-cons P x xs h.0 h.1) (λ (h : All P (x ∷ xs)). (All-head P x xs h, All-tail P x xs h)) (both (each x) (all_of P each xs))

pub all_zip : {A B : Type 0} (R : A → B → Type 0) → ((a : A) (b : B) → Decided (R a b)) → (xs : List A) (ys : List B) → Decided (AllZip R xs ys)
all_zip R each [] [] = inl tt
all_zip R each [] (y ∷ ys) = inr (λ h. h)
all_zip R each (x ∷ xs) [] = inr (λ h. h)
all_zip R each (x ∷ xs) (y ∷ ys) = both (each x y) (all_zip R each xs ys)

pub all_below : (P : ℕ → Type 0) → ((k : ℕ) → Decided (P k)) → (n : ℕ) → Decided ((k : ℕ) → k < n → P k)
all_below P each zero = inl (λ k l. absurd (omega arith))
all_below P each (suc n) = alike to (λ (h : (k : ℕ) → k < suc n → P k). ((λ k l. h k (omega arith)), h n (omega arith))) (both (all_below P each n) (each n))
  where
    to : ((k : ℕ) → k < n → P k) × P n → (k : ℕ) → k < suc n → P k
    to h k l = elim (cases_eq k n) as (λ _. P k) [ inl e ↦ subst P (sym e) h.1 | inr f ↦ h.0 k (omega arith) ]

-- neighbours of a list with a first element, by their places
abbrev At : {X : Type 0} → (X → X → Type 0) → X → List X → ℕ → Type 0
At R x xs k = R (get_or (x ∷ xs) k x) (get_or (x ∷ xs) (k + 1) x)

pub all_adjacent : {X : Type 0} (R : X → X → Type 0) → ((x y : X) → Decided (R x y)) → (xs : List X) → Decided (AllAdjacentBelow R xs (length xs))
all_adjacent R each [] = inl (λ k d l. absurd (omega arith))
all_adjacent {X} R each (x ∷ xs) = alike to from (all_below (At R x xs) (λ k. each (get_or (x ∷ xs) k x) (get_or (x ∷ xs) (k + 1) x)) (length (x ∷ xs) - 1))
  where
    to : ((k : ℕ) → k < length (x ∷ xs) - 1 → At R x xs k) → AllAdjacentBelow R (x ∷ xs) (length (x ∷ xs))
    to h k d l =
        let here : get_or (x ∷ xs) k x ≡ get_or (x ∷ xs) k d = get_or_default (x ∷ xs) k x d (omega arith) in
        let next : get_or (x ∷ xs) (k + 1) x ≡ get_or (x ∷ xs) (k + 1) d = get_or_default (x ∷ xs) (k + 1) x d (omega arith) in
        subst (λ (z : X). R (get_or (x ∷ xs) k d) z) next (subst (λ (z : X). R z (get_or (x ∷ xs) (k + 1) x)) here (h k (omega arith)))

    from : AllAdjacentBelow R (x ∷ xs) (length (x ∷ xs)) → (k : ℕ) → k < length (x ∷ xs) - 1 → At R x xs k
    from h k l = h k x (omega arith)

-- whether a list has the element
pub has : {X : Type 0} → ((x y : X) → Decided (x ≡ y)) → (xs : List X) (x : X) → Decided (Contains xs x)
has same [] x = inr (λ c. omega (arith, c.1))
has {X} same (y ∷ ys) x = by (same y x) (has same ys x)
  where
    by : Decided (y ≡ x) → Decided (Contains ys x) → Decided (Contains (y ∷ ys) x)
    by (inl e) t = inl (zero, omega arith, e)
    by (inr f) (inl c) = inl (suc c.0, omega (arith, c.1), c.2)
    by (inr f) (inr g) = inr not_there
      where
        not_there : Contains (y ∷ ys) x → ⊥
        not_there (zero, l, e) = f e
        not_there (suc k, l, e) = g (k, omega arith, e)
