-- Lists that have every element of a kind, and parts of them that keep the elements of a fact.
use Rattle.std.proofs.Common.{◌≡◌, ℕ, zero, suc, ◌≤◌, ◌<◌, List, [], ◌∷◌, ◌++◌, map, length, get_or, refl, sym, ◌∙◌, subst, arith, inl, inr}
use Rattle.std.specs.Prelude.{All, Contains, ◌⊎◌}
use Rattle.std.specs.List.{AllPairs, flat_map, range_with_len}
use Rattle.std.proofs.lemmas.List.{get_or_default}
use Rattle.std.proofs.lemmas.List.Elements.{All-nil, All-cons, All-append, All-head, All-tail, Contains-append_left, Contains-append_right}
use Rattle.std.proofs.lemmas.List.FromFn.{get_or-range_with_len, length-range_with_len}
use Rattle.optra_top.proofs.DecidedFacts.{Decided, has}

contains_first : {X : Type 0} (x : X) (xs : List X) → Contains (x ∷ xs) x
contains_first x xs = (zero, omega arith, refl)

contains_behind : {X : Type 0} (x : X) (xs : List X) (y : X) → Contains xs y → Contains (x ∷ xs) y
contains_behind x xs y c = (suc c.0, omega (arith, c.1), c.2)

contains_either : {X : Type 0} (x : X) (xs : List X) (y : X) → Contains (x ∷ xs) y → (x ≡ y) ⊎ Contains xs y
contains_either x xs y (zero, l, e) = inl e
contains_either x xs y (suc k, l, e) = inr (k, omega arith, e)

pub contains_in : {X : Type 0} (xs : List X) (k : ℕ) (d : X) → k < length xs → Contains xs (get_or xs k d)
contains_in xs k d l = (k, l, get_or_default xs k (get_or xs k d) d l)

pub contains-map : {X Y : Type 0} (f : X → Y) (xs : List X) (x : X) → Contains xs x → Contains (map f xs) (f x)
contains-map f [] x c = absurd (omega (arith, c.1))
contains-map {X} {Y} f (y ∷ ys) x c = elim (contains_either y ys x c) as (λ _. Contains (map f (y ∷ ys)) (f x)) [
  | inl e ↦ subst (λ (z : X). Contains (f y ∷ map f ys) (f z)) e (contains_first (f y) (map f ys))
  | inr h ↦ contains_behind (f y) (map f ys) (f x) (contains-map f ys x h)
]

pub contains-flat_map : {X Y : Type 0} (f : X → List Y) (xs : List X) (x : X) (y : Y) → Contains xs x → Contains (f x) y → Contains (flat_map f xs) y
contains-flat_map f [] x y c h = absurd (omega (arith, c.1))
contains-flat_map {X} {Y} f (z ∷ zs) x y c h = elim (contains_either z zs x c) as (λ _. Contains (f z ++ flat_map f zs) y) [
  | inl e ↦ Contains-append_left (f z) (flat_map f zs) y (subst (λ (w : X). Contains (f w) y) (sym e) h)
  | inr t ↦ Contains-append_right (f z) (flat_map f zs) y (contains-flat_map f zs x y t h)
]

-- a number below n is one of the first n
pub contains-range : (n k : ℕ) → k < n → Contains (range_with_len 0 n) k
contains-range n k l =
    let len = length-range_with_len 0 n in
    (k, omega arith, get_or-range_with_len 0 n k k l ∙ omega arith)

-- all lists of at most n of the elements
pub lists : {X : Type 0} → List X → ℕ → List (List X)
lists xs zero = [] ∷ []
lists xs (suc n) = [] ∷ flat_map (λ x. map (λ rest. x ∷ rest) (lists xs n)) xs

pub contains-lists : {X : Type 0} (xs : List X) (n : ℕ) (ys : List X) → length ys ≤ n → All (Contains xs) ys → Contains (lists xs n) ys
unfolding lists
contains-lists xs zero [] l all = contains_first [] []
contains-lists xs zero (y ∷ ys) l all = absurd (omega arith)
contains-lists xs (suc n) [] l all = contains_first [] (flat_map (λ x. map (λ rest. x ∷ rest) (lists xs n)) xs)
contains-lists {X} xs (suc n) (y ∷ ys) l all =
    let rest = contains-lists xs n ys (omega arith) (All-tail (Contains xs) y ys all) in
    contains_behind [] (flat_map (λ x. map (λ rest. x ∷ rest) (lists xs n)) xs) (y ∷ ys)
    (contains-flat_map (λ x. map (λ rest. x ∷ rest) (lists xs n)) xs y (y ∷ ys) (All-head (Contains xs) y ys all)
    (contains-map (λ (rest : List X). y ∷ rest) (lists xs n) ys rest))

-- the elements of a list of which the fact holds
pub record Kept {X : Type 0} (P : X → Type 0) (xs ys : List X) : Type 0 where
  pub each : All P ys
  pub whole : (x : X) → Contains xs x → P x → Contains ys x

pub kept : {X : Type 0} (P : X → Type 0) → ((x : X) → Decided (P x)) → (xs : List X) → (ys : List X) × Kept P xs ys
kept P each [] = ([], record { each = All-nil P; whole = λ x c p. absurd (omega (arith, c.1)) })
kept {X} P each (x ∷ xs) = by (each x) (kept P each xs)
  where
    by : Decided (P x) → (ys : List X) × Kept P xs ys → (ys : List X) × Kept P (x ∷ xs) ys
    by (inl p) t = (
      x ∷ t.0,
      record {
        each = All-cons P x t.0 p t.1.each;
        whole = λ y c q. elim (contains_either x xs y c) as (λ _. Contains (x ∷ t.0) y) [
          | inl e ↦ subst (Contains (x ∷ t.0)) e (contains_first x t.0)
          | inr h ↦ contains_behind x t.0 y (t.1.whole y h q)
        ];
      },
    )
    by (inr f) t = (
      t.0,
      record {
        each = t.1.each;
        whole = λ y c q. elim (contains_either x xs y c) as (λ _. Contains t.0 y) [
          | inl e ↦ absurd (f (subst P (sym e) q))
          | inr h ↦ t.1.whole y h q
        ];
      },
    )

-- each element of the line is one of which the fact holds
abbrev pub HasOnly : {X : Type 0} → (X → Type 0) → List X → Type 0
HasOnly {X} P line = (x : X) → Contains line x → P x

-- the elements of lists, one list after the other
pub record Gathered {X : Type 0} (P : X → Type 0) (lines : List (List X)) (xs : List X) : Type 0 where
  pub each : All P xs
  pub whole : (line : List X) → Contains lines line → (x : X) → Contains line x → Contains xs x

pub gathered : {X : Type 0} (P : X → Type 0) (lines : List (List X)) → All (HasOnly P) lines → (xs : List X) × Gathered P lines xs
gathered P [] all = ([], record { each = All-nil P; whole = λ line c x h. absurd (omega (arith, c.1)) })
gathered {X} P (line ∷ lines) all =
    let rest = gathered P lines (All-tail (HasOnly P) line lines all) in
    let here : All P line = λ k d l. All-head (HasOnly P) line lines all (get_or line k d) (contains_in line k d l) in (
      line ++ rest.0,
      record {
        each = All-append P line rest.0 here rest.1.each;
        whole = λ other c x h. elim (contains_either line lines other c) as (λ _. Contains (line ++ rest.0) x) [
          | inl e ↦ Contains-append_left line rest.0 x (subst (λ (z : List X). Contains z x) (sym e) h)
          | inr t ↦ Contains-append_right line rest.0 x (rest.1.whole other t x h)
        ];
      },
    )

-- the different elements of a list
pub record Differing {X : Type 0} (xs ys : List X) : Type 0 where
  pub among : (x : X) → Contains ys x → Contains xs x
  pub whole : (x : X) → Contains xs x → Contains ys x
  pub once : AllPairs (λ a b. a ≡ b → ⊥) ys

pub differing : {X : Type 0} → ((x y : X) → Decided (x ≡ y)) → (xs : List X) → (ys : List X) × Differing xs ys
differing same [] = ([], record { among = λ x c. c; whole = λ x c. c; once = λ i j d l m. absurd (omega arith) })
differing {X} same (x ∷ xs) = by (differing same xs)
  where
    by : (ys : List X) × Differing xs ys → (ys : List X) × Differing (x ∷ xs) ys
    by t = with_first (has same t.0 x)
      where
        with_first : Decided (Contains t.0 x) → (ys : List X) × Differing (x ∷ xs) ys
        with_first (inl c) = (
          t.0,
          record {
            among = λ y h. contains_behind x xs y (t.1.among y h);
            whole = λ y h. elim (contains_either x xs y h) as (λ _. Contains t.0 y) [
              | inl e ↦ subst (Contains t.0) e c
              | inr m ↦ t.1.whole y m
            ];
            once = t.1.once;
          },
        )
        with_first (inr f) = (
          x ∷ t.0,
          record {
            among = λ y h. elim (contains_either x t.0 y h) as (λ _. Contains (x ∷ xs) y) [
              | inl e ↦ subst (Contains (x ∷ xs)) e (contains_first x xs)
              | inr m ↦ contains_behind x xs y (t.1.among y m)
            ];
            whole = λ y h. elim (contains_either x xs y h) as (λ _. Contains (x ∷ t.0) y) [
              | inl e ↦ subst (Contains (x ∷ t.0)) e (contains_first x t.0)
              | inr m ↦ contains_behind x t.0 y (t.1.whole y m)
            ];
            once = once;
          },
        )
          where
            once : AllPairs (λ a b. a ≡ b → ⊥) (x ∷ t.0)
            once i zero d l m e = absurd (omega arith)
            once zero (suc j) d l m e = f (subst (Contains t.0) (sym e) (contains_in t.0 j d (omega arith)))
            once (suc i) (suc j) d l m e = t.1.once i j d (omega arith) (omega arith) e
