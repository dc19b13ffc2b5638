-- Membership in lists, by recursion: what is in a join, a filter, a map and a range.
use Rattle.std.proofs.Common.{◌≡◌, ℕ, zero, suc, ◌+◌, ◌<◌, ◌≤◌, ◌⊎◌, inl, inr, Bool, true, false, cond, List, [], ◌∷◌, ◌++◌, map, filter, length, All, get_or, refl, sym, ap, ◌∙◌, subst, arith, Contains}
use Rattle.std.proofs.lemmas.Bool.{cases_eq, true≢false}
use Rattle.std.specs.List.{range_with_len}

module _ {X : Type 0} where
  -- an element of the list
  abbrev pub In : X → List X → Type 0
  In x [] = ⊥
  In x (y ∷ ys) = (y ≡ x) ⊎ In x ys

  pub in_get : (xs : List X) (k : ℕ) (d : X) → k < length xs → In (get_or xs k d) xs
  in_get [] k d l = absurd (omega arith)
  in_get (y ∷ ys) zero d l = inl refl
  in_get (y ∷ ys) (suc k) d l = inr (in_get ys k d (omega arith))

  pub in_from : (xs : List X) (x : X) → Contains xs x → In x xs
  in_from xs x c = subst (λ y. In y xs) c.2 (in_get xs c.0 x c.1)

  pub contains_from : (xs : List X) (x : X) → In x xs → Contains xs x
  contains_from [] x i = absurd i
  contains_from (y ∷ ys) x (inl e) = (0, omega arith, e)
  contains_from (y ∷ ys) x (inr i) = let c = contains_from ys x i in (suc c.0, let l = c.1 in omega arith, c.2)

  pub all_from_in : (P : X → Type 0) (xs : List X) → ((x : X) → In x xs → P x) → All P xs
  all_from_in P xs h k d l = h (get_or xs k d) (in_get xs k d l)

  pub in_append_left : (xs ys : List X) (x : X) → In x xs → In x (xs ++ ys)
  in_append_left [] ys x i = absurd i
  in_append_left (y ∷ xs) ys x (inl e) = inl e
  in_append_left (y ∷ xs) ys x (inr i) = inr (in_append_left xs ys x i)

  pub in_append_right : (xs ys : List X) (x : X) → In x ys → In x (xs ++ ys)
  in_append_right [] ys x i = i
  in_append_right (y ∷ xs) ys x i = inr (in_append_right xs ys x i)

  pub in_append : (xs ys : List X) (x : X) → In x (xs ++ ys) → In x xs ⊎ In x ys
  in_append [] ys x i = inr i
  in_append (y ∷ xs) ys x (inl e) = inl (inl e)
  in_append (y ∷ xs) ys x (inr i) = elim (in_append xs ys x i) [ inl a ↦ inl (inr a) | inr b ↦ inr b ]

  pub record Kept (p : X → Bool) (xs : List X) (x : X) : Type 0 where
    pub inside : In x xs
    pub passes : p x ≡ true

  pub in_filter : (p : X → Bool) (xs : List X) (x : X) → In x xs → p x ≡ true → In x (filter p xs)
  in_filter p [] x i t = absurd i
  in_filter p (y ∷ ys) x i t = go (p y) refl i (λ j. in_filter p ys x j t)
    where
      go : (b : Bool) → p y ≡ b → In x (y ∷ ys) → (In x ys → In x (filter p ys)) → In x (cond b (y ∷ filter p ys) (filter p ys))
      go true e (inl s) h = inl s
      go true e (inr j) h = inr (h j)
      go false e (inl s) h = absurd (true≢false (sym t ∙ ap p (sym s) ∙ e))
      go false e (inr j) h = h j

  pub in_filter_from : (p : X → Bool) (xs : List X) (x : X) → In x (filter p xs) → Kept p xs x
  in_filter_from p [] x i = absurd i
  in_filter_from p (y ∷ ys) x i = go (p y) refl i (λ j. in_filter_from p ys x j)
    where
      more : Kept p ys x → Kept p (y ∷ ys) x
      more k = record { inside = inr k.inside; passes = k.passes }

      go : (b : Bool) → p y ≡ b → In x (cond b (y ∷ filter p ys) (filter p ys)) → (In x (filter p ys) → Kept p ys x) → Kept p (y ∷ ys) x
      go true e (inl s) h = record { inside = inl s; passes = ap p (sym s) ∙ e }
      go true e (inr j) h = more (h j)
      go false e j h = more (h j)

module _ {X Y : Type 0} (f : X → Y) where
  pub in_map : (xs : List X) (x : X) → In x xs → In (f x) (map f xs)
  in_map [] x i = absurd i
  in_map (y ∷ ys) x (inl e) = inl (ap f e)
  in_map (y ∷ ys) x (inr i) = inr (in_map ys x i)

  pub record Made (xs : List X) (y : Y) : Type 0 where
    pub source : X
    pub inside : In source xs
    pub is : f source ≡ y

  pub in_map_from : (xs : List X) (y : Y) → In y (map f xs) → Made xs y
  in_map_from [] y i = absurd i
  in_map_from (x ∷ xs) y (inl e) = record { source = x; inside = inl refl; is = e }
  in_map_from (x ∷ xs) y (inr i) = let m = in_map_from xs y i in record { source = m.source; inside = inr m.inside; is = m.is }

pub in_range : (a n x : ℕ) → a ≤ x → x < a + n → In x (range_with_len a n)
in_range a zero x l h = absurd (omega arith)
in_range a (suc n) x l h = elim (cases_eq a x) [
  | inl e ↦ inl e
  | inr ne ↦ inr (in_range (a + 1) n x (omega arith) (omega arith))
]

pub in_range_from : (a n x : ℕ) → In x (range_with_len a n) → (a ≤ x) × (x < a + n)
in_range_from a zero x i = absurd i
in_range_from a (suc n) x (inl e) = (omega arith, omega arith)
in_range_from a (suc n) x (inr i) = let r = in_range_from (a + 1) n x i in (omega (arith, r), omega (arith, r))
