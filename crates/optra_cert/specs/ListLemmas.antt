-- Lists whose elements are apart, and the first of a kind.
use Rattle.std.proofs.Common.{◌≡◌, suc, ◌∷◌, ◌++◌, [], List, Some, true, false, Bool, refl, subst, arith}
use Rattle.std.specs.Prelude.{cond, find, All, Contains}
use Rattle.std.specs.List.{AllPairs}
use Rattle.std.proofs.lemmas.List.Elements.{All-nil, All-cons, All-head, All-tail, All-contains, Contains-append_right}
use Rattle.std.proofs.lemmas.List.Kept.{AllPairs-cons}

all_first : {X : Type 0} (P : X → Type 0) (xs ys : List X) → All P (xs ++ ys) → All P xs
all_first P [] ys h = All-nil P
all_first P (x ∷ xs) ys h = All-cons P x xs (All-head P x (xs ++ ys) h) (all_first P xs ys (All-tail P x (xs ++ ys) h))

all_second : {X : Type 0} (P : X → Type 0) (xs ys : List X) → All P (xs ++ ys) → All P ys
all_second P [] ys h = h
all_second P (x ∷ xs) ys h = all_second P xs ys (All-tail P x (xs ++ ys) h)

module _ {X : Type 0} (R : X → X → Type 0) where
  pairs_head : (x : X) (xs : List X) → AllPairs R (x ∷ xs) → All (R x) xs
  pairs_head x xs h = λ k d l. h 0 (suc k) d (omega arith) (omega arith)

  pairs_tail : (x : X) (xs : List X) → AllPairs R (x ∷ xs) → AllPairs R xs
  pairs_tail x xs h = λ i j d l m. h (suc i) (suc j) d (omega arith) (omega arith)

  pub pairs_first : (xs ys : List X) → AllPairs R (xs ++ ys) → AllPairs R xs
  pairs_first [] ys h = λ i j d l m. absurd (omega arith)
  pairs_first (x ∷ xs) ys h = AllPairs-cons R x xs (all_first (R x) xs ys (pairs_head x (xs ++ ys) h)) (pairs_first xs ys (pairs_tail x (xs ++ ys) h))

  pub pairs_second : (xs ys : List X) → AllPairs R (xs ++ ys) → AllPairs R ys
  pairs_second [] ys h = h
  pairs_second (x ∷ xs) ys h = pairs_second xs ys (pairs_tail x (xs ++ ys) h)

  across : (xs ys : List X) → AllPairs R (xs ++ ys) → All (λ x. All (R x) ys) xs
  across [] ys h = All-nil (λ x. All (R x) ys)
  across (x ∷ xs) ys h = All-cons (λ x. All (R x) ys) x xs (all_second (R x) xs ys (pairs_head x (xs ++ ys) h)) (across xs ys (pairs_tail x (xs ++ ys) h))

  -- one of the first list and one of the second
  pub pairs_across : (xs ys : List X) (x y : X) → AllPairs R (xs ++ ys) → Contains xs x → Contains ys y → R x y
  pairs_across xs ys x y h a b = All-contains (R x) ys y (All-contains (λ x. All (R x) ys) xs x (across xs ys h) a) b

-- what is found is in the list and passes
pub found_in : {X : Type 0} (p : X → Bool) (xs : List X) (x : X) → find p xs ≡ Some x → Contains xs x × (p x ≡ true)
found_in p [] x e = absurd (cc e)
found_in {X} p (y ∷ xs) x e = by (p y) refl e (found_in p xs x)
  where
    by : (t : Bool) → p y ≡ t → cond t (Some y) (find p xs) ≡ Some x → (find p xs ≡ Some x → Contains xs x × (p x ≡ true)) → Contains (y ∷ xs) x × (p x ≡ true)
    by true passes e more = let same : y ≡ x = cc e in ((0, omega arith, same), subst (λ (z : X). p z ≡ true) same passes)
    by false fails e more = let h = more e in (Contains-append_right (y ∷ []) xs x h.0, h.1)
