-- Rows that get numbers one after the other.
use Rattle.std.proofs.Common.{◌≡◌, ℕ, zero, suc, ◌+◌, ◌≤◌, List, [], ◌∷◌, ◌++◌, length, take, append_assoc, Some, slice_get, refl, sym, ap, ◌∙◌, subst, arith, inl, inr}
use Rattle.std.specs.Prelude.{◌⊎◌, All}
use Rattle.std.proofs.lemmas.List.Elements.{All-push}
use Rattle.std.proofs.lemmas.List.{take_all, length-append}
use Rattle.std.specs.List.{AllZip}
use Rattle.std.proofs.lemmas.Option.{same_Some, none-some}
use Rattle.optra_prices.specs.declared.touch.Touch.{Touch}
use Rattle.optra_prices.specs.Tables.{Extends, IsTouch, AreTouches, AddsTouches}

-- an element at the end
pub push_at : {X : Type 0} (xs : List X) (x : X) → slice_get (xs ++ x ∷ []) (length xs) ≡ Some x
push_at [] x = refl
push_at (y ∷ xs) x = push_at xs x

-- the others keep their places
pub push_kept : {X : Type 0} (xs : List X) (x : X) (n : ℕ) (y : X) → slice_get xs n ≡ Some y → slice_get (xs ++ x ∷ []) n ≡ Some y
push_kept [] x n y e = cc
push_kept (z ∷ xs) x zero y e = e
push_kept (z ∷ xs) x (suc n) y e = push_kept xs x n y e

pub push_cases : {X : Type 0} (xs : List X) (x : X) (n : ℕ) (y : X) → slice_get (xs ++ x ∷ []) n ≡ Some y → (slice_get xs n ≡ Some y) ⊎ ((n ≡ length xs) × (x ≡ y))
push_cases [] x zero y e = inr (refl, same_Some x y e)
push_cases [] x (suc n) y e = absurd (none-some y e)
push_cases (z ∷ xs) x zero y e = inl e
push_cases {X} (z ∷ xs) x (suc n) y e = elim (push_cases xs x n y e) as (λ _. (slice_get xs n ≡ Some y) ⊎ ((suc n ≡ suc (length xs)) × (x ≡ y))) [
  | inl h ↦ inl h
  | inr h ↦ inr (ap suc h.0, h.1)
]

-- rows keep their numbers where one is added, or none
pub grows_extends : {R : Type 0} (old new : List R) (row : R) → (new ≡ old) ⊎ (new ≡ old ++ row ∷ []) → Extends old new
grows_extends old new row (inl e) n q at = ap (λ (xs : List _). slice_get xs n) e ∙ at
grows_extends old new row (inr e) n q at = ap (λ (xs : List _). slice_get xs n) e ∙ push_kept old row n q at

pub grows_longer : {R : Type 0} (old new : List R) (row : R) → (new ≡ old) ⊎ (new ≡ old ++ row ∷ []) → length old ≤ length new
grows_longer old new row (inl e) = omega (arith, ap length e)
grows_longer old new row (inr e) = omega (arith, ap length e, length-append old (row ∷ []))

pub extends_more : {R : Type 0} (a b c : List R) → Extends a b → Extends b c → Extends a c
extends_more a b c h k n q at = k n q (h n q at)

-- touches keep their rows
pub touches_kept : {R : Type 0} (old new : List R) (uses : R → ℕ) → Extends old new → (touches : List Touch) (used : List R) → AreTouches old uses touches used → AreTouches new uses touches used
touches_kept old new uses h [] [] are = are
touches_kept old new uses h [] (row ∷ used) are = absurd are
touches_kept old new uses h (touch ∷ touches) [] are = absurd are
touches_kept old new uses h (touch ∷ touches) (row ∷ used) are =
    (record { number = h touch.row row are.0.number; use_is = are.0.use_is }, touches_kept old new uses h touches used are.1)

pub zip_push : {A B : Type 0} (P : A → B → Type 0) (xs : List A) (ys : List B) (x : A) (y : B) → AllZip P xs ys → P x y → AllZip P (xs ++ x ∷ []) (ys ++ y ∷ [])
zip_push P [] [] x y h p = (p, tt)
zip_push P [] (z ∷ ys) x y h p = absurd h
zip_push P (w ∷ xs) [] x y h p = absurd h
zip_push P (w ∷ xs) (z ∷ ys) x y h p = (h.0, zip_push P xs ys x y h.1 p)

-- the first elements and one more
pub take_push : {X : Type 0} (xs : List X) (k : ℕ) (x : X) → slice_get xs k ≡ Some x → take (suc k) xs ≡ take k xs ++ x ∷ []
take_push [] k x e = absurd (none-some x e)
take_push (y ∷ xs) zero x e = ap (λ z. z ∷ []) (same_Some y x e)
take_push (y ∷ xs) (suc k) x e = ap (λ zs. y ∷ zs) (take_push xs k x e)

-- one more touch, where its row may have got its number now
pub adds_touch : {R : Type 0} (numbered after : List R) (uses : R → ℕ) (used : List R) (k n u : ℕ) (row : R) (old mid new : List Touch) → AddsTouches numbered uses (take k used) old mid
    → Extends numbered after → slice_get used k ≡ Some row → slice_get after n ≡ Some row → u ≡ uses row → new ≡ mid ++ record { row = n; uses = u } ∷ [] → AddsTouches after uses (take (k + 1) used) old new
adds_touch {R} numbered after uses used k n u row old mid new adds extends at number use_is is =
    let touch : Touch = record { row = n; uses = u } in
    let one : k + 1 ≡ suc k = omega arith in
    let taken : take (k + 1) used ≡ take k used ++ row ∷ [] = ap (λ (j : ℕ). take j used) one ∙ take_push used k row at in
    record {
      more = adds.more ++ touch ∷ [];
      is = is ∙ ap (λ (xs : List Touch). xs ++ touch ∷ []) adds.is ∙ append_assoc old adds.more (touch ∷ []);
      are = subst (AreTouches after uses (adds.more ++ touch ∷ [])) (sym taken)
          (zip_push (IsTouch after uses) adds.more (take k used) touch row (touches_kept numbered after uses extends adds.more (take k used) adds.are) (record { number = number; use_is = use_is }));
    }

-- all touches, past the last row that is used
pub all_touches : {R : Type 0} (numbered : List R) (uses : R → ℕ) (used : List R) (k : ℕ) (old new : List Touch) → AddsTouches numbered uses (take k used) old new → length used ≤ k → AddsTouches numbered uses used old new
all_touches numbered uses used k old new adds l = subst (λ rows. AddsTouches numbered uses rows old new) (take_all k used l) adds

pub all_grows : {R : Type 0} (P : R → Type 0) (old new : List R) (row : R) → (new ≡ old) ⊎ (new ≡ old ++ row ∷ []) → All P old → P row → All P new
all_grows P old new row (inl e) all p = subst (All P) (sym e) all
all_grows P old new row (inr e) all p = subst (All P) (sym e) (All-push P old row all p)

append_none : {X : Type 0} (xs : List X) → xs ≡ xs ++ []
append_none [] = refl
append_none (x ∷ xs) = ap (λ zs. x ∷ zs) (append_none xs)

pub adds_none : {R : Type 0} (numbered : List R) (uses : R → ℕ) (used : List R) (old : List Touch) → AddsTouches numbered uses (take 0 used) old old
adds_none numbered uses used old = record { more = []; is = append_none old; are = tt }
