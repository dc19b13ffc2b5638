-- Lists by their elements.
use Rattle.std.proofs.Common.{◌≡◌, ℕ, zero, suc, ◌<◌, List, [], ◌∷◌, ◌++◌, map, length, take, drop, Some, slice_get, refl, ap, subst, arith}
use Rattle.std.specs.Prelude.{All}
use Rattle.std.specs.List.{AllZip}
use Rattle.std.proofs.lemmas.Option.{none-some, same_Some}

-- two lists of one length that agree wherever both have an element are one list
pub same_list : {X : Type 0} (xs ys : List X) → length xs ≡ length ys → ((k : ℕ) (x y : X) → slice_get xs k ≡ Some x → slice_get ys k ≡ Some y → x ≡ y) → xs ≡ ys
same_list [] [] l h = refl
same_list [] (y ∷ ys) l h = absurd (omega arith)
same_list (x ∷ xs) [] l h = absurd (omega arith)
same_list (x ∷ xs) (y ∷ ys) l h =
    let e : x ≡ y = h zero x y refl refl in
    let t : xs ≡ ys = same_list xs ys (omega arith) (λ k. h (suc k)) in
    λ i. e i ∷ t i

-- within a list there is an element
pub some_at : {X : Type 0} (xs : List X) (k : ℕ) → k < length xs → (x : X) × (slice_get xs k ≡ Some x)
some_at [] k l = absurd (omega arith)
some_at (x ∷ xs) zero l = (x, refl)
some_at (x ∷ xs) (suc k) l = some_at xs k (omega arith)

-- what is true of all elements is true of the one at a place
pub all_at : {X : Type 0} (P : X → Type 0) (xs : List X) (k : ℕ) (x : X) → All P xs → slice_get xs k ≡ Some x → P x
all_at P [] k x h e = cc
all_at P (y ∷ xs) zero x h e =
    let q : y ≡ x = cc in
    let first : P y = h zero y (omega arith) in
    subst P q first
all_at P (y ∷ xs) (suc k) x h e = all_at P xs k x (λ j d l. h (suc j) d (omega arith)) e

-- a place of a list that is made from another
pub map_at : {X Y : Type 0} (f : X → Y) (xs : List X) (k : ℕ) (x : X) → slice_get xs k ≡ Some x → slice_get (map f xs) k ≡ Some (f x)
map_at f [] k x e = absurd (none-some x e)
map_at f (y ∷ xs) zero x e = ap (λ z. Some (f z)) (same_Some y x e)
map_at f (y ∷ xs) (suc k) x e = map_at f xs k x e

-- two lists of one length that are related at each place
pub zip_each : {A B : Type 0} (P : A → B → Type 0) (xs : List A) (ys : List B) → length xs ≡ length ys → ((k : ℕ) (x : A) (y : B) → slice_get xs k ≡ Some x → slice_get ys k ≡ Some y → P x y) → AllZip P xs ys
zip_each P [] [] l h = tt
zip_each P [] (y ∷ ys) l h = absurd (omega arith)
zip_each P (x ∷ xs) [] l h = absurd (omega arith)
zip_each P (x ∷ xs) (y ∷ ys) l h = (h zero x y refl refl, zip_each P xs ys (omega arith) (λ k. h (suc k)))

-- related lists have related elements at each place
pub zip_at : {A B : Type 0} (P : A → B → Type 0) (xs : List A) (ys : List B) → AllZip P xs ys → (k : ℕ) (x : A) → slice_get xs k ≡ Some x → (y : B) × (slice_get ys k ≡ Some y) × P x y
zip_at P [] [] h k x e = absurd (none-some x e)
zip_at P [] (y ∷ ys) h k x e = absurd h
zip_at P (w ∷ xs) [] h k x e = absurd h
zip_at {A} {B} P (w ∷ xs) (y ∷ ys) h zero x e = (y, refl, subst (λ (a : A). P a y) (same_Some w x e) h.0)
zip_at P (w ∷ xs) (y ∷ ys) h (suc k) x e = zip_at P xs ys h.1 k x e

pub zip_take : {A B : Type 0} (P : A → B → Type 0) (k : ℕ) (xs : List A) (ys : List B) → AllZip P xs ys → AllZip P (take k xs) (take k ys)
zip_take P zero xs ys h = tt
zip_take P (suc k) [] [] h = tt
zip_take P (suc k) [] (y ∷ ys) h = absurd h
zip_take P (suc k) (x ∷ xs) [] h = absurd h
zip_take P (suc k) (x ∷ xs) (y ∷ ys) h = (h.0, zip_take P k xs ys h.1)

pub zip_drop : {A B : Type 0} (P : A → B → Type 0) (k : ℕ) (xs : List A) (ys : List B) → AllZip P xs ys → AllZip P (drop k xs) (drop k ys)
zip_drop P zero xs ys h = h
zip_drop P (suc k) [] [] h = tt
zip_drop P (suc k) [] (y ∷ ys) h = absurd h
zip_drop P (suc k) (x ∷ xs) [] h = absurd h
zip_drop P (suc k) (x ∷ xs) (y ∷ ys) h = zip_drop P k xs ys h.1

pub zip_append : {A B : Type 0} (P : A → B → Type 0) (us xs : List A) (vs ys : List B) → AllZip P us vs → AllZip P xs ys → AllZip P (us ++ xs) (vs ++ ys)
zip_append P [] xs [] ys h i = i
zip_append P [] xs (v ∷ vs) ys h i = absurd h
zip_append P (u ∷ us) xs [] ys h i = absurd h
zip_append P (u ∷ us) xs (v ∷ vs) ys h i = (h.0, zip_append P us xs vs ys h.1 i)

-- lists that are one have one first element, and one rest
pub same_first : {X : Type 0} (x y : X) (xs ys : List X) → x ∷ xs ≡ y ∷ ys → x ≡ y
same_first x y xs ys e = same_Some x y (ap (λ zs. slice_get zs 0) e)

pub same_rest : {X : Type 0} (x y : X) (xs ys : List X) → x ∷ xs ≡ y ∷ ys → xs ≡ ys
same_rest x y xs ys e = ap (drop 1) e
