-- Uses and capacities of rows below 2^8, which are held side by side.
use Rattle.std.proofs.Common.{◌≡◌, ℕ, zero, suc, ◌+◌, ◌≤◌, ◌<◌, List, [], ◌∷◌, ◌++◌, length, take, set, get_or, refl, sym, ap, ◌∙◌, subst, arith, inl, inr}
use Rattle.std.specs.Prelude.{◌↔◌}
use Rattle.std.proofs.lemmas.Bool.{cases_eq}
use Rattle.std.proofs.lemmas.List.{length-set, length-take}
use Rattle.optra_prices.specs.Loads.{RowLoads, FitsOnce, used_in, narrow_capacities_in, no_narrow_load}
use Rattle.optra_prices.specs.declared.narrow_loads.NarrowLoad.{NarrowLoad}

pub used_count : (rows : List NarrowLoad) → length (used_in rows) ≡ length rows
used_count [] = refl
used_count (row ∷ rows) = ap suc (used_count rows)

pub used_at : (rows : List NarrowLoad) (k : ℕ) → get_or (used_in rows) k 0 ≡ (get_or rows k no_narrow_load).used
used_at [] k = refl
used_at (row ∷ rows) zero = refl
used_at (row ∷ rows) (suc k) = used_at rows k

pub narrow_capacity_at : (rows : List NarrowLoad) (k : ℕ) → get_or (narrow_capacities_in rows) k 0 ≡ (get_or rows k no_narrow_load).capacity
narrow_capacity_at [] k = refl
narrow_capacity_at (row ∷ rows) zero = refl
narrow_capacity_at (row ∷ rows) (suc k) = narrow_capacity_at rows k

pub used_set : (rows : List NarrowLoad) (k : ℕ) (load : NarrowLoad) → used_in (set rows k load) ≡ set (used_in rows) k load.used
used_set [] k load = refl
used_set (row ∷ rows) zero load = refl
used_set (row ∷ rows) (suc k) load = ap (λ (xs : List ℕ). row.used ∷ xs) (used_set rows k load)

-- so there are as many rows
pub as_many : (old new : List NarrowLoad) (k used : ℕ) → used_in new ≡ set (used_in old) k used → length new ≡ length old
as_many old new k used is = sym (used_count new) ∙ ap length is ∙ length-set (used_in old) k used ∙ used_count old

pub used_push : (rows : List NarrowLoad) (capacity : ℕ) → used_in (rows ++ record { used = 0; capacity = capacity } ∷ []) ≡ used_in rows ++ 0 ∷ []
used_push [] capacity = refl
used_push (row ∷ rows) capacity = ap (λ (xs : List ℕ). row.used ∷ xs) (used_push rows capacity)

pub narrow_capacities_push : (rows : List NarrowLoad) (capacity : ℕ) → narrow_capacities_in (rows ++ record { used = 0; capacity = capacity } ∷ []) ≡ narrow_capacities_in rows ++ capacity ∷ []
narrow_capacities_push [] capacity = refl
narrow_capacities_push (row ∷ rows) capacity = ap (λ (xs : List ℕ). row.capacity ∷ xs) (narrow_capacities_push rows capacity)

-- capacities stay where a row's stays
pub narrow_capacities_stay : (rows : List NarrowLoad) (k : ℕ) (load : NarrowLoad) → load.capacity ≡ (get_or rows k no_narrow_load).capacity → narrow_capacities_in (set rows k load) ≡ narrow_capacities_in rows
narrow_capacities_stay [] k load same = refl
narrow_capacities_stay (row ∷ rows) zero load same = ap (λ (c : ℕ). c ∷ narrow_capacities_in rows) same
narrow_capacities_stay (row ∷ rows) (suc k) load same = ap (λ (xs : List ℕ). row.capacity ∷ xs) (narrow_capacities_stay rows k load same)

-- past the last number nothing is set
pub set_past : (xs : List ℕ) (k x : ℕ) → length xs ≤ k → xs ≡ set xs k x
set_past [] k x past = refl
set_past (y ∷ xs) zero x past = absurd (omega arith)
set_past (y ∷ xs) (suc k) x past = ap (λ (ys : List ℕ). y ∷ ys) (set_past xs k x (omega arith))

-- what was put last is set
pub set_last : (xs : List ℕ) (k x : ℕ) → length xs ≡ k → set (xs ++ 0 ∷ []) k x ≡ xs ++ x ∷ []
set_last [] zero x long = refl
set_last [] (suc k) x long = absurd (omega arith)
set_last (y ∷ xs) zero x long = absurd (omega arith)
set_last (y ∷ xs) (suc k) x long = ap (λ (ys : List ℕ). y ∷ ys) (set_last xs k x (omega arith))

pub narrow_capacities_count : (rows : List NarrowLoad) → length (narrow_capacities_in rows) ≡ length rows
narrow_capacities_count [] = refl
narrow_capacities_count (row ∷ rows) = ap suc (narrow_capacities_count rows)

-- what is held of a row tells whether one more use of it fits
pub load_tells : (rows : List NarrowLoad) (loads : RowLoads) → record { uses = used_in rows; capacities = narrow_capacities_in rows } ≡ loads → (k : ℕ) (load : NarrowLoad) → load ≡ get_or rows k no_narrow_load
    → (load.used < load.capacity) ↔ FitsOnce loads k
load_tells rows loads same k load is =
    let u : get_or (used_in rows) k 0 ≡ load.used = used_at rows k ∙ ap (λ (row : NarrowLoad). row.used) (sym is) in
    let c : get_or (narrow_capacities_in rows) k 0 ≡ load.capacity = narrow_capacity_at rows k ∙ ap (λ (row : NarrowLoad). row.capacity) (sym is) in
    subst (λ (v : RowLoads). (load.used < load.capacity) ↔ FitsOnce v k) same ((λ l. omega (arith, u, c, l)), (λ l. omega (arith, u, c, l)))

-- one more use of the first rows fits, and so of one more row
pub fit_more : (loads : RowLoads) (n : ℕ) → ((m : ℕ) → m < n → FitsOnce loads m) → FitsOnce loads n → (m : ℕ) → m < n + 1 → FitsOnce loads m
fit_more loads n so_far here m l = elim (cases_eq m n) as (λ _. FitsOnce loads m) [ inl e ↦ subst (FitsOnce loads) (sym e) here | inr apart ↦ so_far m (omega arith) ]

-- ---- numbers that are taken over one after the other
take_more : (xs : List ℕ) (n : ℕ) → n < length xs → take n xs ++ get_or xs n 0 ∷ [] ≡ take (suc n) xs
take_more [] n l = absurd (omega arith)
take_more (x ∷ xs) zero l = refl
take_more (x ∷ xs) (suc n) l = ap (λ (ys : List ℕ). x ∷ ys) (take_more xs n (omega arith))

none_yet : (xs : List ℕ) (n : ℕ) → length xs ≡ n → get_or (xs ++ 0 ∷ []) n 0 ≡ 0
none_yet [] zero long = refl
none_yet [] (suc n) long = refl
none_yet (x ∷ xs) zero long = absurd (omega arith)
none_yet (x ∷ xs) (suc n) long = none_yet xs n (omega arith)

-- one more number is put
pub put_next : (xs before pushed after : List ℕ) (n x : ℕ) → n < length xs → before ≡ take n xs → pushed ≡ before ++ 0 ∷ [] → after ≡ set pushed n (get_or pushed n 0 + x) → x ≡ get_or xs n 0 → after ≡ take (n + 1) xs
put_next xs before pushed after n x l was push put is =
    let taken : pushed ≡ take n xs ++ 0 ∷ [] = push ∙ ap (λ (ys : List ℕ). ys ++ 0 ∷ []) was in
    let short = length-take n xs in
    let long : length (take n xs) ≡ n = omega arith in
    let none : get_or pushed n 0 ≡ 0 = ap (λ (ys : List ℕ). get_or ys n 0) taken ∙ none_yet (take n xs) n long in
    let sum : get_or pushed n 0 + x ≡ get_or xs n 0 = omega arith in
    let one : suc n ≡ n + 1 = omega arith in
    put ∙ ap (λ (k : ℕ). set pushed n k) sum ∙ ap (λ (ys : List ℕ). set ys n (get_or xs n 0)) taken ∙ set_last (take n xs) n (get_or xs n 0) long
    ∙ take_more xs n l ∙ ap (λ (k : ℕ). take k xs) one

pub push_next : (xs before after : List ℕ) (n x : ℕ) → n < length xs → before ≡ take n xs → after ≡ before ++ x ∷ [] → x ≡ get_or xs n 0 → after ≡ take (n + 1) xs
push_next xs before after n x l was push is =
    let one : suc n ≡ n + 1 = omega arith in
    push ∙ ap (λ (ys : List ℕ). ys ++ x ∷ []) was ∙ ap (λ (k : ℕ). take n xs ++ k ∷ []) is ∙ take_more xs n l ∙ ap (λ (k : ℕ). take k xs) one
