-- Narrow touches, and after them the others, as the touches that they stand for.
use Rattle.std.proofs.Common.{◌≡◌, ℕ, zero, suc, ◌-◌, ◌≤◌, List, [], ◌∷◌, ◌++◌, map, length, take, drop, refl, sym, ap, ◌∙◌, subst, arith, inl, inr}
use Rattle.std.specs.Prelude.{All}
use Rattle.std.specs.List.{slice_range}
use Rattle.std.proofs.lemmas.List.Elements.{All-nil, All-cons}
use Rattle.std.proofs.Common.{min}
use Rattle.std.proofs.Math.Nat.{min-eq_left, min-eq_right}
use Rattle.std.proofs.lemmas.Bool.{cases_lt}
use Rattle.std.proofs.lemmas.List.{drop-map, take-map, drop_min, take_all, length-drop, length-map}
use Rattle.optra_prices.specs.NarrowTouches.{touch_of, touches_of}
use Rattle.optra_prices.specs.Users.{rows_touched}
use Rattle.optra_prices.specs.declared.touch.Touch.{Touch}

-- what stands from a place on in two lists, one after the other
drop_both : {X : Type 0} (n : ℕ) (xs ys : List X) → drop n (xs ++ ys) ≡ drop n xs ++ drop (n - length xs) ys
drop_both zero xs ys = let none : 0 ≡ 0 - length xs = omega arith in ap (λ (k : ℕ). xs ++ drop k ys) none
drop_both (suc n) [] ys = let same : suc n ≡ suc n - 0 = omega arith in ap (λ (k : ℕ). drop k ys) same
drop_both (suc n) (x ∷ xs) ys =
    let same : n - length xs ≡ suc n - suc (length xs) = omega arith in
    drop_both n xs ys ∙ ap (λ (k : ℕ). drop n xs ++ drop k ys) same

-- the first elements of two lists, one after the other
take_both : {X : Type 0} (n : ℕ) (xs ys : List X) → take n (xs ++ ys) ≡ take n xs ++ take (n - length xs) ys
take_both zero xs ys = let none : 0 ≡ 0 - length xs = omega arith in ap (λ (k : ℕ). take k ys) none
take_both (suc n) [] ys = let same : suc n ≡ suc n - 0 = omega arith in ap (λ (k : ℕ). take k ys) same
take_both (suc n) (x ∷ xs) ys =
    let same : n - length xs ≡ suc n - suc (length xs) = omega arith in
    ap (λ (zs : List _). x ∷ zs) (take_both n xs ys ∙ ap (λ (k : ℕ). take n xs ++ take k ys) same)

-- a part of the first list, where the places may be past its end
range_within : {X : Type 0} (xs : List X) (a b : ℕ) → a ≤ b → slice_range xs (min a (length xs)) (min b (length xs)) ≡ take (b - a) (drop a xs)
range_within {X} xs a b l =
    let n = length xs in
    let rest = drop a xs in
    let long = length-drop a xs in
    let from : drop (min a n) xs ≡ rest = drop_min a xs in
    ap (take (min b n - min a n)) from ∙ elim (cases_lt n b) as (λ _. take (min b n - min a n) rest ≡ take (b - a) rest) [
      | inl past ↦
          let high : min b n ≡ n = min-eq_right (omega arith) in
          elim (cases_lt n a) as (λ _. take (min b n - min a n) rest ≡ take (b - a) rest) [
            | inl none ↦
                let low : min a n ≡ n = min-eq_right (omega arith) in
                take_all (min b n - min a n) rest (omega arith) ∙ sym (take_all (b - a) rest (omega arith))
            | inr some ↦
                let low : min a n ≡ a = min-eq_left (omega arith) in
                take_all (min b n - min a n) rest (omega arith) ∙ sym (take_all (b - a) rest (omega arith))
          ]
      | inr whole ↦
          let high : min b n ≡ b = min-eq_left (omega arith) in
          let low : min a n ≡ a = min-eq_left (omega arith) in
          let same : min b n - min a n ≡ b - a = omega arith in
          ap (λ (k : ℕ). take k rest) same
    ]

-- a part of the touches
pub range_of_touches : (narrow : List ℕ) (wide : List Touch) (a b : ℕ) → a ≤ b
    → touches_of (slice_range narrow (min a (length narrow)) (min b (length narrow))) (slice_range wide (a - length narrow) (b - length narrow)) ≡ slice_range (touches_of narrow wide) a b
range_of_touches narrow wide a b l =
    let n = length narrow in
    let all = map touch_of narrow in
    let rest = drop a all in
    let long = length-map narrow touch_of in
    let left = length-drop a all in
    let first : map touch_of (slice_range narrow (min a n) (min b n)) ≡ take (b - a) rest =
    ap (map touch_of) (range_within narrow a b l) ∙ sym (take-map touch_of (b - a) (drop a narrow)) ∙ sym (ap (take (b - a)) (drop-map touch_of a narrow)) in
    let start : a - n ≡ a - length all = omega arith in
    let count : (b - n) - (a - n) ≡ (b - a) - length rest = omega arith in
    let second : slice_range wide (a - n) (b - n) ≡ take ((b - a) - length rest) (drop (a - length all) wide) =
    ap (λ (k : ℕ). take k (drop (a - n) wide)) count ∙ ap (λ (k : ℕ). take ((b - a) - length rest) (drop k wide)) start in
    ap (λ (ts : List Touch). ts ++ slice_range wide (a - n) (b - n)) first
    ∙ ap (λ (ts : List Touch). take (b - a) rest ++ ts) second
    ∙ sym (ap (take (b - a)) (drop_both a all wide) ∙ take_both (b - a) rest (drop (a - length all) wide))

-- the same of lists and numbers that equal these
pub range_lent : (narrow v : List ℕ) (wide w : List Touch) (n a b from to start end : ℕ) → n ≡ length narrow → v ≡ narrow → w ≡ wide → from ≡ min a n → to ≡ min b n → start ≡ a - n → end ≡ b - n → a ≤ b
    → touches_of (slice_range v from to) (slice_range w start end) ≡ slice_range (touches_of narrow wide) a b
range_lent narrow v wide w n a b from to start end long lent others f t s e l =
    ap (λ (k : ℕ). touches_of (slice_range v k to) (slice_range w start end)) (f ∙ ap (min a) long)
    ∙ ap (λ (k : ℕ). touches_of (slice_range v (min a (length narrow)) k) (slice_range w start end)) (t ∙ ap (min b) long)
    ∙ ap (λ (k : ℕ). touches_of (slice_range v (min a (length narrow)) (min b (length narrow))) (slice_range w k end)) (s ∙ ap (λ (m : ℕ). a - m) long)
    ∙ ap (λ (k : ℕ). touches_of (slice_range v (min a (length narrow)) (min b (length narrow))) (slice_range w (a - length narrow) k)) (e ∙ ap (λ (m : ℕ). b - m) long)
    ∙ ap (λ (xs : List ℕ). touches_of (slice_range xs (min a (length narrow)) (min b (length narrow))) (slice_range w (a - length narrow) (b - length narrow))) lent
    ∙ ap (λ (ts : List Touch). touches_of (slice_range narrow (min a (length narrow)) (min b (length narrow))) (slice_range ts (a - length narrow) (b - length narrow))) others
    ∙ range_of_touches narrow wide a b l

-- where no others are, each uses its row once
pub narrow_once : (narrow : List ℕ) (wide : List Touch) → wide ≡ [] → All (λ touch. touch.uses ≡ 1) (touches_of narrow wide)
narrow_once [] wide none = subst (All (λ (t : Touch). t.uses ≡ 1)) (sym none) (All-nil (λ (t : Touch). t.uses ≡ 1))
narrow_once (row ∷ narrow) wide none = All-cons (λ (t : Touch). t.uses ≡ 1) (touch_of row) (touches_of narrow wide) refl (narrow_once narrow wide none)

-- the rows of narrow touches alone
rows_alone : (narrow : List ℕ) → narrow ≡ rows_touched (map touch_of narrow ++ [])
rows_alone [] = refl
rows_alone (row ∷ narrow) = ap (λ (rows : List ℕ). row ∷ rows) (rows_alone narrow)

pub rows_narrow : (narrow : List ℕ) (wide : List Touch) → length wide ≡ 0 → narrow ≡ rows_touched (touches_of narrow wide)
rows_narrow narrow [] none = rows_alone narrow
rows_narrow narrow (touch ∷ wide) none = absurd (omega arith)
