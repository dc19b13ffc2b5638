-- How many elements of a list pass a test that holds from one place up to another, and which.
use Rattle.std.proofs.Common.{◌≡◌, ℕ, zero, suc, ◌-◌, ◌<◌, ◌≤◌, Bool, true, false, cond, List, [], ◌∷◌, ◌+◌, length, filter, get_or, slice_get, ap, ◌∙◌, arith}

-- those from the one place up to the other pass, and no others do
pub record PassesFromTo {X : Type 0} (p : X → Bool) (xs : List X) (from until : ℕ) : Type 0 where
  pub within : until ≤ length xs
  pub early : (k : ℕ) (d : X) → k < from → k < length xs → p (get_or xs k d) ≡ false
  pub inside : (k : ℕ) (d : X) → from ≤ k → k < until → p (get_or xs k d) ≡ true
  pub late : (k : ℕ) (d : X) → until ≤ k → k < length xs → p (get_or xs k d) ≡ false

-- so many are kept
pub length_from_to : {X : Type 0} (p : X → Bool) (xs : List X) (from until : ℕ) → PassesFromTo p xs from until → length (filter p xs) ≡ until - from
length_from_to p [] from until is = let w = is.within in omega (arith, w)
length_from_to {X} p (x ∷ xs) from zero is =
    let first : length (filter p (x ∷ xs)) ≡ length (filter p xs) = ap (λ b. length (cond b (x ∷ filter p xs) (filter p xs))) (is.late zero x (omega arith) (omega arith)) in
    let rest : length (filter p xs) ≡ zero - from = length_from_to p xs from zero (record {
      within = omega arith;
      early = λ k d l w. is.late (suc k) d (omega arith) (omega arith);
      inside = λ k d l u. absurd (omega arith);
      late = λ k d l w. is.late (suc k) d (omega arith) (omega arith);
    }) in
    omega (arith, first, rest)
length_from_to {X} p (x ∷ xs) zero (suc until) is =
    let first : length (filter p (x ∷ xs)) ≡ suc (length (filter p xs)) = ap (λ b. length (cond b (x ∷ filter p xs) (filter p xs))) (is.inside zero x (omega arith) (omega arith)) in
    let rest : length (filter p xs) ≡ until - zero = length_from_to p xs zero until (record {
      within = let w = is.within in omega arith;
      early = λ k d l w. absurd (omega arith);
      inside = λ k d l u. is.inside (suc k) d (omega arith) (omega arith);
      late = λ k d l w. is.late (suc k) d (omega arith) (omega arith);
    }) in
    omega (arith, first, rest)
length_from_to {X} p (x ∷ xs) (suc from) (suc until) is =
    let first : length (filter p (x ∷ xs)) ≡ length (filter p xs) = ap (λ b. length (cond b (x ∷ filter p xs) (filter p xs))) (is.early zero x (omega arith) (omega arith)) in
    let rest : length (filter p xs) ≡ until - from = length_from_to p xs from until (record {
      within = let w = is.within in omega arith;
      early = λ k d l w. is.early (suc k) d (omega arith) (omega arith);
      inside = λ k d l u. is.inside (suc k) d (omega arith) (omega arith);
      late = λ k d l w. is.late (suc k) d (omega arith) (omega arith);
    }) in
    omega (arith, first, rest)

-- those from the one place on are kept, in their order
pub slice_get-from_to : {X : Type 0} (p : X → Bool) (xs : List X) (from until : ℕ) → PassesFromTo p xs from until → (n : ℕ) → from + n < until → slice_get (filter p xs) n ≡ slice_get xs (from + n)
slice_get-from_to p [] from until is n l = absurd (let w = is.within in omega (arith, w, l))
slice_get-from_to p (x ∷ xs) from zero is n l = absurd (omega arith)
slice_get-from_to {X} p (x ∷ xs) zero (suc until) is zero l =
    ap (λ b. slice_get (cond b (x ∷ filter p xs) (filter p xs)) zero) (is.inside zero x (omega arith) (omega arith))
    ∙ ap (slice_get (x ∷ xs)) (let e : zero ≡ zero + zero = omega arith in e)
slice_get-from_to {X} p (x ∷ xs) zero (suc until) is (suc n) l =
    ap (λ b. slice_get (cond b (x ∷ filter p xs) (filter p xs)) (suc n)) (is.inside zero x (omega arith) (omega arith))
    ∙ slice_get-from_to p xs zero until (record {
      within = let w = is.within in omega arith;
      early = λ k d l w. absurd (omega arith);
      inside = λ k d l u. is.inside (suc k) d (omega arith) (omega arith);
      late = λ k d l w. is.late (suc k) d (omega arith) (omega arith);
    }) n (omega arith)
    ∙ ap (slice_get (x ∷ xs)) (let e : suc (zero + n) ≡ zero + suc n = omega arith in e)
slice_get-from_to {X} p (x ∷ xs) (suc from) (suc until) is n l =
    ap (λ b. slice_get (cond b (x ∷ filter p xs) (filter p xs)) n) (is.early zero x (omega arith) (omega arith))
    ∙ slice_get-from_to p xs from until (record {
      within = let w = is.within in omega arith;
      early = λ k d l w. is.early (suc k) d (omega arith) (omega arith);
      inside = λ k d l u. is.inside (suc k) d (omega arith) (omega arith);
      late = λ k d l w. is.late (suc k) d (omega arith) (omega arith);
    }) n (omega arith)
    ∙ ap (slice_get (x ∷ xs)) (let e : suc (from + n) ≡ suc from + n = omega arith in e)
