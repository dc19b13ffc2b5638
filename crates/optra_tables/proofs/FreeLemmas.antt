-- Keys that are still free: each row that is accepted takes one.
use Rattle.std.proofs.Common.{◌≡◌, ◌+◌, ◌<◌, ◌≤◌, ◌⊎◌, ℕ, zero, suc, Bool, true, false, cond, List, [], ◌∷◌, ◌++◌, Some, is_some, nat_lt, refl, inl, inr, arith, subst}
use Rattle.std.proofs.lemmas.Bool.{cases_Bool, ltb-false, ltb-true}
use Rattle.std.specs.Map.{lookup}
use Rattle.optra_tables.specs.Room.{free_below}

free_step : (a b : Bool) (x y : ℕ) → (a ≡ true → b ≡ true) → x ≤ y → cond b 0 1 + x ≤ cond a 0 1 + y
free_step true true x y h k = omega arith
free_step true false x y h k = absurd (cc (h refl))
free_step false true x y h k = omega arith
free_step false false x y h k = omega arith

free_step_more : (a b : Bool) (x y : ℕ) → (a ≡ true → b ≡ true) → x + 1 ≤ y → (cond b 0 1 + x) + 1 ≤ cond a 0 1 + y
free_step_more true true x y h k = omega arith
free_step_more true false x y h k = absurd (cc (h refl))
free_step_more false true x y h k = omega arith
free_step_more false false x y h k = omega arith

-- where more is taken, no more is free
free_fewer : (p q : ℕ → Bool) (n : ℕ) → ((k : ℕ) → p k ≡ true → q k ≡ true) → free_below q n ≤ free_below p n
unfolding free_below
free_fewer p q zero h = omega arith
free_fewer p q (suc n) h = free_step (p n) (q n) _ _ (h n) (free_fewer p q n h)

last_or_below : (i n : ℕ) → i < suc n → (i ≡ n) ⊎ (i < n)
last_or_below i n h = elim (cases_Bool (nat_lt i n)) [
  | inl lower ↦ inr (ltb-true i n lower)
  | inr other ↦ let high = ltb-false i n other in inl (omega (arith, high))
]

-- where one more is taken, one fewer is free
pub free_less : (p q : ℕ → Bool) (n i : ℕ) → ((k : ℕ) → p k ≡ true → q k ≡ true) → i < n → p i ≡ false → q i ≡ true → free_below q n + 1 ≤ free_below p n
unfolding free_below
free_less p q zero i h l a b = absurd (omega arith)
free_less p q (suc n) i h l a b = elim (last_or_below i n l) [
  | inl here ↦
      let pn : p n ≡ false = subst (λ (j : ℕ). p j ≡ false) here a in
      let qn : q n ≡ true = subst (λ (j : ℕ). q j ≡ true) here b in
      let rest : free_below q n ≤ free_below p n = free_fewer p q n h in
      rw (pn, qn) (omega arith)
  | inr below ↦ free_step_more (p n) (q n) _ _ (h n) (free_less p q n i h below a b)
]

-- no more are free than there are
pub free_within : (p : ℕ → Bool) (n : ℕ) → free_below p n ≤ n
unfolding free_below
free_within p zero = omega arith
free_within p (suc n) = within (p n) _ n (free_within p n)
  where
    within : (a : Bool) (x n : ℕ) → x ≤ n → cond a 0 1 + x ≤ suc n
    within true x n h = omega arith
    within false x n h = omega arith

module _ {K X : Type 0} (test : K → Bool) (e : K × X) where
  -- a key that is there stays there
  pub lookup_stays : (es : List (K × X)) → is_some (lookup test es) ≡ true → is_some (lookup test (es ++ e ∷ [])) ≡ true
  lookup_stays [] h = absurd (cc h)
  lookup_stays (f ∷ es) h = stays (test f.0) f es h (lookup_stays es)
    where
      stays : (b : Bool) (f : K × X) (es : List (K × X)) → is_some (cond b (Some f.1) (lookup test es)) ≡ true → (is_some (lookup test es) ≡ true → is_some (lookup test (es ++ e ∷ [])) ≡ true)
          → is_some (cond b (Some f.1) (lookup test (es ++ e ∷ []))) ≡ true
      stays true f es h more = refl
      stays false f es h more = more h

  -- a key that was added is there
  pub lookup_added : (es : List (K × X)) → test e.0 ≡ true → is_some (lookup test (es ++ e ∷ [])) ≡ true
  lookup_added [] h = rw h refl
  lookup_added (f ∷ es) h = added (test f.0) f es (lookup_added es h)
    where
      added : (b : Bool) (f : K × X) (es : List (K × X)) → is_some (lookup test (es ++ e ∷ [])) ≡ true → is_some (cond b (Some f.1) (lookup test (es ++ e ∷ []))) ≡ true
      added true f es h = refl
      added false f es h = h
