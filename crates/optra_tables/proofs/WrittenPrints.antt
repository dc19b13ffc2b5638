-- What is printed so far, as a loop goes on.
use Rattle.std.proofs.Common.{◌≡◌, ◌+◌, ◌<◌, ◌++◌, ℕ, suc, List, ◌∷◌, length, drop, drop-cons, get_or, nat_lt, IfOk, Ok, Err, refl, sym, ap, ◌∙◌, subst, inl, inr, arith, add-one, append_assoc}
use Rattle.std.proofs.lemmas.Bool.{cases_Bool, ltb-false, ltb-true}
use Rattle.std.proofs.lemmas.Option.{get_or_from_slice_get, slice_get-get_or}
use Rattle.std.specs.Prelude.{Result}

module _ {X : Type 0} where
  -- one more piece is printed
  pub next_printed : (text_of : List X → List ℕ) (piece : List ℕ) (xs : List X) (i : ℕ) (x : X) (old new whole : List ℕ) → i < length xs → x ≡ get_or xs i x
      → ((rest : List X) → text_of (x ∷ rest) ≡ piece ++ text_of rest) → new ≡ old ++ piece → old ++ text_of (drop i xs) ≡ whole → new ++ text_of (drop (i + 1) xs) ≡ whole
  next_printed text_of piece xs i x old new whole h is cons n e =
      let cut : drop i xs ≡ x ∷ drop (suc i) xs = drop-cons xs i x h ∙ ap (λ y. y ∷ drop (suc i) xs) (sym is) in
      let parts : old ++ (piece ++ text_of (drop (suc i) xs)) ≡ whole = subst (λ t. old ++ t ≡ whole) (ap text_of cut ∙ cons (drop (suc i) xs)) e in
      rw (add-one i, n, append_assoc) parts

  -- two parts after each other are one
  pub joined : (old a b mid new : List X) → mid ≡ old ++ a → new ≡ mid ++ b → new ≡ old ++ (a ++ b)
  joined old a b mid new e f = rw (f, e, append_assoc) refl

  -- what holds of those before a place and of the one at the place
  pub one_more : (P : X → Type 0) (xs : List X) (i : ℕ) (x : X) → i < length xs → x ≡ get_or xs i x → P x → ((k : ℕ) (d : X) → k < i → P (get_or xs k d)) → (k : ℕ) (d : X) → k < i + 1 → P (get_or xs k d)
  one_more P xs i x h is p before k d l = elim (cases_Bool (nat_lt k i)) [
    | inl lower ↦ before k d (ltb-true k i lower)
    | inr other ↦
        let high = ltb-false k i other in
        let here : i ≡ k = omega (arith, high, l) in
        subst P (is ∙ sym (get_or_from_slice_get xs i (get_or xs i x) d (slice_get-get_or xs i x h)) ∙ ap (λ j. get_or xs j d) here) p
  ]

-- what a value tells when there is one
pub if_there : {A E : Type 0} (P Q : A → Type 0) (r : Result A E) → ((x : A) → P x → Q x) → IfOk r P → IfOk r Q
if_there P Q (Ok x) f h = f x h
if_there P Q (Err e) f h = h
