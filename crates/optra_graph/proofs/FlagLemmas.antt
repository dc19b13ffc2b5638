-- Flags that are set and cleared one by one.
use Rattle.std.proofs.Common.{◌≡◌, ℕ, zero, suc, ◌+◌, ◌≤◌, ◌<◌, ◌⊎◌, inl, inr, Bool, true, false, cond, List, [], ◌∷◌, ◌++◌, length, get_or, set, take, refl, sym, ap, ◌∙◌, subst, arith, Contains, true≢false, length-set, get_or-set_other, get_or-set_same, replicate, min}
use Rattle.std.specs.List.{count_by, filter}
use Rattle.std.proofs.lemmas.List.Sums.{length-filter}
use Rattle.std.proofs.lemmas.Bool.{cases_eq, cases_lt}
use Rattle.std.proofs.lemmas.List.{take_more}
use Rattle.std.proofs.lemmas.List.Elements.{Contains-append_left, Contains-push, Contains-push_cases}
use Rattle.optra_network.specs.Net.{IsFromTo}
use Rattle.optra_bid.specs.Specs.{Path}
use Rattle.optra_graph.specs.declared.states.Layout.{Layout}
use Rattle.optra_graph.specs.declared.stepping.Step.{Step}
use Rattle.optra_graph.specs.Flags.{is_set, IsSet, IsStartPlace, AreStartsSet, Marks}
use Rattle.optra_walk.specs.Moves.{start_state}
use Rattle.optra_graph.specs.Places.{IsTimely, deadline_of, place_of}
use Rattle.optra_graph.proofs.WayLemmas.{contains_filter}

-- a flag beyond the end is not set
pub set_within : (flags : List Bool) (p : ℕ) → IsSet flags p → p < length flags
set_within [] p h = absurd (true≢false (sym h))
set_within (f ∷ fs) zero h = omega arith
set_within (f ∷ fs) (suc p) h = let l = set_within fs p h in omega arith

pub set_here : (flags : List Bool) (p : ℕ) (b : Bool) → p < length flags → is_set (set flags p b) p ≡ b
set_here flags p b l = get_or-set_same flags p b false l

pub set_there : (flags : List Bool) (p q : ℕ) (b : Bool) → (q ≡ p → ⊥) → is_set (set flags p b) q ≡ is_set flags q
set_there flags p q b apart = get_or-set_other flags p q b false apart

pub set_keeps : (flags : List Bool) (p q : ℕ) → p < length flags → IsSet flags q → IsSet (set flags p true) q
set_keeps flags p q l h = by (cases_eq q p)
  where
    by : (q ≡ p) ⊎ (q ≡ p → ⊥) → IsSet (set flags p true) q
    by (inl e) = subst (IsSet (set flags p true)) (sym e) (set_here flags p true l)
    by (inr n) = set_there flags p q true n ∙ h

pub set_cases : (flags : List Bool) (p q : ℕ) → p < length flags → IsSet (set flags p true) q → IsSet flags q ⊎ (q ≡ p)
set_cases flags p q l h = by (cases_eq q p)
  where
    by : (q ≡ p) ⊎ (q ≡ p → ⊥) → IsSet flags q ⊎ (q ≡ p)
    by (inl e) = inr e
    by (inr n) = inl (sym (set_there flags p q true n) ∙ h)

pub none_set : (n p : ℕ) → IsSet (replicate n false) p → ⊥
none_set n p h =
    let l = set_within (replicate n false) p h in
    absurd (true≢false (sym h ∙ all n p))
  where
    all : (n p : ℕ) → is_set (replicate n false) p ≡ false
    all zero p = refl
    all (suc n) zero = refl
    all (suc n) (suc p) = all n p

-- ---- starts

pub starts_none : (path : Path) (layout : Layout) (flags : List Bool) → AreStartsSet path layout layout.first flags flags
starts_none path layout flags = record {
  len = refl;
  keeps = λ p h. h;
  starts = λ m w l p. let e = p.placed.early in absurd (omega arith);
  only = λ p h. inl h;
}

pub starts_more : (path : Path) (layout : Layout) (m : ℕ) (old flags : List Bool) → IsFromTo path.depart.from path.depart.to m → IsTimely layout (start_state path m)
    → place_of layout (start_state path m) < length flags → AreStartsSet path layout m old flags → AreStartsSet path layout (m + 1) old (set flags (place_of layout (start_state path m)) true)
starts_more path layout m old flags within placed l h = record {
  len = length-set flags (place_of layout (start_state path m)) true ∙ h.len;
  keeps = λ p s. set_keeps flags (place_of layout (start_state path m)) p l (h.keeps p s);
  starts = λ n w b q. by n w q (cases_lt n m) b;
  only = λ p s. from p (set_cases flags (place_of layout (start_state path m)) p l s);
}
  where
    by : (n : ℕ) → IsFromTo path.depart.from path.depart.to n → IsTimely layout (start_state path n) → (n < m) ⊎ (m ≤ n) → n < m + 1 → IsSet (set flags (place_of layout (start_state path m)) true) (place_of layout (start_state path n))
    by n w q (inl b) _ = set_keeps flags (place_of layout (start_state path m)) (place_of layout (start_state path n)) l (h.starts n w b q)
    by n w q (inr b) c = let e : m ≡ n = omega arith in
        subst (λ k. IsSet (set flags (place_of layout (start_state path m)) true) (place_of layout (start_state path k))) e (set_here flags (place_of layout (start_state path m)) true l)

    from : (p : ℕ) → IsSet flags p ⊎ (p ≡ place_of layout (start_state path m)) → IsSet old p ⊎ IsStartPlace path layout p
    from p (inl s) = h.only p s
    from p (inr e) = inr (m, within, placed, e)

pub starts_all : (path : Path) (layout : Layout) (m n : ℕ) (old flags : List Bool) → (deadline_of layout 0 path.origin ≤ m) ⊎ (path.depart.to < m) → AreStartsSet path layout m old flags → AreStartsSet path layout n old flags
starts_all path layout m n old flags far h = record {
  len = h.len;
  keeps = h.keeps;
  starts = λ k w l p. h.starts k w (by k w p far) p;
  only = h.only;
}
  where
    by : (k : ℕ) → IsFromTo path.depart.from path.depart.to k → IsTimely layout (start_state path k) → (deadline_of layout 0 path.origin ≤ m) ⊎ (path.depart.to < m) → k < m
    by k w p (inl f) = let t = p.timely in omega arith
    by k w p (inr f) = let u = w.1 in omega arith

-- ---- marks

pub marks_none : (flags : List Bool) → Marks [] flags flags
marks_none flags = record { len = refl; keeps = λ p h. h; marks = λ x c. absurd (omega (arith, c.1)); only = λ p h. inl h }

pub marks_more : (steps : List Step) (i : ℕ) (d : Step) (old flags : List Bool) → i < length steps → (get_or steps i d).to < length flags
    → Marks (take i steps) old flags → Marks (take (i + 1) steps) old (set flags (get_or steps i d).to true)
marks_more steps i d old flags l w h = subst (λ (xs : List Step). Marks xs old (set flags (get_or steps i d).to true)) (sym (take_more steps i d l)) (record {
  len = length-set flags (get_or steps i d).to true ∙ h.len;
  keeps = λ p s. set_keeps flags (get_or steps i d).to p w (h.keeps p s);
  marks = λ x c. by x (Contains-push_cases (take i steps) (get_or steps i d) x c);
  only = λ p s. from p (set_cases flags (get_or steps i d).to p w s);
})
  where
    by : (x : Step) → Contains (take i steps) x ⊎ (get_or steps i d ≡ x) → IsSet (set flags (get_or steps i d).to true) x.to
    by x (inl c) = set_keeps flags (get_or steps i d).to x.to w (h.marks x c)
    by x (inr e) = subst (λ (y : Step). IsSet (set flags (get_or steps i d).to true) y.to) e (set_here flags (get_or steps i d).to true w)

    from : (p : ℕ) → IsSet flags p ⊎ (p ≡ (get_or steps i d).to) → IsSet old p ⊎ ((step : Step) × Contains (take i steps ++ get_or steps i d ∷ []) step × (step.to ≡ p))
    from p (inl s) = last (h.only p s)
      where
        last : IsSet old p ⊎ ((step : Step) × Contains (take i steps) step × (step.to ≡ p)) → IsSet old p ⊎ ((step : Step) × Contains (take i steps ++ get_or steps i d ∷ []) step × (step.to ≡ p))
        last (inl o) = inl o
        last (inr (x, c, e)) = inr (x, Contains-append_left (take i steps) (get_or steps i d ∷ []) x c, e)
    from p (inr e) = inr (get_or steps i d, Contains-push (take i steps) (get_or steps i d), sym e)

-- ---- counts

pub count_none : {X : Type 0} (p : X → Bool) (xs : List X) (x : X) → count_by p xs ≡ 0 → Contains xs x → p x ≡ true → ⊥
count_none p xs x e c t = let f = contains_filter p xs x c.0 c.1 c.2 t in omega (arith, f.1, length-filter p xs, e)

kept_some : {X : Type 0} (p : X → Bool) (xs : List X) → (length (filter p xs) ≡ 0 → ⊥) → (x : X) × Contains xs x × (p x ≡ true)
kept_some p [] n = absurd (n refl)
kept_some {X = X} p (y ∷ ys) n = by (p y) refl (kept_some p ys)
  where
    by : (b : Bool) → p y ≡ b → ((length (filter p ys) ≡ 0 → ⊥) → (x : X) × Contains ys x × (p x ≡ true)) → (x : X) × Contains (y ∷ ys) x × (p x ≡ true)
    by true e more = (y, (0, omega arith, refl), e)
    by false e more =
        let w = more (λ z. n (ap (λ (b : Bool). length (cond b (y ∷ filter p ys) (filter p ys))) e ∙ z)) in (w.0, (suc w.1.0, omega (arith, w.1.1), w.1.2), w.2)

pub count_some : {X : Type 0} (p : X → Bool) (xs : List X) → (count_by p xs ≡ 0 → ⊥) → (x : X) × Contains xs x × (p x ≡ true)
count_some p xs n = kept_some p xs (λ z. n (sym (length-filter p xs) ∙ z))

pub default_same : {X : Type 0} (xs : List X) (i : ℕ) (d e : X) → i < length xs → get_or xs i d ≡ get_or xs i e
default_same [] i d e l = absurd (omega arith)
default_same (x ∷ xs) zero d e l = refl
default_same (x ∷ xs) (suc i) d e l = default_same xs i d e (omega arith)

-- a flag that was read
pub read_flag : (flags : List Bool) (p : ℕ) (x b : Bool) → p < length flags → x ≡ get_or flags p x → x ≡ b → is_set flags p ≡ b
read_flag flags p x b l e f = default_same flags p false x l ∙ sym e ∙ f

-- a minute that is not before the end of the starts is past one of the two
pub far_start : (to end m : ℕ) → min (to + 1) end ≤ m → (end ≤ m) ⊎ (to < m)
far_start to end m l = by (cases_lt to m)
  where
    by : (to < m) ⊎ (m ≤ to) → (end ≤ m) ⊎ (to < m)
    by (inl h) = inr h
    by (inr h) = inl (omega arith)
