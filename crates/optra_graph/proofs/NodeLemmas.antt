-- The nodes of kept places.
use Rattle.std.proofs.Common.{◌≡◌, ℕ, zero, suc, ◌+◌, ◌-◌, ◌≤◌, ◌<◌, Bool, true, false, List, [], ◌∷◌, length, get_or, take, refl, sym, ap, ◌∙◌, arith, true≢false, add-one}
use Rattle.std.proofs.Math.ListN.{length-map}
use Rattle.std.proofs.lemmas.List.{get_or-map}
use Rattle.optra_graph.specs.declared.states.Layout.{Layout}
use Rattle.optra_graph.specs.Flags.{is_set, IsSet}
use Rattle.optra_graph.specs.Graphs.{state_at, no_state, IsStateNode}
use Rattle.optra_graph.specs.Nodes.{kept_before, node_of, kept_from, states_of}
use Rattle.optra_graph.specs.Places.{state_of}

pub kept_yes : (flags : List Bool) (i : ℕ) → IsSet flags i → kept_before flags (suc i) ≡ kept_before flags i + 1
kept_yes [] i h = absurd (true≢false (sym h))
kept_yes (true ∷ fs) zero h = by fs
  where
    by : (fs : List Bool) → kept_before fs 0 + 1 ≡ 1
    by [] = refl
    by (f ∷ fs) = refl
kept_yes (false ∷ fs) zero h = absurd (true≢false (sym h))
kept_yes (true ∷ fs) (suc i) h = ap (λ n. n + 1) (kept_yes fs i h)
kept_yes (false ∷ fs) (suc i) h = kept_yes fs i h

pub kept_no : (flags : List Bool) (i : ℕ) → is_set flags i ≡ false → kept_before flags (suc i) ≡ kept_before flags i
kept_no [] i h = refl
kept_no (true ∷ fs) zero h = absurd (true≢false h)
kept_no (false ∷ fs) zero h = by fs
  where
    by : (fs : List Bool) → kept_before fs 0 ≡ 0
    by [] = refl
    by (f ∷ fs) = refl
kept_no (true ∷ fs) (suc i) h = ap (λ n. n + 1) (kept_no fs i h)
kept_no (false ∷ fs) (suc i) h = kept_no fs i h

pub kept_few : (flags : List Bool) (i : ℕ) → kept_before flags i ≤ i
kept_few [] i = omega arith
kept_few (f ∷ fs) zero = omega arith
kept_few (true ∷ fs) (suc i) = let h = kept_few fs i in omega arith
kept_few (false ∷ fs) (suc i) = let h = kept_few fs i in omega arith

kept_next : (flags : List Bool) (i : ℕ) → kept_before flags i ≤ kept_before flags (suc i)
kept_next flags i = by (is_set flags i) refl
  where
    by : (b : Bool) → is_set flags i ≡ b → kept_before flags i ≤ kept_before flags (suc i)
    by true e = let k = kept_yes flags i e in omega arith
    by false e = let k = kept_no flags i e in omega arith

kept_along : (flags : List Bool) (i n : ℕ) → kept_before flags i ≤ kept_before flags (i + n)
kept_along flags i zero = let e = ap (kept_before flags) (add-zero i) in omega arith
  where
    add-zero : (i : ℕ) → i + 0 ≡ i
    add-zero i = omega arith
kept_along flags i (suc n) =
    let h = kept_along flags i n in
    let k = kept_next flags (i + n) in
    let s : i + suc n ≡ suc (i + n) = omega arith in
    let e = ap (kept_before flags) s in
    omega arith

-- none is kept where no flag is set
pub kept_none : (flags : List Bool) (i n : ℕ) → ((place : ℕ) → i ≤ place → place < i + n → IsSet flags place → ⊥) → kept_before flags (i + n) ≡ kept_before flags i
kept_none flags i zero none = ap (kept_before flags) (omega arith)
kept_none flags i (suc n) none = by (is_set flags (i + n)) refl (kept_none flags i n (λ place l m. none place l (omega arith)))
  where
    by : (b : Bool) → is_set flags (i + n) ≡ b → kept_before flags (i + n) ≡ kept_before flags i → kept_before flags (i + suc n) ≡ kept_before flags i
    by true e h = absurd (none (i + n) (omega arith) (omega arith) e)
    by false e h = let s : i + suc n ≡ suc (i + n) = omega arith in ap (kept_before flags) s ∙ kept_no flags (i + n) e ∙ h

pub kept_up : (flags : List Bool) (i j : ℕ) → i ≤ j → kept_before flags i ≤ kept_before flags j
kept_up flags i j l =
    let h = kept_along flags i (j - i) in
    let s : i + (j - i) ≡ j = omega arith in
    let e = ap (kept_before flags) s in
    omega arith

pub kept_less : (flags : List Bool) (i j : ℕ) → i < j → IsSet flags i → kept_before flags i < kept_before flags j
kept_less flags i j l h = let k = kept_yes flags i h in let u = kept_up flags (suc i) j l in omega arith

at_kept : (fs : List Bool) (i p d : ℕ) → IsSet fs p → get_or (kept_from i fs) (kept_before fs p) d ≡ i + p
at_kept [] i p d h = absurd (true≢false (sym h))
at_kept (true ∷ fs) i zero d h = omega arith
at_kept (false ∷ fs) i zero d h = absurd (true≢false (sym h))
at_kept (true ∷ fs) i (suc p) d h = rw add-one (let e = at_kept fs (suc i) p d h in omega arith)
at_kept (false ∷ fs) i (suc p) d h = let e = at_kept fs (suc i) p d h in omega arith

kept_of : (fs : List Bool) (i n : ℕ) → n < length (kept_from i fs) → (p : ℕ) × (p < length fs) × IsSet fs p × (kept_before fs p ≡ n)
kept_of [] i n l = absurd (omega arith)
kept_of (true ∷ fs) i zero l = (0, omega arith, refl, refl)
kept_of (true ∷ fs) i (suc n) l = let w = kept_of fs (suc i) n (omega arith) in (suc w.0, omega (arith, w.1), w.2, omega (arith, w.3))
kept_of (false ∷ fs) i n l = let w = kept_of fs (suc i) n l in (suc w.0, omega (arith, w.1), w.2, w.3)

length_kept : (fs : List Bool) (i : ℕ) → length (kept_from i fs) ≡ kept_before fs (length fs)
length_kept [] i = refl
length_kept (true ∷ fs) i = let e = length_kept fs (suc i) in omega arith
length_kept (false ∷ fs) i = length_kept fs (suc i)

kept_take : (fs : List Bool) (n p : ℕ) → p ≤ n → kept_before (take n fs) p ≡ kept_before fs p
kept_take [] zero p l = refl
kept_take [] (suc n) p l = refl
kept_take (f ∷ fs) zero zero l = refl
kept_take (f ∷ fs) zero (suc p) l = absurd (omega arith)
kept_take (f ∷ fs) (suc n) zero l = refl
kept_take (true ∷ fs) (suc n) (suc p) l = ap (λ k. k + 1) (kept_take fs n p (omega arith))
kept_take (false ∷ fs) (suc n) (suc p) l = kept_take fs n p (omega arith)

set_take : (fs : List Bool) (n p : ℕ) → p < n → is_set (take n fs) p ≡ is_set fs p
set_take [] zero p l = refl
set_take [] (suc n) p l = refl
set_take (f ∷ fs) zero p l = absurd (omega arith)
set_take (f ∷ fs) (suc n) zero l = refl
set_take (f ∷ fs) (suc n) (suc p) l = set_take fs n p (omega arith)

take_len : (fs : List Bool) (n : ℕ) → n ≤ length fs → length (take n fs) ≡ n
take_len fs zero l = by fs
  where
    by : (fs : List Bool) → length (take 0 fs) ≡ 0
    by [] = refl
    by (f ∷ fs) = refl
take_len [] (suc n) l = absurd (omega arith)
take_len (f ∷ fs) (suc n) l = let e = take_len fs n (omega arith) in omega arith

module _ (layout : Layout) (flags : List Bool) (n : ℕ) (len : length flags ≡ n + 1) where
  -- there is a node for each kept place before the end
  pub count_states : length (states_of layout n flags) ≡ kept_before flags n
  count_states =
      let m = take_len flags n (omega arith) in
      length-map (kept_from 0 (take n flags)) (state_of layout) ∙ length_kept (take n flags) 0 ∙ ap (kept_before (take n flags)) m ∙ kept_take flags n n (omega arith)

  pub node_is : (p : ℕ) → p < n → IsSet flags p → IsStateNode (states_of layout n flags) (node_of flags p)
  node_is p l h = let c = count_states in let k = kept_less flags p n l h in (omega arith, omega arith)

  pub node_state : (p : ℕ) → p < n → IsSet flags p → state_at (states_of layout n flags) (node_of flags p) ≡ state_of layout p
  node_state p l h =
      let c = count_states in
      let k = kept_less flags p n l h in
      let back : node_of flags p - 1 ≡ kept_before flags p = omega arith in
      let short : kept_before flags p < length (kept_from 0 (take n flags)) = omega (arith, length-map (kept_from 0 (take n flags)) (state_of layout)) in
      let at = at_kept (take n flags) 0 p 0 (set_take flags n p l ∙ h) in
      let same : get_or (kept_from 0 (take n flags)) (kept_before flags p) 0 ≡ p = ap (λ (k : ℕ). get_or (kept_from 0 (take n flags)) k 0) (sym (kept_take flags n p (omega arith))) ∙ at ∙ (omega arith) in
      ap (λ (k : ℕ). get_or (states_of layout n flags) k no_state) back
      ∙ get_or-map (state_of layout) (kept_from 0 (take n flags)) (kept_before flags p) 0 no_state short
      ∙ ap (state_of layout) same

  pub node_place : (m : ℕ) → IsStateNode (states_of layout n flags) m → (p : ℕ) × (p < n) × IsSet flags p × (node_of flags p ≡ m)
  node_place m (l, u) =
      let e = length-map (kept_from 0 (take n flags)) (state_of layout) in
      let w = kept_of (take n flags) 0 (m - 1) (omega arith) in
      let t = take_len flags n (omega arith) in
      let below : w.0 < n = omega (arith, w.1, t) in
      let back = kept_take flags n w.0 (omega arith) in
      (w.0, below, sym (set_take flags n w.0 below) ∙ w.2, omega (arith, w.3, back))
