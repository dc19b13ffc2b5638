-- The start arcs.
use Rattle.std.proofs.Common.{◌≡◌, ℕ, zero, suc, ◌+◌, ◌-◌, ◌≤◌, ◌<◌, ◌⊎◌, inl, inr, Bool, false, List, [], ◌∷◌, ◌++◌, length, get_or, refl, sym, ap, ◌∙◌, subst, arith, length-append, true≢false}
use Rattle.std.proofs.lemmas.List.{get_or_append_left, get_or-map, length-map, map-append}
use Rattle.std.proofs.Math.Seq.{get_or-append_seam}
use Rattle.std.proofs.lemmas.Bool.{cases_lt}
use Rattle.optra_dag.specs.declared.Arc.{Arc}
use Rattle.optra_bid.specs.Specs.{Path}
use Rattle.optra_graph.specs.declared.states.Layout.{Layout}
use Rattle.optra_graph.specs.Arcs.{start_arc, IsKeptStart, Starts}
use Rattle.optra_graph.specs.Flags.{is_set}
use Rattle.optra_walk.specs.Moves.{start_state}
use Rattle.optra_graph.specs.Places.{deadline_of, place_of}

module _ (path : Path) (layout : Layout) (flags : List Bool) where
  abbrev Made : ℕ → List Arc → List ℕ → Type 0
  Made before arcs minutes = Starts path layout flags before arcs minutes

  pub starts_nil : layout.first ≡ path.depart.from → Made layout.first [] []
  starts_nil e = record {
    made = refl;
    sound = λ k l. absurd (omega arith);
    rising = λ j k l m. absurd (omega arith);
    whole = λ m l w. let f = w.within.0 in absurd (omega arith);
  }

  pub starts_skip : (m : ℕ) (arcs : List Arc) (minutes : List ℕ) → is_set flags (place_of layout (start_state path m)) ≡ false → Made m arcs minutes → Made (m + 1) arcs minutes
  starts_skip m arcs minutes e h = record {
    made = h.made;
    sound = λ k l. let w = h.sound k l in (w.0, omega (arith, w.1));
    rising = h.rising;
    whole = λ n l w. by n l w (cases_lt n m);
  }
    where
      by : (n : ℕ) → n < m + 1 → IsKeptStart path layout flags n → (n < m) ⊎ (m ≤ n) → (k : ℕ) × (k < length minutes) × (get_or minutes k 0 ≡ n)
      by n l w (inl b) = h.whole n b w
      by n l w (inr b) = let s : n ≡ m = omega arith in absurd (true≢false (sym w.kept ∙ ap (λ (i : ℕ). is_set flags (place_of layout (start_state path i))) s ∙ e))

  pub starts_push : (m : ℕ) (arcs : List Arc) (minutes : List ℕ) → IsKeptStart path layout flags m → Made m arcs minutes → Made (m + 1) (arcs ++ start_arc path layout flags m ∷ []) (minutes ++ m ∷ [])
  starts_push m arcs minutes is h = record {
    made = ap (λ (xs : List Arc). xs ++ start_arc path layout flags m ∷ []) h.made ∙ sym (map-append (start_arc path layout flags) minutes (m ∷ []));
    sound = λ k l. sound k l (cases_lt k (length minutes));
    rising = λ j k l n. rising j k l n (cases_lt k (length minutes));
    whole = λ n l w. whole n l w (cases_lt n m);
  }
    where
      more : length (minutes ++ m ∷ []) ≡ length minutes + 1
      more = length-append minutes (m ∷ [])

      old : (k : ℕ) → k < length minutes → get_or (minutes ++ m ∷ []) k 0 ≡ get_or minutes k 0
      old k l = get_or_append_left minutes (m ∷ []) 0 k l

      last : (k : ℕ) → k ≡ length minutes → get_or (minutes ++ m ∷ []) k 0 ≡ m
      last k e = ap (λ i. get_or (minutes ++ m ∷ []) i 0) e ∙ get_or-append_seam minutes m [] 0

      sound : (k : ℕ) → k < length (minutes ++ m ∷ []) → (k < length minutes) ⊎ (length minutes ≤ k) → IsKeptStart path layout flags (get_or (minutes ++ m ∷ []) k 0) × (get_or (minutes ++ m ∷ []) k 0 < m + 1)
      sound k l (inl b) = let w = h.sound k b in (subst (IsKeptStart path layout flags) (sym (old k b)) w.0, omega (arith, w.1, old k b))
      sound k l (inr b) = let e = last k (omega (arith, more)) in (subst (IsKeptStart path layout flags) (sym e) is, omega (arith, e))

      rising : (j k : ℕ) → j < k → k < length (minutes ++ m ∷ []) → (k < length minutes) ⊎ (length minutes ≤ k) → get_or (minutes ++ m ∷ []) j 0 < get_or (minutes ++ m ∷ []) k 0
      rising j k l n (inl b) = let u = h.rising j k l b in omega (arith, old j (omega arith), old k b, u)
      rising j k l n (inr b) =
          let e = last k (omega (arith, more)) in
          let under : j < length minutes = omega (arith, more) in
          let w = h.sound j under in omega (arith, w.1, old j under, e)

      whole : (n : ℕ) → n < m + 1 → IsKeptStart path layout flags n → (n < m) ⊎ (m ≤ n) → (k : ℕ) × (k < length (minutes ++ m ∷ [])) × (get_or (minutes ++ m ∷ []) k 0 ≡ n)
      whole n l w (inl b) = let v = h.whole n b w in (v.0, omega (arith, v.1, more), old v.0 v.1 ∙ v.2)
      whole n l w (inr b) = (length minutes, omega (arith, more), last (length minutes) refl ∙ (omega arith))

  pub starts_end : (m end : ℕ) (arcs : List Arc) (minutes : List ℕ) → m ≤ end → (deadline_of layout 0 path.origin ≤ m) ⊎ (path.depart.to < m) → Made m arcs minutes → Made end arcs minutes
  starts_end m end arcs minutes le far h = record {
    made = h.made;
    sound = λ k l. let w = h.sound k l in (w.0, omega (arith, w.1));
    rising = h.rising;
    whole = λ n l w. h.whole n (by n w far) w;
  }
    where
      by : (n : ℕ) → IsKeptStart path layout flags n → (deadline_of layout 0 path.origin ≤ m) ⊎ (path.depart.to < m) → n < m
      by n w (inl f) = let t = w.timely.timely in omega arith
      by n w (inr f) = let u = w.within.1 in omega arith

  -- the start arcs leave the start
  pub starts_from : (before : ℕ) (arcs : List Arc) (minutes : List ℕ) → Made before arcs minutes → (k : ℕ) (d : Arc) → k < length arcs → (get_or arcs k d).from ≡ 0
  starts_from before arcs minutes h k d l =
      let n = ap length h.made ∙ length-map minutes (start_arc path layout flags) in
      ap (λ (xs : List Arc). (get_or xs k d).from) h.made ∙ ap (λ (a : Arc). a.from) (get_or-map (start_arc path layout flags) minutes k 0 d (omega (arith, n)))

  -- there are no more of them than minutes
  pub starts_few : (end : ℕ) (arcs : List Arc) (minutes : List ℕ) → layout.first ≡ path.depart.from → end ≡ layout.first + layout.minutes → Made end arcs minutes → length arcs ≤ layout.minutes
  starts_few end arcs minutes e f h = let n = ap length h.made ∙ length-map minutes (start_arc path layout flags) in by (cases_lt 0 (length minutes)) n
    where
      least : (k : ℕ) → k < length minutes → layout.first + k ≤ get_or minutes k 0
      least zero l = let w = (h.sound 0 l).0.within.0 in omega arith
      least (suc k) l = let w = least k (omega arith) in let u = h.rising k (suc k) (omega arith) l in omega arith

      by : (0 < length minutes) ⊎ (length minutes ≤ 0) → length arcs ≡ length minutes → length arcs ≤ layout.minutes
      by (inl l) n =
          let w = least (length minutes - 1) (omega arith) in
          let u = (h.sound (length minutes - 1) (omega arith)).1 in
          omega arith
      by (inr l) n = omega arith
