-- The arcs of a path: first a start arc, and then those of the legs of its walk.
use Rattle.std.proofs.Common.{◌≡◌, ℕ, zero, suc, ◌+◌, ◌≤◌, ◌<◌, ◌⊎◌, inl, inr, true, List, [], ◌∷◌, ◌++◌, length, map, take, get_or, refl, ap, ◌∙◌, arith}
use Rattle.std.proofs.lemmas.Bool.{cases_lt}
use Rattle.std.proofs.lemmas.List.{take_more, map-append}
use Rattle.optra_dag.specs.Paths.{LeadsToEnd, from_of, to_of}
use Rattle.optra_graph.specs.Timed.{Timed, IsLaidOut, leg_at, walk_of, IsRoute}

module _ (t : Timed) (laid : IsLaidOut t) where
  is_leg : (k : ℕ) → (from_of t.dag k ≡ 0 → ⊥) → length t.minutes ≤ k
  is_leg k n = by (cases_lt k (length t.minutes))
    where
      by : (k < length t.minutes) ⊎ (length t.minutes ≤ k) → length t.minutes ≤ k
      by (inl l) = absurd (n (laid.starts k l))
      by (inr l) = l

  leads_at : (n : ℕ) (ks : List ℕ) → 1 ≤ n → LeadsToEnd t.dag (λ _. true) n ks → (i d : ℕ) → i < length ks → (length t.minutes ≤ get_or ks i d) × (get_or ks i d < length t.dag.arcs)
  leads_at n [] l w i d b = absurd (omega arith)
  leads_at n (k ∷ ks) l w zero d b = let e = w.2 in (is_leg k (λ z. omega arith), w.0)
  leads_at n (k ∷ ks) l w (suc i) d b = let e = w.2 in let up = laid.forward.forward k w.0 in leads_at (to_of t.dag k) ks (omega arith) w.3 i d (omega arith)

  pub arc_there : (path : List ℕ) → IsRoute t path → (i d : ℕ) → i < length path → get_or path i d < length t.dag.arcs
  arc_there [] r i d l = absurd (omega arith)
  arc_there (k ∷ ks) r zero d l = r.leads.0
  arc_there (k ∷ ks) r (suc i) d l = let up = laid.forward.forward k r.leads.0 in let w = leads_at (to_of t.dag k) ks (omega arith) r.leads.3 i d (omega arith) in w.1

  -- only the first arc is a start arc
  pub start_first : (path : List ℕ) → IsRoute t path → (i d : ℕ) → i < length path → get_or path i d < length t.minutes → i ≡ 0
  start_first [] r i d l s = absurd (omega arith)
  start_first (k ∷ ks) r zero d l s = refl
  start_first (k ∷ ks) r (suc i) d l s = let up = laid.forward.forward k r.leads.0 in let w = leads_at (to_of t.dag k) ks (omega arith) r.leads.3 i d (omega arith) in absurd (omega (arith, w.0))

  pub leg_later : (path : List ℕ) → IsRoute t path → (i d : ℕ) → i < length path → length t.minutes ≤ get_or path i d → 1 ≤ i
  leg_later [] r i d l s = absurd (omega arith)
  leg_later (k ∷ ks) r zero d l s = let m = laid.others k r.leads.0 r.leads.2 in absurd (omega arith)
  leg_later (k ∷ ks) r (suc i) d l s = omega arith

  pub walk_none : (path : List ℕ) → walk_of t (take 0 path) ≡ []
  walk_none [] = refl
  walk_none (k ∷ ks) = refl

  pub walk_first : (path : List ℕ) → walk_of t (take 1 path) ≡ []
  walk_first [] = refl
  walk_first (k ∷ []) = refl
  walk_first (k ∷ j ∷ ks) = refl

  pub walk_more : (path : List ℕ) (i d : ℕ) → 1 ≤ i → i < length path → walk_of t (take (i + 1) path) ≡ walk_of t (take i path) ++ leg_at t (get_or path i d) ∷ []
  walk_more [] i d l b = absurd (omega arith)
  walk_more (k ∷ ks) zero d l b = absurd (omega arith)
  walk_more (k ∷ ks) (suc i) d l b =
      let e : suc i + 1 ≡ suc (i + 1) = omega arith in
      ap (λ (n : ℕ). walk_of t (take n (k ∷ ks))) e
      ∙ ap (map (leg_at t)) (take_more ks i d (omega arith)) ∙ map-append (leg_at t) (take i ks) (get_or ks i d ∷ [])
