-- The steps of a state, track by track.
use Rattle.std.proofs.Common.{◌≡◌, ℕ, zero, suc, ◌+◌, ◌≤◌, ◌<◌, ◌⊎◌, inl, inr, List, [], ◌∷◌, length, get_or, refl, sym, ap, ◌∙◌, subst, arith, Some, slice_get}
use Rattle.std.specs.List.{AllPairs}
use Rattle.std.specs.Option.{option_map}
use Rattle.std.proofs.lemmas.Bool.{cases_lt}
use Rattle.optra_network.specs.Net.{Net, MayUse, out_tracks_of}
use Rattle.optra_network.specs.declared.TrackId.{TrackId}
use Rattle.optra_network.specs.declared.Track.{Track}
use Rattle.optra_bid.specs.Specs.{Path}
use Rattle.optra_walk.specs.declared.state.State.{State}
use Rattle.optra_graph.specs.declared.states.Layout.{Layout}
use Rattle.optra_graph.specs.declared.stepping.Step.{Step}
use Rattle.optra_graph.specs.Places.{IsPlaced}
use Rattle.optra_graph.specs.Settings.{IsSetting}
use Rattle.optra_graph.specs.Steps.{IsStep, bound_of, key_of, AreSteps, AreStepsBelow, IsSplit}
use Rattle.optra_graph.proofs.StepLemmas.{key_track, skip_steps, track_same}
use Rattle.optra_graph.proofs.WayLemmas.{out_contains, out_rises, out_tail}

abbrev Rise : List TrackId → Type 0
Rise tracks = AllPairs (λ (t u : TrackId). t.0 < u.0) tracks

pub split_start : (tracks : List TrackId) → IsSplit tracks 0 0
split_start tracks = record { early = λ k d l m. absurd (omega arith); late = λ k d l m. omega arith }

at_least : (tracks : List TrackId) (i k : ℕ) (d : TrackId) → Rise tracks → i ≤ k → k < length tracks → (get_or tracks i d).0 ≤ (get_or tracks k d).0
at_least tracks i k d up l m = by (cases_lt i k)
  where
    by : (i < k) ⊎ (k ≤ i) → (get_or tracks i d).0 ≤ (get_or tracks k d).0
    by (inl h) = let u = up i k d h m in omega arith
    by (inr h) = let e : i ≡ k = omega arith in let f = ap (λ n. (get_or tracks n d).0) e in omega arith

pub split_next : (tracks : List TrackId) (i n : ℕ) (t : TrackId) → Rise tracks → i < length tracks → t ≡ get_or tracks i t → IsSplit tracks i n → IsSplit tracks (i + 1) (t.0 + 1)
split_next tracks i n t up l e h = record {
  early = λ k d m o. let a = at_least tracks k i d up (omega arith) l in let f = at i l d in omega (arith, a, f);
  late = λ k d m o. let a = up i k d (omega arith) o in let f = at i l d in omega (arith, a, f);
}
  where
    at : (j : ℕ) → j < length tracks → (d : TrackId) → (get_or tracks i d).0 ≡ t.0
    at j m d = ap (λ (x : TrackId). x.0) (any tracks i d t l ∙ sym e)
      where
        any : (xs : List TrackId) (i : ℕ) (d f : TrackId) → i < length xs → get_or xs i d ≡ get_or xs i f
        any [] i d f l = absurd (omega arith)
        any (x ∷ xs) zero d f l = refl
        any (x ∷ xs) (suc i) d f l = any xs i d f (omega arith)

module _ (net : Net) (path : Path) (layout : Layout) (setting : IsSetting net path layout) (s : State) (placed : IsPlaced layout s) where
  -- the track of a step stands among those that leave the station, at a place of its own
  where_is : (y : Step) → IsStep net path layout s y → (k : ℕ) × (k < length (out_tracks_of net.tracks s.station)) × ((get_or (out_tracks_of net.tracks s.station) k y.leg.track).0 ≡ y.leg.track.0)
  where_is y h = let w = out_contains net s.station y.leg.track h.move.place in (w.0, w.1, ap (λ (x : TrackId). x.0) w.2)

  -- between two of the tracks that leave there is no step
  pub skip_to : (steps : List Step) (i n : ℕ) (t : TrackId) → IsSplit (out_tracks_of net.tracks s.station) i n → i < length (out_tracks_of net.tracks s.station) → t ≡ get_or (out_tracks_of net.tracks s.station) i t
      → AreStepsBelow net path layout s (bound_of n 0) steps → AreStepsBelow net path layout s (bound_of t.0 0) steps
  skip_to steps i n t split l e h =
      let first : n ≤ t.0 = subst (λ (x : TrackId). n ≤ x.0) (sym e) (split.late i t (omega arith) l) in
      skip_steps net path layout setting s placed (bound_of n 0) (bound_of t.0 0) steps (omega arith) h (λ y w a b. none y w a b (where_is y w))
    where
      none : (y : Step) → IsStep net path layout s y → bound_of n 0 ≤ key_of y.leg → key_of y.leg < bound_of t.0 0
          → (k : ℕ) × (k < length (out_tracks_of net.tracks s.station)) × ((get_or (out_tracks_of net.tracks s.station) k y.leg.track).0 ≡ y.leg.track.0) → ⊥
      none y w a b (k, m, f) = by (cases_lt k i)
        where
          by : (k < i) ⊎ (i ≤ k) → ⊥
          by (inl o) = let x = split.early k y.leg.track o m in let q = key_track net path layout setting s placed y w in omega (arith, x, f, q.0, q.1)
          by (inr o) =
              let x = at_least (out_tracks_of net.tracks s.station) i k y.leg.track (out_rises net.tracks s.station) o m in
              let same = at (out_tracks_of net.tracks s.station) i y.leg.track t l in
              let g = ap (λ (z : TrackId). z.0) (same ∙ sym e) in
              let q = key_track net path layout setting s placed y w in
              omega (arith, x, f, q.0, q.1, g)
            where
              at : (xs : List TrackId) (i : ℕ) (d f : TrackId) → i < length xs → get_or xs i d ≡ get_or xs i f
              at [] i d f l = absurd (omega arith)
              at (x ∷ xs) zero d f l = refl
              at (x ∷ xs) (suc i) d f l = at xs i d f (omega arith)

  -- a track that the type may not use has no step
  pub skip_track : (steps : List Step) (t : TrackId) → (MayUse net t path.kind → ⊥) → AreStepsBelow net path layout s (bound_of t.0 0) steps → AreStepsBelow net path layout s (bound_of (t.0 + 1) 0) steps
  skip_track steps t none h = skip_steps net path layout setting s placed (bound_of t.0 0) (bound_of (t.0 + 1) 0) steps (omega arith) h
      (λ y w a b.
      let q = key_track net path layout setting s placed y w in
      let same : y.leg.track.0 ≡ t.0 = omega (arith, q.0, q.1, a, b) in
      none (subst (λ x. MayUse net x path.kind) (track_same y.leg.track t same) w.move.may_use))

  pub next_track : (steps : List Step) (t : ℕ) → AreStepsBelow net path layout s (bound_of t 4) steps → AreStepsBelow net path layout s (bound_of (t + 1) 0) steps
  next_track steps t h = let e : bound_of t 4 ≡ bound_of (t + 1) 0 = omega arith in subst (λ n. AreStepsBelow net path layout s n steps) e h

  -- after the last track all steps stand there
  pub all_steps : (steps : List Step) (i n : ℕ) → IsSplit (out_tracks_of net.tracks s.station) i n → length (out_tracks_of net.tracks s.station) ≤ i
      → AreStepsBelow net path layout s (bound_of n 0) steps → AreSteps net path layout s steps
  all_steps steps i n split l h = record {
    sound = h.sound;
    rising = h.rising;
    whole = λ y w. let at = where_is y w in let x = split.early at.0 y.leg.track (omega (arith, at.1)) at.1 in let q = key_track net path layout setting s placed y w in
        h.whole y w (omega (arith, x, at.2, q.0, q.1));
  }

  -- ---- the same over a list that is that of the tracks

  abbrev first_track : TrackId
  first_track = record { 0 = 0 }

  pub tail_in : (outs : List TrackId) → outs ≡ out_tracks_of net.tracks s.station → (i : ℕ) → i < length outs
      → option_map (λ (x : Track). x.tail) (slice_get net.tracks (get_or outs i first_track).0) ≡ Some s.station
  tail_in outs e i l = subst (λ (xs : List TrackId). i < length xs → option_map (λ (x : Track). x.tail) (slice_get net.tracks (get_or xs i first_track).0) ≡ Some s.station) (sym e) (λ m. out_tail net s.station i first_track m) l

  pub skip_in : (outs : List TrackId) → outs ≡ out_tracks_of net.tracks s.station → (steps : List Step) (i n : ℕ) → IsSplit outs i n → i < length outs
      → AreStepsBelow net path layout s (bound_of n 0) steps → AreStepsBelow net path layout s (bound_of (get_or outs i first_track).0 0) steps
  skip_in outs e steps i n split l h =
      subst (λ (xs : List TrackId). IsSplit xs i n → i < length xs → AreStepsBelow net path layout s (bound_of (get_or xs i first_track).0 0) steps) (sym e)
      (λ sp m. skip_to steps i n (get_or (out_tracks_of net.tracks s.station) i first_track) sp m (default (out_tracks_of net.tracks s.station) i m) h) split l
    where
      default : (xs : List TrackId) (i : ℕ) → i < length xs → get_or xs i first_track ≡ get_or xs i (get_or xs i first_track)
      default [] i m = absurd (omega arith)
      default (x ∷ xs) zero m = refl
      default (x ∷ xs) (suc i) m = default xs i (omega arith)

  pub next_in : (outs : List TrackId) → outs ≡ out_tracks_of net.tracks s.station → (i n : ℕ) → IsSplit outs i n → i < length outs → IsSplit outs (i + 1) ((get_or outs i first_track).0 + 1)
  next_in outs e i n split l = split_next outs i n (get_or outs i first_track) (subst Rise (sym e) (out_rises net.tracks s.station)) l (default outs i l) split
    where
      default : (xs : List TrackId) (i : ℕ) → i < length xs → get_or xs i first_track ≡ get_or xs i (get_or xs i first_track)
      default [] i m = absurd (omega arith)
      default (x ∷ xs) zero m = refl
      default (x ∷ xs) (suc i) m = default xs i (omega arith)

  pub all_in : (outs : List TrackId) → outs ≡ out_tracks_of net.tracks s.station → (steps : List Step) (i n : ℕ) → IsSplit outs i n → length outs ≤ i
      → AreStepsBelow net path layout s (bound_of n 0) steps → AreSteps net path layout s steps
  all_in outs e steps i n split l h = all_steps steps i n (subst (λ (xs : List TrackId). IsSplit xs i n) e split) (subst (λ (xs : List TrackId). length xs ≤ i) e l) h
