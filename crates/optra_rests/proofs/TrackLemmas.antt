-- The best rests of a state, track by track.
use Rattle.std.proofs.Common.{◌≡◌, ℕ, zero, suc, ◌+◌, ◌≤◌, ◌<◌, ◌⊎◌, inl, inr, List, [], ◌∷◌, length, get_or, Option, None, Some, slice_get, refl, sym, ap, ◌∙◌, subst, arith}
use Rattle.std.specs.Prelude.{ℤ}
use Rattle.std.specs.Option.{option_map}
use Rattle.std.proofs.lemmas.Bool.{cases_lt}
use Rattle.optra_network.specs.Net.{Net, MayUse, out_tracks_of}
use Rattle.optra_network.specs.declared.TrackId.{TrackId}
use Rattle.optra_network.specs.declared.Track.{Track}
use Rattle.optra_bid.specs.declared.bids.Bid.{Bid}
use Rattle.optra_walk.specs.declared.Leg.{Leg}
use Rattle.optra_rests.specs.Weights.{Weights}
use Rattle.optra_walk.specs.declared.state.State.{State}
use Rattle.optra_walk.specs.Moves.{IsMove}
use Rattle.optra_rests.specs.Rests.{IsBestRest, AnyLeg, greater_of}
use Rattle.optra_rests.specs.Ways.{IsOn, IsOnFirst}
use Rattle.optra_rests.proofs.BestLemmas.{best_same, best_both, best_none}
use Rattle.optra_rests.proofs.WayLemmas.{out_contains, out_tail}

any_default : (xs : List TrackId) (i : ℕ) (d f : TrackId) → i < length xs → get_or xs i d ≡ get_or xs i f
any_default [] i d f l = absurd (omega arith)
any_default (x ∷ xs) zero d f l = refl
any_default (x ∷ xs) (suc i) d f l = any_default xs i d f (omega arith)

abbrev pub first_track : TrackId
first_track = record { 0 = 0 }

-- the tracks that leave a station have it as their tail
pub tail_in : (net : Net) (s : State) (outs : List TrackId) → outs ≡ out_tracks_of net.tracks s.station → (i : ℕ) → i < length outs
    → option_map (λ (x : Track). x.tail) (slice_get net.tracks (get_or outs i first_track).0) ≡ Some s.station
tail_in net s outs e i l =
    subst (λ (xs : List TrackId). i < length xs → option_map (λ (x : Track). x.tail) (slice_get net.tracks (get_or xs i first_track).0) ≡ Some s.station) (sym e) (λ m. out_tail net s.station i first_track m) l

module _ (w : Weights) (net : Net) (bid : Bid) (s : State) where
  -- a track that the type may not use
  pub track_none : (track : TrackId) → (MayUse net track bid.path.kind → ⊥) → IsBestRest w net bid s (IsOn track) None
  track_none track none = best_none w net bid s (IsOn track) (λ leg m on. none (subst (λ (t : TrackId). MayUse net t bid.path.kind) on m.may_use))

  pub tracks_start : (tracks : List TrackId) → IsBestRest w net bid s (IsOnFirst tracks 0) None
  tracks_start tracks = best_none w net bid s (IsOnFirst tracks 0) (λ leg m h. let l = h.1 in omega arith)

  pub tracks_push : (tracks : List TrackId) (i : ℕ) (a b : Option ℤ) → i < length tracks → IsBestRest w net bid s (IsOnFirst tracks i) a → IsBestRest w net bid s (IsOn (get_or tracks i first_track)) b
      → IsBestRest w net bid s (IsOnFirst tracks (i + 1)) (greater_of a b)
  tracks_push tracks i a b l h k = best_both w net bid s (IsOnFirst tracks i) (IsOn (get_or tracks i first_track)) (IsOnFirst tracks (i + 1)) a b
      (λ leg m e. split leg e (cases_lt e.0 i)) (λ leg e. let l = e.1 in (e.0, omega arith, e.2, e.3))
      (λ leg e. (i, omega arith, l, any_default tracks i leg.track first_track l ∙ sym e)) h k
    where
      split : (leg : Leg) → (e : IsOnFirst tracks (i + 1) leg) → (e.0 < i) ⊎ (i ≤ e.0) → IsOnFirst tracks i leg ⊎ IsOn (get_or tracks i first_track) leg
      split leg e (inl n) = inl (e.0, n, e.2, e.3)
      split leg e (inr n) =
          let b = e.1 in
          let same : e.0 ≡ i = omega arith in
          inr (sym e.3 ∙ ap (λ n. get_or tracks n leg.track) same ∙ any_default tracks i leg.track first_track l)

  -- every leg that may be next is on one of the tracks that leave the station
  pub tracks_all : (outs : List TrackId) (i : ℕ) (a : Option ℤ) → outs ≡ out_tracks_of net.tracks s.station → length outs ≤ i → IsBestRest w net bid s (IsOnFirst outs i) a → IsBestRest w net bid s AnyLeg a
  tracks_all outs i a e l h = best_same w net bid s (IsOnFirst outs i) AnyLeg a (λ leg m k. tt) (λ leg m k. on leg m) h
    where
      on : (leg : Leg) → IsMove net bid.path s leg → IsOnFirst outs i leg
      on leg m =
          let there = out_contains net s.station leg.track m.place in
          subst (λ (xs : List TrackId). length xs ≤ i → IsOnFirst xs i leg) (sym e) (λ n. let k = there.1 in (there.0, omega arith, there.1, there.2)) l
