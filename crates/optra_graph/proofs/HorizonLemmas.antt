-- A run departs before the end of the arrival window, and each state comes later than the one before.
use Rattle.std.proofs.Common.{◌≡◌, ℕ, ◌≤◌, ◌<◌, List, [], ◌∷◌, Option, None, Some, IsSomeAnd, inl, inr, refl, subst, arith}
use Rattle.optra_network.specs.Net.{Net, IsProper, IsFromTo}
use Rattle.optra_bid.specs.Specs.{Path}
use Rattle.optra_walk.specs.declared.Leg.{Leg}
use Rattle.optra_walk.specs.declared.Action.TheVariants.{Finish}
use Rattle.optra_walk.specs.Legs.{arrival_of}
use Rattle.optra_walk.proofs.WalkLemmas.{arrival_later, next_later}
use Rattle.optra_walk.specs.declared.state.State.{State}
use Rattle.optra_walk.specs.Moves.{FitsAction, IsMove, IsAfter, Runs}

pub within_at : (o : Option ℕ) (from to : ℕ) → IsSomeAnd o (IsFromTo from to) → (n : ℕ) × (o ≡ Some n) × (n ≤ to)
within_at None from to h = absurd h
within_at (Some n) from to h = (n, refl, h.1)

pub after_later : (net : Net) (path : Path) → IsProper net → (s after : State) (leg : Leg) → IsMove net path s leg → IsAfter net path s leg after → s.minute < after.minute
after_later net path proper s after leg m a =
    let l = next_later net path.kind leg after.minute proper a.time in
    let e = m.time in omega arith

pub runs_before : (net : Net) (path : Path) → IsProper net → (s : State) (legs : List Leg) → Runs net path s legs → s.minute < path.arrive.to
runs_before net path proper s [] h = absurd h
runs_before net path proper s (leg ∷ rest) (m, inl f) =
    let fits : FitsAction net path s.done leg Finish = subst (λ a. FitsAction net path s.done leg a) f.0 m.action in
    let w = within_at (arrival_of net path.kind leg) path.arrive.from path.arrive.to fits.1.time in
    let l = arrival_later net path.kind leg w.0 proper w.1 in
    let e = m.time in
    let u = w.2 in
    omega arith
runs_before net path proper s (leg ∷ rest) (m, inr f) =
    let l = after_later net path proper s f.0 leg m f.1 in
    let on = runs_before net path proper f.0 rest f.2 in
    omega arith
