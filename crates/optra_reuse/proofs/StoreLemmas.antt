-- What a store keeps while path specifications are asked for.
use Rattle.std.proofs.Common.{◌≡◌, ℕ, List, map, slice_get, Result, Ok, Err, Some, option_map, sym, ◌∙◌, subst}
use Rattle.std.proofs.lemmas.Option.{slice_get-map}
use Rattle.std.proofs.lemmas.Result.{IfOk-weaker}
use Rattle.std.specs.Prelude.{IfOk, OnOk, OnErr}
use Rattle.optra_bid.specs.Specs.{Path}
use Rattle.optra_network.specs.Net.{Net}
use Rattle.optra_graph.specs.Served.{Grows, IsKept, Kept, path_of}
use Rattle.optra_graph.proofs.KeepLemmas.{grows-kept, grows-same}

-- a call that keeps one more path specification, or fails and changes nothing
pub grows-keep : {T E : Type 0} (net : Net) (path : Path) (old new : List Kept) (built rebuilt : ℕ) (r : Result T E) → OnOk r (IsKept net path old built new rebuilt)
    → OnErr r ((new ≡ old) × (rebuilt ≡ built)) → Grows net old built new rebuilt
grows-keep net path old new built rebuilt (Ok x) kept same = grows-kept net path old new built rebuilt kept
grows-keep net path old new built rebuilt (Err e) kept same =
    subst (λ (l : List Kept). Grows net old built l rebuilt) (sym same.0) (subst (λ (n : ℕ). Grows net old built old n) (sym same.1) (grows-same net old built))

-- the path specification at a place
pub path-at-place : {E : Type 0} (kept : List Kept) (path : Path) (r : Result ℕ E) → IfOk r (λ place. option_map path_of (slice_get kept place) ≡ Some path)
    → IfOk r (λ place. slice_get (map path_of kept) place ≡ Some path)
path-at-place kept path r h =
    IfOk-weaker r (λ place. option_map path_of (slice_get kept place) ≡ Some path) (λ place. slice_get (map path_of kept) place ≡ Some path) (λ place e. slice_get-map path_of kept place ∙ e) h

-- what holds in any case holds after Ok
pub on-ok : {T E : Type 0} (r : Result T E) (P : Type 0) → P → OnOk r P
on-ok (Ok x) P h = h
on-ok (Err e) P h = tt
