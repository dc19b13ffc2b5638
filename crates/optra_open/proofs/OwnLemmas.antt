-- A list with one element written, and a bid's own decisions.
use Rattle.std.proofs.Common.{◌≡◌, ◌≢◌, ℕ, zero, suc, ◌<◌, Bool, true, false, cond, List, [], ◌∷◌, length, get_or, set, Some, slice_get, refl, ap, ◌∙◌, arith}
use Rattle.std.specs.Prelude.{All, nat_eq}
use Rattle.std.proofs.lemmas.Bool.Decides.{nat_tests}
use Rattle.std.proofs.lemmas.List.{length-set, get_or-set_same, get_or-set_other}
use Rattle.std.proofs.lemmas.List.Elements.{All-head, All-tail}
use Rattle.std.proofs.lemmas.Option.{slice_get-get_or, slice_get_within, get_or_from_slice_get}
use Rattle.optra_node.specs.declared.Decision.{Decision}
use Rattle.optra_node.specs.OwnDecisions.{is_for, decisions_for}

pub is_for_same : (bid : ℕ) (d : Decision) → d.bid ≡ bid → is_for bid d ≡ true
is_for_same bid d e = grind (arith, nat_tests)

pub read_written : {X : Type 0} (xs : List X) (i : ℕ) (v : X) → i < length xs → slice_get (set xs i v) i ≡ Some v
read_written xs i v l =
    let within : i < length (set xs i v) = omega (arith, length-set xs i v) in
    slice_get-get_or (set xs i v) i v within ∙ ap Some (get_or-set_same xs i v v l)

pub read_other : {X : Type 0} (xs : List X) (i j : ℕ) (v w : X) → j ≢ i → slice_get xs j ≡ Some w → slice_get (set xs i v) j ≡ Some w
read_other xs i j v w ne e =
    let l = slice_get_within xs j w e in
    let within : j < length (set xs i v) = omega (arith, length-set xs i v) in
    slice_get-get_or (set xs i v) j w within ∙ ap Some (get_or-set_other xs i j v w ne ∙ get_or_from_slice_get xs j w w e)

-- no decision is for a bid that has none of its own
pub none_own : (number : ℕ) (node : List Decision) → decisions_for node number ≡ [] → All (λ d. d.bid ≡ number → ⊥) node
none_own number [] e = λ k d l. absurd (omega arith)
none_own number (d ∷ node) e = by (nat_eq d.bid number) refl e (none_own number node)
  where
    other : (k : ℕ) (x : Decision) → nat_eq d.bid number ≡ false → All (λ d. d.bid ≡ number → ⊥) node → k < length (d ∷ node) → (get_or (d ∷ node) k x).bid ≡ number → ⊥
    other zero x ne rest l same = absurd (grind (arith, nat_tests))
    other (suc k) x ne rest l same = rest k x (omega arith) same

    by : (b : Bool) → nat_eq d.bid number ≡ b → cond b (d ∷ decisions_for node number) (decisions_for node number) ≡ [] → (decisions_for node number ≡ [] → All (λ d. d.bid ≡ number → ⊥) node)
        → All (λ d. d.bid ≡ number → ⊥) (d ∷ node)
    by true same e rest = cc
    by false ne e rest = λ k x l. other k x ne (rest e) l

-- and none of its own stands there where no decision is for it
pub own_none : (number : ℕ) (node : List Decision) → All (λ d. d.bid ≡ number → ⊥) node → decisions_for node number ≡ []
own_none number [] none = refl
own_none number (d ∷ node) none = by (nat_eq d.bid number) refl (own_none number node (All-tail (λ (d : Decision). d.bid ≡ number → ⊥) d node none))
  where
    same_by : nat_eq d.bid number ≡ true → d.bid ≡ number
    same_by same = grind (arith, nat_tests)

    by : (b : Bool) → nat_eq d.bid number ≡ b → decisions_for node number ≡ [] → cond b (d ∷ decisions_for node number) (decisions_for node number) ≡ []
    by true same rest = absurd (All-head (λ (d : Decision). d.bid ≡ number → ⊥) d node none (same_by same))
    by false apart rest = rest
