-- Texts written one after another.
use Rattle.std.proofs.Common.{◌≡◌, ℕ, zero, suc, ◌+◌, ◌<◌, List, [], ◌∷◌, ◌++◌, length, take, drop, get_or, Bor, refl, sym, ap, ◌∙◌, arith, add-one, append_assoc}
use Rattle.std.specs.Prelude.{Result, IsErr}
use Rattle.std.specs.List.{flat_map}
use Rattle.optra_outside.specs.Counts.{Rose}
use Rattle.optra_outside.specs.Pen.{PenState, Wrote, WrotePart, Writes}
use Rattle.optra_outside.proofs.Written.{Writes-first, Writes-rest}

-- the texts before a place, the one there, and those after it
pub pieces_at : (pieces : List (Bor (List ℕ))) (i : ℕ) (d : Bor (List ℕ)) → i < length pieces
    → flat_map (λ piece. piece.now) pieces ≡ flat_map (λ piece. piece.now) (take i pieces) ++ ((get_or pieces i d).now ++ flat_map (λ piece. piece.now) (drop (i + 1) pieces))
pieces_at [] i d h = absurd (omega arith)
pieces_at (piece ∷ pieces) zero d h = refl
pieces_at (piece ∷ pieces) (suc i) d h =
    ap (λ (t : List ℕ). piece.now ++ t) (pieces_at pieces i d (omega arith))
    ∙ sym (append_assoc piece.now (flat_map (λ piece. piece.now) (take i pieces)) ((get_or pieces i d).now ++ flat_map (λ piece. piece.now) (drop (i + 1) pieces)))
    ∙ rw (add-one i, add-one (suc i)) refl

-- the texts before a place were written, and of the one there a first part
pub pieces_stopped : {T E : Type 0} (a b c : PenState) (pieces : List (Bor (List ℕ))) (i : ℕ) (d : Bor (List ℕ)) (text : List ℕ) (result : Result T E) → i < length pieces → text ≡ (get_or pieces i d).now
    → IsErr result → Wrote a b (flat_map (λ piece. piece.now) (take i pieces)) → WrotePart b c text → Rose b.faults c.faults
    → Writes a c (flat_map (λ piece. piece.now) pieces) result
pieces_stopped a b c pieces i d text result h e is before part rose =
    let after = flat_map (λ piece. piece.now) (drop (i + 1) pieces) in
    let here = Writes-first b c text after result is part rose in
    let whole = Writes-rest a b c (flat_map (λ piece. piece.now) (take i pieces)) (text ++ after) result before here in
    rw (pieces_at pieces i d h, ← e) whole
