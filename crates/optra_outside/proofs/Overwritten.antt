-- What stays where a piece is written over bytes, and what a crash leaves when all is on the disk.
use Rattle.std.proofs.Common.{◌≡◌, ℕ, ◌+◌, ◌-◌, ◌<◌, ◌≤◌, max, List, [], ◌++◌, length, get_or, take, drop, refl, sym, ◌∙◌, ap, subst, arith, length-append, length-drop}
use Rattle.std.specs.List.{AllByRecursion}
use Rattle.std.proofs.lemmas.List.{ext_get_or, get_or-take, get_or-drop, get_or_append_left, get_or-append_right, length-take-le}
use Rattle.optra_outside.specs.Disk.{Misses, Moment, MayLeave, overwritten}

-- with nothing written since the last sync, a crash leaves what a read gives
pub synced : (moment : Moment) (image : List ℕ) → moment.grown ≡ 0 → moment.written ≡ [] → MayLeave moment image → image ≡ moment.bytes
synced moment image grown written left =
    ext_get_or 0 image moment.bytes (omega (arith, grown, left.no_shorter, left.no_longer))
    (λ i within. left.others_stay i within (subst (AllByRecursion (Misses i)) (sym written) tt))

pub length-overwritten : (at : ℕ) (piece bytes : List ℕ) → at ≤ length bytes → length (overwritten at piece bytes) ≡ max (length bytes) (at + length piece)
length-overwritten at piece bytes within =
    omega (arith, length-append (take at bytes) (piece ++ drop (at + length piece) bytes), length-append piece (drop (at + length piece) bytes), length-drop (at + length piece) bytes, length-take-le at bytes within)

pub in_front : (at : ℕ) (piece bytes : List ℕ) (i : ℕ) → at ≤ length bytes → i < at → get_or (overwritten at piece bytes) i 0 ≡ get_or bytes i 0
in_front at piece bytes i within below =
    get_or_append_left (take at bytes) (piece ++ drop (at + length piece) bytes) 0 i (omega (arith, length-take-le at bytes within)) ∙ get_or-take at bytes i 0 below

pub past_it : (at : ℕ) (piece bytes : List ℕ) (i : ℕ) → at ≤ length bytes → at + length piece ≤ i → get_or (overwritten at piece bytes) i 0 ≡ get_or bytes i 0
past_it at piece bytes i within above =
    let same : at + length piece + (i - at - length piece) ≡ i = omega arith in
    get_or-append_right (take at bytes) (piece ++ drop (at + length piece) bytes) at i 0 (length-take-le at bytes within) (omega arith)
    ∙ get_or-append_right piece (drop (at + length piece) bytes) (length piece) (i - at) 0 refl (omega arith)
    ∙ get_or-drop (at + length piece) bytes (i - at - length piece) 0
    ∙ ap (λ (k : ℕ). get_or bytes k 0) same
