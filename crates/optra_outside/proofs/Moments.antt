-- How a run of calls of a disk goes on.
use Rattle.std.proofs.Common.{◌≡◌, ◌⊎◌, inl, inr, ⊎_elim, ℕ, suc, ◌-◌, ◌≤◌, List, ◌∷◌, length, take, subst, arith}
use Rattle.optra_outside.specs.Disk.{Moment, MayLeave, File, LeftAtOne, LeftSince, at_next}
use Rattle.optra_outside.specs.Moments.{LeavesOnly}

none_yet : (moments : List Moment) (n : ℕ) (image : List ℕ) → n ≡ 0 → LeftAtOne (take n moments) image → ⊥
none_yet moments n image is left = subst (λ k. LeftAtOne (take k moments) image) is left

-- before the first call
pub started : (file : File) (P : List ℕ → Type 0) → ((image : List ℕ) → MayLeave file.now image → P image) → LeavesOnly file file P
started file P here = record {
  later = omega arith;
  each = λ image left. ⊎_elim (here image) (λ past. absurd (none_yet file.past (length file.past - length file.past) image (omega arith) past)) left;
  before = λ since image le left. inl left;
}

back : (file : File) (next : Moment) (since : ℕ) (image : List ℕ) → since ≤ length file.past → LeftSince (at_next file next) since image → MayLeave next image ⊎ LeftSince file since image
back file next since image le (inl now) = inl now
back file next since image le (inr past) =
    let steps : suc (length file.past) - since ≡ suc (length file.past - since) = omega arith in
    inr (subst (λ n. LeftAtOne (take n (file.now ∷ file.past)) image) steps past)

-- one moment more, at which a crash leaves what has P
pub goes_on : (old mid : File) (next : Moment) (P : List ℕ → Type 0) → LeavesOnly old mid P → ((image : List ℕ) → MayLeave next image → P image) → LeavesOnly old (at_next mid next) P
goes_on old mid next P so_far here = record {
  later = omega (arith, so_far.later);
  each = λ image left. ⊎_elim (here image) (so_far.each image) (back mid next (length old.past) image so_far.later left);
  before = λ since image le left. ⊎_elim (λ now. inr (here image now)) (so_far.before since image le) (back mid next since image (omega (arith, le, so_far.later)) left);
}

-- one run after another
pub joined : (old mid new : File) (P Q : List ℕ → Type 0) → LeavesOnly old mid P → LeavesOnly mid new Q → ((image : List ℕ) → Q image → P image) → LeavesOnly old new P
joined old mid new P Q one two also = record {
  later = omega (arith, one.later, two.later);
  each = λ image left. ⊎_elim (one.each image) (also image) (two.before (length old.past) image one.later left);
  before = λ since image le left. ⊎_elim (one.before since image le) (λ now. inr (also image now)) (two.before since image (omega (arith, le, one.later)) left);
}

-- what has P has a wider P
pub wider : (old new : File) (P Q : List ℕ → Type 0) → LeavesOnly old new P → ((image : List ℕ) → P image → Q image) → LeavesOnly old new Q
wider old new P Q run also = record {
  later = run.later;
  each = λ image left. also image (run.each image left);
  before = λ since image le left. ⊎_elim inl (λ now. inr (also image now)) (run.before since image le left);
}
