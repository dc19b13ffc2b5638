-- What a crash leaves of a file that a write may have torn.
use Rattle.std.proofs.Common.{◌≡◌, inl, inr, ℕ, ◌+◌, ◌<◌, ◌≤◌, max, List, [], ◌∷◌, ◌++◌, length, get_or, take, drop, sym, ◌∙◌, subst, arith, length-drop}
use Rattle.std.specs.List.{AllByRecursion}
use Rattle.std.proofs.lemmas.List.{ext_get_or, get_or-take, get_or-drop, length-take-le}
use Rattle.optra_outside.specs.Disk.{IsSynced, Range, Misses, Moment, MayLeave, File, overwritten, after_write}
use Rattle.optra_outside.proofs.Overwritten.{in_front, length-overwritten, past_it, synced}

-- any bytes in the range and past the old end, the same elsewhere
pub record Torn (at count : ℕ) (bytes image : List ℕ) : Type 0 where
  pub before : take at image ≡ take at bytes
  pub behind : drop (at + count) image ≡ drop (at + count) bytes
  pub no_shorter : length bytes ≤ length image
  pub no_longer : length image ≤ max (length bytes) (at + count)

-- where all is on the disk, a crash leaves what a read gives
pub stays : (moment : Moment) (image : List ℕ) → IsSynced moment → MayLeave moment image → image ≡ moment.bytes
stays moment image all left = synced moment image all.grown all.written left

module _ (file : File) (all : IsSynced file.now) (at : ℕ) (within : at ≤ length file.now.bytes) where
  -- a write of up to so many bytes tears no more than their range
  pub torn : (count : ℕ) (piece image : List ℕ) → length piece ≤ count → MayLeave (after_write at piece file).now image → Torn at count file.now.bytes image
  torn count piece image fits left =
      let long = length-overwritten at piece file.now.bytes within in
      let longer : length file.now.bytes ≤ length image = omega (arith, long, all.grown, left.no_shorter) in
      let no_longer : length image ≤ max (length file.now.bytes) (at + length piece) = omega (arith, long, left.no_longer) in
      let range : Range = record { at = at; count = length piece } in
      let outside : (i : ℕ) → i < length image → Misses i range → get_or image i 0 ≡ get_or (overwritten at piece file.now.bytes) i 0 = λ i below misses.
      left.others_stay i below (subst (λ (w : List Range). AllByRecursion (Misses i) (w ++ range ∷ [])) (sym all.written) (misses, tt)) in
      record {
        before = ext_get_or 0 (take at image) (take at file.now.bytes) (length-take-le at image (omega arith) ∙ sym (length-take-le at file.now.bytes within)) (λ i below.
            let small : i < at = omega (arith, length-take-le at image (omega arith)) in
            get_or-take at image i 0 small ∙ outside i (omega arith) (inl small) ∙ in_front at piece file.now.bytes i within small ∙ sym (get_or-take at file.now.bytes i 0 small));
        behind = ext_get_or 0 (drop (at + count) image) (drop (at + count) file.now.bytes) (omega (arith, length-drop (at + count) image, length-drop (at + count) file.now.bytes)) (λ i below.
            get_or-drop (at + count) image i 0
            ∙ outside (at + count + i) (omega (arith, length-drop (at + count) image)) (inr (omega arith))
            ∙ past_it at piece file.now.bytes (at + count + i) within (omega arith)
            ∙ sym (get_or-drop (at + count) file.now.bytes i 0));
        no_shorter = longer;
        no_longer = omega (arith, no_longer, fits);
      }
