-- One more call joins those that were kept.
use Rattle.std.proofs.Common.{◌≡◌, ℕ, ◌≤◌, List, [], ◌∷◌, ◌++◌, length, take, drop, map, refl, sym, ◌∙◌, ap, arith, length-append}
use Rattle.std.specs.List.{AllByRecursion, fold}
use Rattle.std.proofs.Math.Seq.{take-length, drop-append_seam}
use Rattle.std.proofs.lemmas.List.{take-append-le}
use Rattle.std.proofs.lemmas.List.Sums.{fold_push}
use Rattle.optra_outside.specs.Disk.{Range, File, overwritten, after_write, after_sync}
use Rattle.optra_outside.specs.MemoryDisk.{range_of, EndsBy, found, after_kept, file_of, StandsWithin, IsHeld}
use Rattle.optra_outside.specs.declared.memory_disk.Span.{Span}
use Rattle.optra_outside.specs.declared.memory_disk.Piece.{Piece}
use Rattle.optra_outside.specs.declared.memory_disk.Kept.{Kept}
use Rattle.optra_outside.specs.declared.memory_disk.Kept.TheVariants.{Choose, Write, Sync}
use Rattle.optra_outside.proofs.Overwritten.{length-overwritten}

-- more pieces change nothing
more_pieces : (pieces more : List ℕ) (kept : List Kept) (file : File) → AllByRecursion (StandsWithin (length pieces)) kept → fold (after_kept (pieces ++ more)) file kept ≡ fold (after_kept pieces) file kept
more_pieces pieces more [] file within = refl
more_pieces pieces more (Choose ∷ kept) file within = more_pieces pieces more kept file within.1
more_pieces pieces more (Write piece ∷ kept) file within =
    ap (λ (bytes : List ℕ). fold (after_kept (pieces ++ more)) (after_write piece.at (drop piece.start bytes) file) kept) (take-append-le piece.end pieces more within.0)
    ∙ more_pieces pieces more kept (after_write piece.at (drop piece.start (take piece.end pieces)) file) within.1
more_pieces pieces more (Sync ∷ kept) file within = more_pieces pieces more kept (after_sync file) within.1

-- the last piece
last_piece : (pieces bytes : List ℕ) (start end : ℕ) → start ≡ length pieces → end ≡ length (pieces ++ bytes) → drop start (take end (pieces ++ bytes)) ≡ bytes
last_piece pieces bytes start end s e =
    ap (λ (n : ℕ). drop n (take end (pieces ++ bytes))) s
    ∙ ap (λ (n : ℕ). drop (length pieces) (take n (pieces ++ bytes))) e
    ∙ ap (drop (length pieces)) (take-length (pieces ++ bytes))
    ∙ drop-append_seam pieces bytes

pub kept_write : (first pieces bytes : List ℕ) (kept : List Kept) (piece : Piece) → piece.start ≡ length pieces → piece.end ≡ length (pieces ++ bytes) → AllByRecursion (StandsWithin (length pieces)) kept → file_of first (pieces ++ bytes) (kept ++ Write piece ∷ []) ≡ after_write piece.at bytes (file_of first pieces kept)
kept_write first pieces bytes kept piece s e within =
    fold_push (after_kept (pieces ++ bytes)) (found first) kept (Write piece)
    ∙ ap (λ (b : List ℕ). after_write piece.at b (fold (after_kept (pieces ++ bytes)) (found first) kept)) (last_piece pieces bytes piece.start piece.end s e)
    ∙ ap (after_write piece.at bytes) (more_pieces pieces bytes kept (found first) within)

within_push : (n m : ℕ) (kept : List Kept) (piece : Piece) → n ≤ m → piece.end ≤ m → AllByRecursion (StandsWithin n) kept → AllByRecursion (StandsWithin m) (kept ++ Write piece ∷ [])
within_push n m [] piece le ends within = (ends, tt)
within_push n m (Choose ∷ kept) piece le ends within = (tt, within_push n m kept piece le ends within.1)
within_push n m (Write p ∷ kept) piece le ends within = (omega (arith, le, within.0), within_push n m kept piece le ends within.1)
within_push n m (Sync ∷ kept) piece le ends within = (tt, within_push n m kept piece le ends within.1)

pub within_write : (pieces bytes : List ℕ) (kept : List Kept) (piece : Piece) → piece.end ≡ length (pieces ++ bytes) → AllByRecursion (StandsWithin (length pieces)) kept → AllByRecursion (StandsWithin (length (pieces ++ bytes))) (kept ++ Write piece ∷ [])
within_write pieces bytes kept piece e within = within_push (length pieces) (length (pieces ++ bytes)) kept piece (omega (arith, length-append pieces bytes)) (omega (arith, e)) within

longer : (n m : ℕ) (ranges : List Range) → n ≤ m → AllByRecursion (EndsBy n) ranges → AllByRecursion (EndsBy m) ranges
longer n m [] le within = tt
longer n m (range ∷ ranges) le within = (omega (arith, le, within.0), longer n m ranges le within.1)

one_range_more : (n : ℕ) (ranges : List Range) (range : Range) → EndsBy n range → AllByRecursion (EndsBy n) ranges → AllByRecursion (EndsBy n) (ranges ++ range ∷ [])
one_range_more n [] range ends within = (ends, tt)
one_range_more n (r ∷ ranges) range ends within = (within.0, one_range_more n ranges range ends within.1)

pub map_push : (spans : List Span) (span : Span) → map range_of (spans ++ span ∷ []) ≡ map range_of spans ++ range_of span ∷ []
map_push [] span = refl
map_push (s ∷ spans) span = ap (λ (l : List Range). range_of s ∷ l) (map_push spans span)

pub held_write : (file : File) (bytes : List ℕ) (synced at : ℕ) (written : List Span) (piece : List ℕ) (span : Span) → span.at ≡ at → span.count ≡ length piece → at ≤ length bytes → IsHeld file bytes synced written → IsHeld (after_write at piece file) (overwritten at piece bytes) synced (written ++ span ∷ [])
held_write file bytes synced at written piece span at_is count_is inside held =
    let same : overwritten at piece file.now.bytes ≡ overwritten at piece bytes = ap (overwritten at piece) held.bytes_are in
    let before = length-overwritten at piece bytes inside in
    let range : Range = record { at = at; count = length piece } in
    let range_is : range_of span ≡ range = (λ i. record { at = at_is i; count = count_is i }) in
    record {
      bytes_are = same;
      synced_is = omega (arith, ap length same, before, ap length held.bytes_are, held.synced_is);
      written_are = ap (λ (w : List Range). w ++ range ∷ []) held.written_are ∙ ap (λ (r : Range). map range_of written ++ r ∷ []) (sym range_is) ∙ sym (map_push written span);
      within = one_range_more (length (overwritten at piece bytes)) file.now.written range (omega (arith, before)) (longer (length bytes) (length (overwritten at piece bytes)) file.now.written (omega (arith, before)) held.within);
    }
