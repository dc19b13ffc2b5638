-- What each moment leaves of a file whose heading is written.
use Rattle.std.proofs.Common.{◌≡◌, inl, inr, Bool, true, false, ℕ, ◌≤◌, List, [], ◌∷◌, ◌++◌, length, refl, sym, ap, subst, arith}
use Rattle.std.proofs.lemmas.List.{drop_all}
use Rattle.optra_outside.specs.Disk.{File, overwritten, after_write, after_sync, AfterFailedWrite}
use Rattle.optra_house.specs.Entries.{IsLaidOut, heading}
use Rattle.optra_house.specs.Journal.{HasBeforeOrAfter, HasEntries, IsSettled}
use Rattle.optra_outside.specs.Moments.{LeavesOnly}
use Rattle.optra_house.proofs.EntryLemmas.{reads_back, short_none}
use Rattle.optra_outside.proofs.Moments.{started, goes_on}
use Rattle.optra_house.proofs.Torn.{stays}
use Rattle.optra_outside.proofs.Overwritten.{length-overwritten}

abbrev pub whole : List ℕ
whole = heading ++ 0 ∷ []

abbrev pub Short : List ℕ → Type 0
Short image = HasEntries [] image

module _ (file : File) (short : length file.now.bytes ≤ 9) where
  start : LeavesOnly file file Short
  start = started file Short (λ image left. short_none image (omega (arith, left.no_longer, short)))

  written : (piece : List ℕ) → length piece ≤ 9 → LeavesOnly file (after_write 0 piece file) Short
  written piece fits = goes_on file file (after_write 0 piece file).now Short start (λ image left. short_none image (omega (arith, left.no_longer, length-overwritten 0 piece file.now.bytes (omega arith), short)))

  pub failed_heading : (now : File) → AfterFailedWrite 0 9 file now → LeavesOnly file now Short
  failed_heading now (inl same) = subst (λ (f : File). LeavesOnly file f Short) (sym same) start
  failed_heading now (inr (piece, fits, is)) = subst (λ (f : File). LeavesOnly file f Short) (sym is) (written piece fits)

  pub leaves_heading : LeavesOnly file (after_write 0 whole file) Short
  leaves_heading = written whole (omega arith)

  pub leaves_synced : LeavesOnly file (after_sync (after_write 0 whole file)) Short
  leaves_synced =
      goes_on file (after_write 0 whole file) (after_sync (after_write 0 whole file)).now Short leaves_heading (λ image left. short_none image (omega (arith, left.no_longer, length-overwritten 0 whole file.now.bytes (omega arith), short)))

  is_whole : overwritten 0 whole file.now.bytes ≡ whole
  is_whole = ap (λ (l : List ℕ). whole ++ l) (drop_all 9 file.now.bytes short)

  pub settles : IsSettled [] 8 (after_sync (after_write 0 whole file)).now
  settles = record {
    laid_out = record { gate = 0; behind = []; shut = omega arith; is = is_whole; fits = omega (arith, length-overwritten 0 whole file.now.bytes (omega arith), short) };
    stands = refl;
    synced = record { grown = refl; written = refl };
  }

-- a file on which no stamp was put, as it is too long
pub leaves_unwritten : (file : File) (payload : List ℕ) (is_short : Bool) → (is_short ≡ true → length file.now.bytes ≤ 9) → (is_short ≡ false → IsSettled [] 8 file.now) → LeavesOnly file file (HasBeforeOrAfter [] payload)
leaves_unwritten file payload true short settled = started file (HasBeforeOrAfter [] payload) (λ image left. inl (short_none image (omega (arith, left.no_longer, short refl))))
leaves_unwritten file payload false short settled =
    started file (HasBeforeOrAfter [] payload) (λ image left. inl (reads_back [] image (subst (IsLaidOut []) (sym (stays file.now image (settled refl).synced left)) (settled refl).laid_out)))
