-- What is left where ranges are filled.
use Rattle.std.proofs.Common.{◌≡◌, inl, inr, ℕ, zero, suc, ◌+◌, ◌-◌, ◌<◌, ◌≤◌, List, [], ◌∷◌, length, get_or, take, replicate, map, Bool, true, false, nat_eq, if◌then◌else◌, refl, sym, ◌∙◌, ap, subst, arith}
use Rattle.std.specs.List.{AllByRecursion, fold}
use Rattle.std.proofs.lemmas.List.{length-replicate, length-take, get_or-take}
use Rattle.optra_outside.specs.Disk.{Range, Misses, Moment, File, MayLeave}
use Rattle.optra_outside.specs.MemoryDisk.{EndsBy, range_of, filled, crash_image, IsHeld}
use Rattle.optra_outside.specs.declared.memory_disk.Span.{Span}
use Rattle.optra_outside.proofs.Overwritten.{length-overwritten, in_front, past_it}

pub same_length : (byte : ℕ) (bytes : List ℕ) (range : Range) → EndsBy (length bytes) range → length (filled byte bytes range) ≡ length bytes
same_length byte bytes range ends =
    omega (arith, ends, length-overwritten range.at (replicate range.count byte) bytes (omega (arith, ends)), length-replicate range.count byte)

same_outside : (byte : ℕ) (bytes : List ℕ) (range : Range) (place : ℕ) → EndsBy (length bytes) range → Misses place range → get_or (filled byte bytes range) place 0 ≡ get_or bytes place 0
same_outside byte bytes range place ends (inl below) = in_front range.at (replicate range.count byte) bytes place (omega (arith, ends)) below
same_outside byte bytes range place ends (inr above) = past_it range.at (replicate range.count byte) bytes place (omega (arith, ends)) (omega (arith, above, length-replicate range.count byte))

pub length-filled : (byte n : ℕ) (bytes : List ℕ) (ranges : List Range) → length bytes ≡ n → AllByRecursion (EndsBy n) ranges → length (fold (filled byte) bytes ranges) ≡ n
length-filled byte n bytes [] long within = long
length-filled byte n bytes (range ∷ ranges) long within =
    length-filled byte n (filled byte bytes range) ranges (same_length byte bytes range (omega (arith, long, within.0)) ∙ long) within.1

others_stay : (byte n : ℕ) (bytes : List ℕ) (ranges : List Range) (place : ℕ) → length bytes ≡ n → AllByRecursion (EndsBy n) ranges → AllByRecursion (Misses place) ranges → get_or (fold (filled byte) bytes ranges) place 0 ≡ get_or bytes place 0
others_stay byte n bytes [] place long within misses = refl
others_stay byte n bytes (range ∷ ranges) place long within misses =
    others_stay byte n (filled byte bytes range) ranges place (same_length byte bytes range (omega (arith, long, within.0)) ∙ long) within.1 misses.1
    ∙ same_outside byte bytes range place (omega (arith, long, within.0)) misses.0

cut_possible : (byte : ℕ) (moment : Moment) (n : ℕ) → AllByRecursion (EndsBy (length moment.bytes)) moment.written → length moment.bytes ≤ n + moment.grown → n ≤ length moment.bytes → MayLeave moment (take n (fold (filled byte) moment.bytes moment.written))
cut_possible byte moment n within low high =
    let image = fold (filled byte) moment.bytes moment.written in
    let long : length image ≡ length moment.bytes = length-filled byte (length moment.bytes) moment.bytes moment.written refl within in
    let size = length-take n image in
    record {
      no_shorter = omega (arith, long, size, low, high);
      no_longer = omega (arith, long, size);
      others_stay = λ place below misses. get_or-take n image place 0 (omega (arith, size)) ∙ others_stay byte (length moment.bytes) moment.bytes moment.written place refl within misses;
    }

pub possible : (byte : ℕ) (moment : Moment) → AllByRecursion (EndsBy (length moment.bytes)) moment.written → MayLeave moment (crash_image byte moment)
possible byte moment within = cases (nat_eq byte 0)
  where
    cases : (b : Bool) → MayLeave moment (take (if b then length moment.bytes - moment.grown else length moment.bytes) (fold (filled byte) moment.bytes moment.written))
    cases true = cut_possible byte moment (length moment.bytes - moment.grown) within (omega arith) (omega arith)
    cases false = cut_possible byte moment (length moment.bytes) within (omega arith) (omega arith)

pub at_index : (n : ℕ) (spans : List Span) (i : ℕ) (d : Span) → AllByRecursion (EndsBy n) (map range_of spans) → i < length spans → EndsBy n (range_of (get_or spans i d))
at_index n [] i d within below = absurd (omega arith)
at_index n (span ∷ spans) zero d within below = within.0
at_index n (span ∷ spans) (suc i) d within below = at_index n spans i d within.1 (omega arith)

-- what a crash makes of the bytes that are held
pub image_is : (file : File) (bytes : List ℕ) (synced : ℕ) (written : List Span) (byte : ℕ) → IsHeld file bytes synced written → take (if nat_eq byte 0 then synced else length bytes) (fold (filled byte) bytes (map range_of written)) ≡ crash_image byte file.now
image_is file bytes synced written byte held =
    let low : synced ≡ length file.now.bytes - file.now.grown = omega (arith, held.synced_is, ap length held.bytes_are) in
    let cut : ℕ → ℕ → List ℕ → List Range → List ℕ = λ (s n : ℕ) (b : List ℕ) (w : List Range). take (if nat_eq byte 0 then s else n) (fold (filled byte) b w) in
    ap (λ (s : ℕ). cut s (length bytes) bytes (map range_of written)) low
    ∙ ap (λ (b : List ℕ). cut (length file.now.bytes - file.now.grown) (length b) b (map range_of written)) (sym held.bytes_are)
    ∙ ap (λ (w : List Range). cut (length file.now.bytes - file.now.grown) (length file.now.bytes) file.now.bytes w) (sym held.written_are)

-- all the ranges are in the bytes that are held
pub spans_within : (file : File) (bytes : List ℕ) (synced : ℕ) (written : List Span) → IsHeld file bytes synced written → AllByRecursion (EndsBy (length bytes)) (map range_of written)
spans_within file bytes synced written held = subst (AllByRecursion (EndsBy (length bytes))) held.written_are held.within

pub file_possible : (file : File) (bytes : List ℕ) (synced : ℕ) (written : List Span) (byte : ℕ) → IsHeld file bytes synced written → MayLeave file.now (crash_image byte file.now)
file_possible file bytes synced written byte held = possible byte file.now (subst (λ (b : List ℕ). AllByRecursion (EndsBy (length b)) file.now.written) (sym held.bytes_are) held.within)
