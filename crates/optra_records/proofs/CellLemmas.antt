-- The form of records and of their fields, from what the code tests.
use Rattle.std.proofs.Common.{◌≡◌, ◌+◌, ◌<◌, ◌&&◌, ℕ, zero, suc, Bool, true, false, List, [], ◌∷◌, length, map, drop, get_or, Bor, refl, add-one, arith, eq-eqb}
use Rattle.std.specs.List.{list_all}
use Rattle.std.specs.Cmp.Lexicographic.{pointwise}
use Rattle.std.specs.Str.{bytes_eq, is_utf8}
use Rattle.optra_records.specs.Reading.{Field, Record}
use Rattle.optra_records.specs.Tables.{field, is_row}
use Rattle.optra_records.proofs.CanonicalLemmas.{and_false, and_true}

-- the fields of a record and the names of a header from a place on
header_from : (fs : Record) (hs : List (Bor Field)) (i : ℕ) (d : Bor Field) → length fs ≡ length hs → i < length hs
    → pointwise bytes_eq (drop i fs) (drop i (map (λ h. h.now) hs)) ≡ (bytes_eq (field fs i) (get_or hs i d).now && pointwise bytes_eq (drop (i + 1) fs) (drop (i + 1) (map (λ h. h.now) hs)))
header_from fs [] i d e h = absurd (omega arith)
header_from [] (h ∷ hs) i d e k = absurd (omega arith)
header_from (f ∷ fs) (h ∷ hs) zero d e k = refl
header_from (f ∷ fs) (h ∷ hs) (suc i) d e k = rw (header_from fs hs i d (omega arith) (omega arith), add-one i, add-one (suc i)) refl

pub header_stops : (fs : Record) (hs : List (Bor Field)) (i : ℕ) (d : Bor Field) (y : Bool) → length fs ≡ length hs → i < length hs → bytes_eq (field fs i) (get_or hs i d).now ≡ false
    → pointwise bytes_eq (drop i fs) (drop i (map (λ h. h.now) hs)) ≡ y → false ≡ y
header_stops fs hs i d y e h f g = and_false _ _ _ y (header_from fs hs i d e h) f g

pub header_goes : (fs : Record) (hs : List (Bor Field)) (i : ℕ) (d : Bor Field) (y : Bool) → length fs ≡ length hs → i < length hs → bytes_eq (field fs i) (get_or hs i d).now ≡ true
    → pointwise bytes_eq (drop i fs) (drop i (map (λ h. h.now) hs)) ≡ y → pointwise bytes_eq (drop (i + 1) fs) (drop (i + 1) (map (λ h. h.now) hs)) ≡ y
header_goes fs hs i d y e h f g = and_true _ _ _ y (header_from fs hs i d e h) f g

pub row_is : (n : ℕ) (fs : Record) (b : Bool) → length fs ≡ n → b ≡ list_all is_utf8 fs → b ≡ is_row n fs
row_is n fs b e f = rw (eq-eqb (length fs) n e) f
