-- The fields of a record in turn, and a text without a mark.
use Rattle.std.proofs.Common.{◌≡◌, ◌+◌, ◌<◌, ◌&&◌, ℕ, zero, suc, Bool, true, false, List, [], ◌∷◌, length, drop, slice_get, refl, sym, ◌∙◌, add-one, arith}
use Rattle.std.specs.Prelude.{unwrap_or}
use Rattle.std.specs.List.{list_all}
use Rattle.std.specs.Str.{is_utf8, IsUtf8}
use Rattle.std.proofs.lemmas.Str.{IsUtf8-from_is_utf8}
use Rattle.csv.specs.Reading.{default_config, records}
use Rattle.csv.specs.Records.{field_at}
use Rattle.optra_records.specs.Reading.{Field, Record, has_mark}
use Rattle.optra_records.specs.Texts.{is_shown}
use Rattle.optra_records.specs.Canonical.{is_canonical, is_text_of}

pub field_at_is : (fs : Record) (i : ℕ) → field_at fs i ≡ slice_get fs i
unfolding field_at
field_at_is [] i = refl
field_at_is (f ∷ fs) zero = refl
field_at_is (f ∷ fs) (suc i) = field_at_is fs i

no_text : (b : Bool) → (b ≡ true → ⊥) → b ≡ false
no_text true h = absurd (h refl)
no_text false h = refl

pub is_utf8-not : (bytes : Field) → ¬ (IsUtf8 bytes) → is_utf8 bytes ≡ false
is_utf8-not bytes h = no_text (is_utf8 bytes) (λ e. h (IsUtf8-from_is_utf8 bytes e))

-- whether a record has fields of UTF-8 and can be printed
abbrev pub is_fit : Record → Bool
is_fit row = list_all is_utf8 row && is_shown row

-- the field at a place
abbrev pub field_of : Record → ℕ → Field
field_of fs i = unwrap_or (slice_get fs i) []

pub all_from : (p : Field → Bool) (fs : Record) (i : ℕ) → i < length fs → list_all p (drop i fs) ≡ (p (field_of fs i) && list_all p (drop (i + 1) fs))
all_from p [] i h = absurd (omega arith)
all_from p (f ∷ fs) zero h = refl
all_from p (f ∷ fs) (suc i) h = rw (all_from p fs i (omega arith), add-one i, add-one (suc i)) refl

pub and_false : (a b x y : Bool) → x ≡ (a && b) → a ≡ false → x ≡ y → false ≡ y
and_false a b x y e f g = rw f at (sym e) ∙ g

pub and_true : (a b x y : Bool) → x ≡ (a && b) → a ≡ true → x ≡ y → b ≡ y
and_true a b x y e f g = rw f at (sym e) ∙ g

pub all_stops : (p : Field → Bool) (fs : Record) (i : ℕ) (y : Bool) → i < length fs → p (field_of fs i) ≡ false → list_all p (drop i fs) ≡ y → false ≡ y
all_stops p fs i y h f g = and_false _ _ _ y (all_from p fs i h) f g

pub all_goes : (p : Field → Bool) (fs : Record) (i : ℕ) (y : Bool) → i < length fs → p (field_of fs i) ≡ true → list_all p (drop i fs) ≡ y → list_all p (drop (i + 1) fs) ≡ y
all_goes p fs i y h f g = and_true _ _ _ y (all_from p fs i h) f g

-- a text without a mark is canonical where it is that of its records
pub no_mark : (bytes : List ℕ) → has_mark bytes ≡ false → is_canonical bytes ≡ is_text_of (records default_config bytes) bytes
unfolding is_canonical
no_mark bytes e = rw e refl
