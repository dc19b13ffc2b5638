-- Fields that are put into cells, and the last field of a record.
use Rattle.std.proofs.Common.{◌≡◌, ℕ, zero, suc, ◌+◌, ◌-◌, ◌<◌, ◌≤◌, [], ◌∷◌, ◌++◌, length, get_or, take, drop, refl, sym, ap, ◌∙◌, add-one, arith}
use Rattle.std.proofs.Math.Seq.{take-length}
use Rattle.std.proofs.lemmas.List.{take_more}
use Rattle.optra_records.specs.Reading.{Field, Record}
use Rattle.optra_cert.specs.Forms.{but_last, field_at, last_alone}

field_or : (fields : Record) (i : ℕ) → get_or fields i [] ≡ field_at fields i
field_or [] i = refl
field_or (field ∷ fields) zero = refl
field_or (field ∷ fields) (suc i) = field_or fields i

field_behind : (fields : Record) (i : ℕ) → get_or (drop 1 fields) i [] ≡ field_at fields (i + 1)
field_behind [] i = refl
field_behind (word ∷ fields) i = rw add-one (field_or fields i)

pub length_behind : (fields : Record) → length (drop 1 fields) ≡ length fields - 1
length_behind [] = refl
length_behind (word ∷ fields) = omega arith

-- one more field is put
pub fields_more : (old new fields : Record) (i : ℕ) → i + 1 < length fields → take i old ≡ take i (drop 1 fields)
    → take (i + 1) new ≡ take i old ++ field_at fields (i + 1) ∷ [] → take (i + 1) new ≡ take (i + 1) (drop 1 fields)
fields_more old new fields i lt same put =
    put ∙ ap (λ (l : Record). l ++ field_at fields (i + 1) ∷ []) same
    ∙ ap (λ (f : Field). take i (drop 1 fields) ++ f ∷ []) (sym (field_behind fields i))
    ∙ sym (take_more (drop 1 fields) i [] (omega (arith, length_behind fields)))

-- all fields behind the word but the last
pub but_last_is : (fields : Record) → take (length fields - 2) (drop 1 fields) ≡ but_last (drop 1 fields)
but_last_is fields = ap (λ n. take n (drop 1 fields)) (omega (arith, length_behind fields))

-- all fields behind the word
pub all_behind : (fields : Record) → take (length fields - 1) (drop 1 fields) ≡ drop 1 fields
all_behind fields = ap (λ n. take n (drop 1 fields)) (sym (length_behind fields)) ∙ take-length (drop 1 fields)

last_one : (field : Field) (fields : Record) → drop (length fields) (field ∷ fields) ≡ field_at (field ∷ fields) (length fields) ∷ []
last_one field [] = refl
last_one field (next ∷ fields) = last_one next fields

-- the last of two fields or more stands alone
pub last_is : (fields : Record) → 2 ≤ length fields → last_alone (drop 1 fields) ≡ field_at fields (length fields - 1) ∷ []
last_is [] h = absurd (omega (arith, h))
last_is (word ∷ []) h = absurd (omega (arith, h))
last_is (word ∷ field ∷ fields) h =
    let less : suc (suc (length fields)) - 1 ≡ suc (length fields) = omega arith in
    let short : suc (length fields) - 1 ≡ length fields = omega arith in
    rw (less, short) (last_one field fields)

-- and there is none of fewer
pub no_last : (fields : Record) → length fields < 2 → last_alone (drop 1 fields) ≡ []
no_last [] h = refl
no_last (word ∷ []) h = refl
no_last (word ∷ field ∷ fields) h = absurd (omega (arith, h))
