-- What `csv` writes with its default settings is the text of a record.
use Rattle.std.proofs.Common.{◌≡◌, ◌==◌, ◌||◌, Bool, true, false, cond, ℕ, List, [], ◌∷◌, length, refl}
use Rattle.std.proofs.Common.{suc, arith}
use Rattle.std.proofs.lemmas.Bool.{ne_eqb}
use Rattle.std.specs.List.{list_any}
use Rattle.csv.specs.Writing as csv
use Rattle.csv.specs.declared.writer.WriterBuilder.{WriterBuilder}
use Rattle.optra_records.specs.Reading.{Field}
use Rattle.optra_records.specs.Texts.{escaped, field_text, is_shown, more_text, needs_quotes, record_text}

abbrev pub setup_of : Bool → WriterBuilder
setup_of flexible = csv.with_flexible csv.default_writer flexible

any_alike : (p q : ℕ → Bool) (xs : List ℕ) → ((x : ℕ) → p x ≡ q x) → list_any p xs ≡ list_any q xs
any_alike p q [] h = refl
any_alike p q (x ∷ xs) h = rw (h x, any_alike p q xs h) refl

regroup : (a b c d : Bool) → ((((a || b) || (c || d)) || false) || false) ≡ (((a || b) || c) || d)
regroup true b c d = refl
regroup false true c d = refl
regroup false false true d = refl
regroup false false false true = refl
regroup false false false false = refl

quotes_alike : (flexible : Bool) → (field : Field) → csv.needs_quotes (setup_of flexible) field ≡ needs_quotes field
quotes_alike flexible field = any_alike _ _ field (λ b. regroup (b == 44) (b == 34) (b == 13) (b == 10))

escaped_alike : (flexible : Bool) → (field : Field) → csv.escaped (setup_of flexible) field ≡ escaped field
unfolding csv.escaped
escaped_alike flexible [] = refl
escaped_alike flexible (b ∷ field) = rw (escaped_alike flexible field) refl

field_alike : (flexible : Bool) → (field : Field) → csv.field_text (setup_of flexible) field ≡ field_text field
field_alike flexible field = rw (quotes_alike flexible field, escaped_alike flexible field) refl

more_alike : (flexible : Bool) → (fields : List Field) → csv.fields_text (setup_of flexible) fields ≡ more_text fields
unfolding csv.fields_text
more_alike flexible [] = refl
more_alike flexible (field ∷ fields) = rw (field_alike flexible field, more_alike flexible fields) refl

-- a field that has a byte shows one
shows : (t : Bool) (b : ℕ) (q rest : List ℕ) → (length (cond t (34 ∷ q) (b ∷ rest)) == 0) ≡ false
shows true b q rest = ne_eqb (suc (length q)) 0 (λ e. let f : suc (length q) ≡ 0 = e in absurd (omega arith))
shows false b q rest = ne_eqb (suc (length rest)) 0 (λ e. let f : suc (length rest) ≡ 0 = e in absurd (omega arith))

blank : (flexible : Bool) → (fields : List Field) → is_shown fields ≡ true → csv.is_blank (setup_of flexible) fields ≡ false
unfolding csv.is_blank
blank flexible [] h = absurd (cc h)
blank flexible ([] ∷ []) h = absurd (cc h)
blank flexible ((b ∷ field) ∷ []) h = shows (csv.needs_quotes (setup_of flexible) (b ∷ field)) b _ field
blank flexible (field ∷ next ∷ fields) h = refl

pub record_alike : (flexible : Bool) → (fields : List Field) → is_shown fields ≡ true → csv.row_text (setup_of flexible) fields ≡ record_text fields
unfolding record_text
record_alike flexible [] h = absurd (cc h)
record_alike flexible (field ∷ fields) h = rw (field_alike flexible field, more_alike flexible fields, blank flexible (field ∷ fields) h) refl

pub record_alike_default : (fields : List Field) → is_shown fields ≡ true → csv.row_text csv.default_writer fields ≡ record_text fields
record_alike_default = record_alike false
