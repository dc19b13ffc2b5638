-- Too many fields tell no row.
use Rattle.std.proofs.Common.{◌≡◌, ℕ, ◌<◌, ◌≤◌, ◌&&◌, [], ◌∷◌, length, take, drop, Option, Some, None, nat_le, refl, ap, arith, bytes_eq}
use Rattle.std.specs.Prelude.{Err}
use Rattle.std.proofs.lemmas.List.{length-take-le}
use Rattle.std.proofs.lemmas.List.Elements.{All-contains}
use Rattle.optra_network.specs.Net.{Net}
use Rattle.optra_records.specs.Reading.{Field, Record}
use Rattle.optra_cert.specs.ListLemmas.{found_in}
use Rattle.optra_cert.specs.Outcomes.{row_or_fault}
use Rattle.optra_cert.specs.RowTexts.{AreTexts, RowKind, RowTexts, kind_named, read_by, read_row}
use Rattle.optra_cert.specs.declared.CertCode.TheVariants as code
use Rattle.optra_cert.specs.declared.row_text.RowRead.TheVariants as read
use Rattle.optra_cert.proofs.ColumnLemmas.{other_form}

module _ {R : Type 0} (texts : RowTexts R) (are : AreTexts texts) (net : Net) (version : ℕ) where
  long_named : (word : Field) (fields : Record) → 32 ≤ length fields → (o : Option RowKind) → kind_named texts.kinds version word ≡ o → read_by texts net o fields ≡ read.Kind
  long_named word fields long None e = refl
  long_named word fields long (Some kind) e =
      let h = found_in (λ (kind : RowKind). bytes_eq kind.word word && nat_le kind.version version) texts.kinds kind e in
      let few : length kind.columns < 32 = All-contains (λ (kind : RowKind). length kind.columns < 32) texts.kinds kind are.few h.0 in
      rw (other_form kind.columns fields (λ same. absurd (omega (arith, same, few, long)))) refl

  pub long_row : (fields : Record) → 32 < length fields → read_row texts net version fields ≡ read.Kind
  unfolding read_row
  long_row [] long = refl
  long_row (word ∷ fields) long = long_named word fields (omega (arith, long)) (kind_named texts.kinds version word) refl

  -- as many of the fields behind the word
  pub long_told : (fields : Record) (n : ℕ) → n ≤ length (drop 1 fields) → 32 < n → row_or_fault (read_row texts net version (take n (drop 1 fields))) ≡ Err code.Record
  long_told fields n room long =
      ap row_or_fault (long_row (take n (drop 1 fields)) (omega (arith, length-take-le n (drop 1 fields) room, long)))
