-- The laws of the texts of a family whose rows are of one kind.
use Rattle.std.proofs.Common.{◌≡◌, ◌⊎◌, inl, inr, ℕ, ◌≤◌, ◌<◌, ◌∷◌, [], List, length, Option, Some, None, IsSome, true, false, Bool, refl, sym, subst, arith, bytes_eq}
use Rattle.std.specs.Prelude.{cond, All, Contains}
use Rattle.std.specs.Str.{is_utf8}
use Rattle.std.proofs.lemmas.List.Elements.{All-nil, All-cons}
use Rattle.std.proofs.lemmas.Slice.Eq.{bytes_eq-Decides}
use Rattle.optra_network.proofs.MemberLemmas.{in_from}
use Rattle.optra_records.specs.Reading.{Field}
use Rattle.optra_cert.specs.Columns.{IsShortColumn, IsShortWord, IsSoundColumn, IsTextColumn}
use Rattle.optra_cert.specs.RowTexts.{RowKind, AreTexts}
use Rattle.optra_cert.specs.OneKind.{IsOneKind, one_kind_texts, row_of_kind}

module _ {R : Type 0} (kind : RowKind) (values : R → List ℕ) (row : List ℕ → Option R) (is : IsOneKind kind values row) where
  alone : (P : RowKind → Type 0) → P kind → All P (kind ∷ [])
  alone P p = All-cons P kind [] p (All-nil P)

  -- of its own word a row is made of the values
  made : (ns : List ℕ) → row_of_kind kind row kind.word ns ≡ row ns
  made ns = let same : bytes_eq kind.word kind.word ≡ true = (bytes_eq-Decides kind.word kind.word).1 refl in rw same refl

  tells : (word : Field) (ns : List ℕ) (r : R) → row_of_kind kind row word ns ≡ Some r → (kind.word ≡ word) × (values r ≡ ns)
  tells word ns r = by (bytes_eq word kind.word) refl
    where
      by : (b : Bool) → bytes_eq word kind.word ≡ b → cond b (row ns) None ≡ Some r → (kind.word ≡ word) × (values r ≡ ns)
      by true same e = (sym ((bytes_eq-Decides word kind.word).0 same), is.tells ns r e)
      by false other e = absurd (cc e)

  each : (own : RowKind) (ns : List ℕ) → Contains (kind ∷ []) own → length ns ≡ length own.columns → IsSome (row_of_kind kind row own.word ns)
  each own ns in_ = by (in_from (kind ∷ []) own in_)
    where
      Made : RowKind → Type 0
      Made own = length ns ≡ length own.columns → IsSome (row_of_kind kind row own.word ns)

      by : (kind ≡ own) ⊎ ⊥ → Made own
      by (inl e) = subst Made e (λ long. rw (made ns) (is.each ns long))
      by (inr none) = absurd none

  pub one_kind_texts_are : AreTexts (one_kind_texts kind values row)
  one_kind_texts_are = record {
    kinds = λ r. (0, omega arith, refl);
    versions = alone (λ own. (1 ≤ own.version) × (own.version ≤ kind.version)) (is.least, omega arith);
    columns = alone (λ own. All IsSoundColumn own.columns) is.columns;
    words = alone (λ own. (is_utf8 own.word ≡ true) × All IsTextColumn own.columns) (is.word, is.words);
    short = alone (λ own. IsShortWord own.word × All IsShortColumn own.columns) (is.short, is.short_words);
    few = alone (λ own. length own.columns < 32) is.few;
    makes = λ r. rw (made (values r)) (is.makes r);
    tells = tells;
    each = each;
  }
