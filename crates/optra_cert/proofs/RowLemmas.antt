-- A row is read of its fields, and fields that are read as a row are those of the row.
use Rattle.std.proofs.Common.{◌≡◌, ◌<◌, ◌≤◌, ◌⊎◌, inl, inr, ◌&&◌, ℕ, Bool, true, false, List, [], ◌∷◌, length, get_or, Option, Some, None, refl, sym, ap, ◌∙◌, subst, arith, bytes_eq, nat_le}
use Rattle.std.specs.Prelude.{cond, find, All, Contains, Result, Ok, Err}
use Rattle.std.specs.List.{AllZip}
use Rattle.std.proofs.lemmas.Bool.{le-leb, leb-true, and_parts, cases_order, both_ways}
use Rattle.std.proofs.lemmas.List.{get_or_default}
use Rattle.std.proofs.lemmas.List.Elements.{All-contains, All-cons}
use Rattle.std.proofs.lemmas.Slice.Eq.{bytes_eq-Decides}
use Rattle.optra_network.specs.Net.{Net, IsBuilt}
use Rattle.optra_records.specs.Reading.{Field, Record}
use Rattle.optra_cert.specs.Columns.{FitsIn, IsSoundColumn, record_values, shown}
use Rattle.optra_cert.specs.ListLemmas.{found_in}
use Rattle.optra_cert.specs.RowTexts.{RowKind, RowTexts, AreApart, AreTexts, IsRowOf, kind_named, made_row, read_by, read_row, row_of_values, row_fields}
use Rattle.optra_cert.specs.declared.CertCode.{CertCode}
use Rattle.optra_cert.specs.declared.CertCode.TheVariants as codes
use Rattle.optra_cert.specs.declared.row_text.RowRead.TheVariants as read
use Rattle.optra_cert.proofs.ColumnLemmas.{record_shown, record_told}

word_at : (kinds : List RowKind) (k : ℕ) (x d : RowKind) → k < length kinds → get_or kinds k x ≡ x → (get_or kinds k d).word ≡ x.word
word_at kinds k x d within at = ap (λ (r : RowKind). r.word) (get_or_default kinds k d x within ∙ at)

-- two kinds of one word are one
one_kind : (kinds : List RowKind) (a b : RowKind) → AreApart kinds → Contains kinds a → Contains kinds b → a.word ≡ b.word → a ≡ b
one_kind kinds a b apart p q same = by (cases_order p.0 q.0)
  where
    by : (p.0 ≡ q.0) ⊎ ((p.0 < q.0) ⊎ (q.0 < p.0)) → a ≡ b
    by (inl e) = sym p.2 ∙ get_or_default kinds p.0 a b p.1 ∙ ap (λ (k : ℕ). get_or kinds k b) e ∙ q.2
    by (inr (inl l)) = absurd (apart p.0 q.0 a l q.1 (word_at kinds p.0 a a p.1 p.2 ∙ same ∙ sym (word_at kinds q.0 b a q.1 q.2)))
    by (inr (inr l)) = absurd (apart q.0 p.0 a l p.1 (word_at kinds q.0 b a q.1 q.2 ∙ sym same ∙ sym (word_at kinds p.0 a a p.1 p.2)))

-- where an element passes one is found
none_found : {X : Type 0} (p : X → Bool) (xs : List X) → find p xs ≡ None → All (λ x. p x ≡ false) xs
none_found p [] e = λ k d l. absurd (omega arith)
none_found {X} p (x ∷ xs) e = by (p x) refl (none_found p xs) e
  where
    by : (b : Bool) → p x ≡ b → (find p xs ≡ None → All (λ (y : X). p y ≡ false) xs) → cond b (Some x) (find p xs) ≡ None → All (λ (y : X). p y ≡ false) (x ∷ xs)
    by true f more e = absurd (cc e)
    by false f more e = All-cons (λ (y : X). p y ≡ false) x xs f (more e)

-- the kind of a word: one of the kinds, with the word and a version that is there
named_is : (kinds : List RowKind) (version : ℕ) (word : Field) (kind : RowKind) → kind_named kinds version word ≡ Some kind
    → Contains kinds kind × (kind.word ≡ word) × (kind.version ≤ version)
named_is kinds version word kind e =
    let h = found_in (λ (kind : RowKind). bytes_eq kind.word word && nat_le kind.version version) kinds kind e in
    let parts = and_parts _ _ h.1 in
    (h.0, (bytes_eq-Decides kind.word word).0 parts.0, leb-true kind.version version parts.1)

-- a kind that is there is that of its word
is_named : (kinds : List RowKind) (version : ℕ) (kind : RowKind) → AreApart kinds → Contains kinds kind → kind.version ≤ version → kind_named kinds version kind.word ≡ Some kind
is_named kinds version kind apart in_ there = by (kind_named kinds version kind.word) refl
  where
    passes : (bytes_eq kind.word kind.word && nat_le kind.version version) ≡ true
    passes = rw ((bytes_eq-Decides kind.word kind.word).1 refl, le-leb kind.version version there) refl

    by : (o : Option RowKind) → kind_named kinds version kind.word ≡ o → o ≡ Some kind
    by None e = absurd (both_ways _ (All-contains (λ (other : RowKind). (bytes_eq other.word kind.word && nat_le other.version version) ≡ false) kinds kind (none_found (λ (other : RowKind). bytes_eq other.word kind.word && nat_le other.version version) kinds e) in_) passes)
    by (Some other) e =
        let h = named_is kinds version kind.word other e in
        ap Some (one_kind kinds other kind apart h.0 in_ h.1)

module _ {R : Type 0} (texts : RowTexts R) (apart : AreApart texts.kinds) (are : AreTexts texts) (net : Net) (built : IsBuilt net) (version : ℕ) where
  sound : (kind : RowKind) → Contains texts.kinds kind → All IsSoundColumn kind.columns
  sound kind in_ = All-contains (λ (kind : RowKind). All IsSoundColumn kind.columns) texts.kinds kind are.columns in_

  -- a row is read of its fields
  pub row_back : (row : R) → IsRowOf texts net version row → read_row texts net version (row_fields texts net row) ≡ read.Row row
  unfolding read_row
  row_back row is =
      let kind : RowKind = (texts.told row).0 in
      let in_ = are.kinds row in
      let named : kind_named texts.kinds version kind.word ≡ Some kind = is_named texts.kinds version kind apart in_ is.0 in
      let told : record_values net kind.columns (shown net kind.columns (texts.told row).1) ≡ Ok (texts.told row).1 =
      record_shown net built kind.columns (texts.told row).1 (sound kind in_) is.1 in
      rw (named, told, are.makes row) refl

  -- what a row read of values of a kind is
  abbrev P : Field → Record → R → Type 0
  P word fields row = IsRowOf texts net version row × (row_fields texts net row ≡ word ∷ fields)

  of_kind : (word : Field) (fields : Record) (kind : RowKind) → Contains texts.kinds kind → kind.word ≡ word → kind.version ≤ version
      → (values : List ℕ) → AllZip (FitsIn net) kind.columns values → shown net kind.columns values ≡ fields
      → (row : R) → texts.made kind.word values ≡ Some row → P word fields row
  of_kind word fields kind in_ same there values fits shows row made =
      let tells = are.tells kind.word values row made in
      let own : kind ≡ (texts.told row).0 = one_kind texts.kinds kind (texts.told row).0 apart in_ (are.kinds row) (sym tells.0) in
      let first : (kind.version ≤ version) × AllZip (FitsIn net) kind.columns (texts.told row).1 = (there, subst (λ (vs : List ℕ). AllZip (FitsIn net) kind.columns vs) (sym tells.1) fits) in
      let second : kind.word ∷ shown net kind.columns (texts.told row).1 ≡ word ∷ fields = cc (same, shows, ap (λ (vs : List ℕ). shown net kind.columns vs) tells.1) in (
        subst (λ (k : RowKind). (k.version ≤ version) × AllZip (FitsIn net) k.columns (texts.told row).1) own first,
        subst (λ (k : RowKind). k.word ∷ shown net k.columns (texts.told row).1 ≡ word ∷ fields) own second,
      )

  made_some : (o : Option R) (row : R) → made_row o ≡ read.Row row → o ≡ Some row
  made_some None row e = absurd (cc e)
  made_some (Some other) row e = cc e

  by_values : (word : Field) (fields : Record) (kind : RowKind) → Contains texts.kinds kind → kind.word ≡ word → kind.version ≤ version
      → (r : Result (List ℕ) CertCode) → record_values net kind.columns fields ≡ r → (row : R) → row_of_values texts kind.word r ≡ read.Row row → P word fields row
  by_values word fields kind in_ same there (Ok values) told row e =
      let h = record_told net built kind.columns fields values (sound kind in_) told in
      of_kind word fields kind in_ same there values h.0 h.1 row (made_some (texts.made kind.word values) row e)
  by_values word fields kind in_ same there (Err codes.Csv) told row e = absurd (cc e)
  by_values word fields kind in_ same there (Err codes.Version) told row e = absurd (cc e)
  by_values word fields kind in_ same there (Err codes.Record) told row e = absurd (cc e)
  by_values word fields kind in_ same there (Err codes.Name) told row e = absurd (cc e)
  by_values word fields kind in_ same there (Err codes.Number) told row e = absurd (cc e)
  by_values word fields kind in_ same there (Err codes.Order) told row e = absurd (cc e)

  by_kind : (word : Field) (fields : Record) (o : Option RowKind) → kind_named texts.kinds version word ≡ o → (row : R) → read_by texts net o fields ≡ read.Row row → P word fields row
  by_kind word fields None named row e = absurd (cc e)
  by_kind word fields (Some kind) named row e =
      let h = named_is texts.kinds version word kind named in
      by_values word fields kind h.0 h.1 h.2 (record_values net kind.columns fields) refl row e

  -- fields that are read as a row are those of the row, and it can be listed
  pub row_told : (cells : Record) (row : R) → read_row texts net version cells ≡ read.Row row → IsRowOf texts net version row × (row_fields texts net row ≡ cells)
  unfolding read_row
  row_told [] row e = absurd (cc e)
  row_told (word ∷ fields) row e = by_kind word fields (kind_named texts.kinds version word) refl row e
