-- The laws of the texts of the rows of two families.
use Rattle.std.proofs.Common.{◌≡◌, ◌≢◌, inl, inr, ℕ, ◌≤◌, ◌<◌, ◌∷◌, ◌++◌, ◌&&◌, [], List, length, nat_le, Option, Some, None, IsSome, true, false, Bool, refl, sym, ap, ◌∙◌, arith, bytes_eq, subst}
use Rattle.std.specs.Prelude.{cond, All, Contains, Result, Ok, Err}
use Rattle.std.specs.Option.{option_or}
use Rattle.std.specs.Str.{is_utf8}
use Rattle.std.proofs.lemmas.List.Elements.{All-append, All-weaker, All-head, All-tail, Contains-append_left, Contains-append_right, Contains-append_cases}
use Rattle.std.proofs.lemmas.List.Folds.{find-append}
use Rattle.std.proofs.lemmas.Slice.Eq.{bytes_eq-Decides}
use Rattle.std.proofs.lemmas.Bool.{leb-true, le-leb, and_parts}
use Rattle.std.proofs.lemmas.Bool.Decides.{nat_tests}
use Rattle.optra_network.specs.Net.{Net}
use Rattle.optra_walk.specs.Families.{Rows}
use Rattle.optra_rows.specs.declared.joining.Either.{Either}
use Rattle.optra_rows.specs.declared.joining.Either.TheVariants.{First, Second}
use Rattle.optra_rows.specs.Eithers.{both_rows}
use Rattle.optra_records.specs.Reading.{Field, Record}
use Rattle.optra_cert.specs.Columns.{Column, IsShortColumn, IsShortWord, IsSoundColumn, IsTextColumn, record_values, values_of, has_form, told_in, told_before}
use Rattle.optra_cert.specs.RowTexts.{RowKind, RowTexts, AreApart, AreTexts, FitsRow, kind_named, made_row, read_by, read_row, row_of_values}
use Rattle.optra_cert.specs.Boths.{both_texts, first_or, greater, lesser, read_either, second_read}
use Rattle.optra_cert.specs.ListLemmas.{pairs_first, pairs_second, pairs_across, found_in}
use Rattle.optra_cert.specs.declared.CertCode.{CertCode}
use Rattle.optra_cert.specs.declared.CertCode.TheVariants as codes
use Rattle.optra_cert.specs.declared.row_text.RowRead.TheVariants as read

-- a value is told for each column
values_length : (net : Net) (columns : List Column) (fields : Record) (values : List ℕ) → values_of net columns fields ≡ Ok values → length values ≡ length columns
values_length net [] [] values e = let same : [] ≡ values = cc e in ap length (sym same)
values_length net [] (field ∷ fields) values e = absurd (cc e)
values_length net (column ∷ columns) [] values e = absurd (cc e)
values_length net (column ∷ columns) (field ∷ fields) values e =
    by (told_in net column field) (values_of net columns fields) (values_length net columns fields) e
  where
    by : (o : Option ℕ) (r : Result (List ℕ) CertCode) → ((values : List ℕ) → r ≡ Ok values → length values ≡ length columns) → told_before column o r ≡ Ok values → length values ≡ length (column ∷ columns)
    by None r more e = absurd (cc e)
    by (Some n) (Ok others) more e =
        let same : n ∷ others ≡ values = cc e in
        let long = more others refl in
        ap length (sym same) ∙ omega (arith, long)
    by (Some n) (Err code) more e = absurd (cc e)

pub record_length : (net : Net) (columns : List Column) (fields : Record) (values : List ℕ) → record_values net columns fields ≡ Ok values → length values ≡ length columns
record_length net columns fields values e = by (has_form columns fields) e
  where
    by : (t : Bool) → cond t (values_of net columns fields) (Err codes.Record) ≡ Ok values → length values ≡ length columns
    by true e = values_length net columns fields values e
    by false e = absurd (cc e)

lt_from : (a b : ℕ) → nat_le a b ≡ false → b < a
lt_from a b e = grind (arith, nat_tests, e)

-- a version that has a kind of a family is no less where the family's own is the lesser
le_lesser : (n version most : ℕ) → n ≤ most → nat_le n (lesser version most) ≡ nat_le n version
le_lesser n version most h = by (nat_le version most) refl
  where
    by : (t : Bool) → nat_le version most ≡ t → nat_le n (cond t version most) ≡ nat_le n version
    by true e = refl
    by false e =
        let below : most < version = lt_from version most e in
        rw (le-leb n most h, le-leb n version (omega arith)) refl

named_lesser : (version most : ℕ) (word : Field) (kinds : List RowKind) → All (λ kind. (1 ≤ kind.version) × (kind.version ≤ most)) kinds → kind_named kinds (lesser version most) word ≡ kind_named kinds version word
named_lesser version most word [] all = refl
named_lesser version most word (kind ∷ kinds) all =
    let P : RowKind → Type 0 = λ kind. (1 ≤ kind.version) × (kind.version ≤ most) in
    rw (le_lesser kind.version version most (All-head P kind kinds all).1, named_lesser version most word kinds (All-tail P kind kinds all)) refl

at_least : (a b : ℕ) → (a ≤ greater a b) × (b ≤ greater a b)
at_least a b = by (nat_le a b) refl
  where
    by : (t : Bool) → nat_le a b ≡ t → (a ≤ cond t b a) × (b ≤ cond t b a)
    by true e = (leb-true a b e, omega arith)
    by false e = let below = lt_from a b e in (omega arith, omega (arith, below))

-- the kind of a word has it
named_word : (kinds : List RowKind) (version : ℕ) (word : Field) (kind : RowKind) → kind_named kinds version word ≡ Some kind → Contains kinds kind × (kind.word ≡ word)
named_word kinds version word kind e =
    let h = found_in (λ (kind : RowKind). bytes_eq kind.word word && nat_le kind.version version) kinds kind e in
    (h.0, (bytes_eq-Decides kind.word word).0 (and_parts _ _ h.1).0)

module _ {P Q : Type 0} (p : RowTexts P) (q : RowTexts Q) (apart : AreApart (both_texts p q).kinds) where
  pub first_apart : AreApart p.kinds
  first_apart = pairs_first (λ (a b : RowKind). a.word ≢ b.word) p.kinds q.kinds apart

  pub second_apart : AreApart q.kinds
  second_apart = pairs_second (λ (a b : RowKind). a.word ≢ b.word) p.kinds q.kinds apart

  other_word : (a b : RowKind) → Contains p.kinds a → Contains q.kinds b → a.word ≢ b.word
  other_word a b = pairs_across (λ (a b : RowKind). a.word ≢ b.word) p.kinds q.kinds a b apart

  module _ (tp : AreTexts p) (tq : AreTexts q) where
    -- of a word of the second family the first makes no row
    not_made : (kind : RowKind) (values : List ℕ) → Contains q.kinds kind → p.made kind.word values ≡ None
    not_made kind values in_ = by (p.made kind.word values) refl
      where
        by : (o : Option P) → p.made kind.word values ≡ o → o ≡ None
        by None e = refl
        by (Some row) e = absurd (other_word (p.told row).0 kind (tp.kinds row) in_ (tp.tells kind.word values row e).0)

    versions : All (λ kind. (1 ≤ kind.version) × (kind.version ≤ greater p.version q.version)) (p.kinds ++ q.kinds)
    versions =
        let Own : RowKind → Type 0 = λ kind. (1 ≤ kind.version) × (kind.version ≤ p.version) in
        let Other : RowKind → Type 0 = λ kind. (1 ≤ kind.version) × (kind.version ≤ q.version) in
        let Both : RowKind → Type 0 = λ kind. (1 ≤ kind.version) × (kind.version ≤ greater p.version q.version) in
        let most = at_least p.version q.version in
        All-append Both p.kinds q.kinds
        (All-weaker Own Both (λ kind h. (h.0, omega (arith, most))) p.kinds tp.versions)
        (All-weaker Other Both (λ kind h. (h.0, omega (arith, most))) q.kinds tq.versions)

    made_first : (o : Option P) (u : Option Q) → IsSome o → made_row (first_or o u) ≡ read_either (made_row o) read.Kind
    made_first None u some = absurd (cc some)
    made_first (Some row) u some = refl

    first_read : (net : Net) (fields : Record) (kind : RowKind) → Contains p.kinds kind → (r : Result (List ℕ) CertCode) → record_values net kind.columns fields ≡ r
        → row_of_values (both_texts p q) kind.word r ≡ read_either (row_of_values p kind.word r) read.Kind
    first_read net fields kind in_ (Ok values) e = made_first (p.made kind.word values) (q.made kind.word values) (tp.each kind values in_ (record_length net kind.columns fields values e))
    first_read net fields kind in_ (Err codes.Csv) e = refl
    first_read net fields kind in_ (Err codes.Version) e = refl
    first_read net fields kind in_ (Err codes.Record) e = refl
    first_read net fields kind in_ (Err codes.Name) e = refl
    first_read net fields kind in_ (Err codes.Number) e = refl
    first_read net fields kind in_ (Err codes.Order) e = refl

    made_second : (u : Option Q) → made_row (first_or None u) ≡ second_read {P = P} (made_row u)
    made_second None = refl
    made_second (Some row) = refl

    second_read_is : (net : Net) (fields : Record) (kind : RowKind) → Contains q.kinds kind → (r : Result (List ℕ) CertCode) → row_of_values (both_texts p q) kind.word r ≡ second_read {P = P} (row_of_values q kind.word r)
    second_read_is net fields kind in_ (Ok values) =
        ap (λ (o : Option P). made_row (first_or o (q.made kind.word values))) (not_made kind values in_) ∙ made_second (q.made kind.word values)
    second_read_is net fields kind in_ (Err codes.Csv) = refl
    second_read_is net fields kind in_ (Err codes.Version) = refl
    second_read_is net fields kind in_ (Err codes.Record) = refl
    second_read_is net fields kind in_ (Err codes.Name) = refl
    second_read_is net fields kind in_ (Err codes.Number) = refl
    second_read_is net fields kind in_ (Err codes.Order) = refl

    read_named : (net : Net) (version : ℕ) (word : Field) (fields : Record) (o : Option RowKind) (u : Option RowKind)
        → kind_named p.kinds version word ≡ o → kind_named q.kinds version word ≡ u
        → read_by (both_texts p q) net (option_or o u) fields ≡ read_either (read_by p net o fields) (read_by q net u fields)
    read_named net version word fields None None e f = refl
    read_named net version word fields None (Some kind) e f = second_read_is net fields kind (named_word q.kinds version word kind f).0 _
    read_named net version word fields (Some kind) None e f = first_read net fields kind (named_word p.kinds version word kind e).0 _ refl
    read_named net version word fields (Some a) (Some b) e f =
        let x = named_word p.kinds version word a e in
        let y = named_word q.kinds version word b f in
        absurd (other_word a b x.0 y.0 (x.1 ∙ sym y.1))

    -- The rows of both are read by the first family, and where it finds no kind, by the second.
    pub both_read : (net : Net) (version : ℕ) (cells : Record)
        → read_row (both_texts p q) net version cells ≡ read_either (read_row p net (lesser version p.version) cells) (read_row q net (lesser version q.version) cells)
    unfolding read_row
    both_read net version [] = refl
    both_read net version (word ∷ fields) =
        rw (
          named_lesser version p.version word p.kinds tp.versions,
          named_lesser version q.version word q.kinds tq.versions,
          find-append (λ (kind : RowKind). bytes_eq kind.word word && nat_le kind.version version) p.kinds q.kinds,
        )
        (read_named net version word fields (kind_named p.kinds version word) (kind_named q.kinds version word) refl refl)

    makes : (row : Either P Q) → (both_texts p q).made ((both_texts p q).told row).0.word ((both_texts p q).told row).1 ≡ Some row
    makes (First row) = rw (tp.makes row) refl
    makes (Second row) = rw (not_made (q.told row).0 (q.told row).1 (tq.kinds row), tq.makes row) refl

    kinds : (row : Either P Q) → Contains (p.kinds ++ q.kinds) ((both_texts p q).told row).0
    kinds (First row) = Contains-append_left p.kinds q.kinds (p.told row).0 (tp.kinds row)
    kinds (Second row) = Contains-append_right p.kinds q.kinds (q.told row).0 (tq.kinds row)

    tells : (word : Field) (values : List ℕ) (row : Either P Q) → first_or (p.made word values) (q.made word values) ≡ Some row
        → (((both_texts p q).told row).0.word ≡ word) × (((both_texts p q).told row).1 ≡ values)
    tells word values row e = by (p.made word values) refl (q.made word values) refl e
      where
        T : Either P Q → Type 0
        T row = (((both_texts p q).told row).0.word ≡ word) × (((both_texts p q).told row).1 ≡ values)

        by : (o : Option P) → p.made word values ≡ o → (u : Option Q) → q.made word values ≡ u → first_or o u ≡ Some row → T row
        by (Some first) a u b e =
            let same : First first ≡ row = cc e in
            subst T same (tp.tells word values first a)
        by None a (Some second) b e =
            let same : Second second ≡ row = cc e in
            subst T same (tq.tells word values second b)
        by None a None b e = absurd (cc e)

    each : (kind : RowKind) (values : List ℕ) → Contains (p.kinds ++ q.kinds) kind → length values ≡ length kind.columns → IsSome (first_or (p.made kind.word values) (q.made kind.word values))
    each kind values in_ long = elim (Contains-append_cases p.kinds q.kinds kind in_) [
      | inl first ↦ some_first (p.made kind.word values) (q.made kind.word values) (tp.each kind values first long)
      | inr second ↦ rw (not_made kind values second) (some_second (q.made kind.word values) (tq.each kind values second long))
    ]
      where
        some_first : (o : Option P) (u : Option Q) → IsSome o → IsSome (first_or o u)
        some_first None u h = absurd (cc h)
        some_first (Some row) u h = refl

        some_second : (u : Option Q) → IsSome u → IsSome (first_or {P = P} None u)
        some_second None h = absurd (cc h)
        some_second (Some row) h = refl

    pub both_are_texts : AreTexts (both_texts p q)
    both_are_texts = record {
      kinds = kinds;
      versions = versions;
      columns = All-append (λ (kind : RowKind). All IsSoundColumn kind.columns) p.kinds q.kinds tp.columns tq.columns;
      words = All-append (λ (kind : RowKind). (is_utf8 kind.word ≡ true) × All IsTextColumn kind.columns) p.kinds q.kinds tp.words tq.words;
      short = All-append (λ (kind : RowKind). IsShortWord kind.word × All IsShortColumn kind.columns) p.kinds q.kinds tp.short tq.short;
      few = All-append (λ (kind : RowKind). length kind.columns < 32) p.kinds q.kinds tp.few tq.few;
      makes = makes;
      tells = tells;
      each = each;
    }

pub both_rows_fit : {P Q : Type 0} (p : RowTexts P) (q : RowTexts Q) (net : Net) (ps : Rows P) (qs : Rows Q) → ((row : P) → ps.is_row row ≡ true → FitsRow p net row) → ((row : Q) → qs.is_row row ≡ true → FitsRow q net row)
    → (row : Either P Q) → (both_rows ps qs).is_row row ≡ true → FitsRow (both_texts p q) net row
both_rows_fit p q net ps qs a b (First row) is = a row is
both_rows_fit p q net ps qs a b (Second row) is = b row is
