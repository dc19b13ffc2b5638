-- A text of records is UTF-8 exactly where each of their fields is.
use Rattle.std.proofs.Common.{◌≡◌, ◌+◌, ◌<◌, ◌++◌, ◌&&◌, ◌==◌, ℕ, Bool, true, false, cond, List, [], ◌∷◌, length, drop, get_or, refl, sym, ap, ◌∙◌, subst, arith, append_assoc, lit<}
use Rattle.std.specs.List.{list_all}
use Rattle.std.specs.Str.{is_utf8, IsUtf8}
use Rattle.std.proofs.lemmas.Bool.{and_parts, and_from, eqb-true}
use Rattle.std.proofs.lemmas.List.{length-append, get_or_at, take_at, drop_at, drop-drop}
use Rattle.std.proofs.lemmas.List.Concat.{flat_map-cons}
use Rattle.std.proofs.lemmas.Str.{IsUtf8-append, IsUtf8-drop, IsUtf8-from_ascii, IsUtf8-from_is_utf8, IsUtf8-take, IsCharBoundary-after_ascii, IsCharBoundary-before_ascii, is_utf8-from_IsUtf8, IsUtf8-nil}
use Rattle.std.proofs.lemmas.Str.Ascii.{IsAscii-cons, IsAscii-nil}
use Rattle.optra_records.specs.Reading.{Field, Record}
use Rattle.optra_records.specs.Texts.{escaped, field_text, more_text, needs_quotes, record_text, records_text}

pub same_tests : (x y : Bool) → (x ≡ true → y ≡ true) → (y ≡ true → x ≡ true) → x ≡ y
same_tests true y f g = sym (f refl)
same_tests false true f g = g refl
same_tests false false f g = refl

module _ (a : List ℕ) (b : ℕ) (c : List ℕ) (small : b < 128) where
  parts : IsUtf8 (a ++ b ∷ c) → IsUtf8 a × IsUtf8 c
  parts whole =
      let text : List ℕ = a ++ b ∷ c in
      let n = length a in
      let at : get_or text n 0 ≡ b = get_or_at a b c 0 n refl in
      let within : n < length text = omega (arith, length-append a (b ∷ c)) in
      let ascii : get_or text n 0 < 128 = omega (arith, at, small) in
      let rest : drop (n + 1) text ≡ c = sym (drop-drop 1 n text) ∙ ap (drop 1) (drop_at a (b ∷ c) n refl) in (
        subst IsUtf8 (take_at a (b ∷ c) n refl) (IsUtf8-take text n whole (IsCharBoundary-before_ascii text n within ascii)),
        subst IsUtf8 rest (IsUtf8-drop text (n + 1) whole (IsCharBoundary-after_ascii text n whole within ascii)),
      )

  whole : IsUtf8 a → IsUtf8 c → IsUtf8 (a ++ b ∷ c)
  whole first rest = IsUtf8-append a (b ∷ c) first (IsUtf8-append (b ∷ []) c (IsUtf8-from_ascii (b ∷ []) (IsAscii-cons b [] small IsAscii-nil)) rest)

  -- a text with an ASCII byte is UTF-8 exactly where both its sides are
  pub utf8_split : is_utf8 (a ++ b ∷ c) ≡ (is_utf8 a && is_utf8 c)
  utf8_split =
      same_tests _ _
      (λ is. let p = parts (IsUtf8-from_is_utf8 (a ++ b ∷ c) is) in and_from _ _ (is_utf8-from_IsUtf8 a p.0) (is_utf8-from_IsUtf8 c p.1))
      (λ is.
      let p = and_parts (is_utf8 a) (is_utf8 c) is in
      is_utf8-from_IsUtf8 (a ++ b ∷ c) (whole (IsUtf8-from_is_utf8 a p.0) (IsUtf8-from_is_utf8 c p.1)))

empty_utf8 : is_utf8 [] ≡ true
empty_utf8 = is_utf8-from_IsUtf8 [] IsUtf8-nil

-- and one that begins with an ASCII byte where the rest is
pub utf8_behind : (b : ℕ) (c : List ℕ) → b < 128 → is_utf8 (b ∷ c) ≡ is_utf8 c
utf8_behind b c small = utf8_split [] b c small ∙ ap (λ t. t && is_utf8 c) empty_utf8

-- doubled quotes change nothing
utf8_escaped_behind : (a : List ℕ) (field : Field) → is_utf8 (a ++ escaped field) ≡ is_utf8 (a ++ field)
utf8_escaped_behind a [] = refl
utf8_escaped_behind a (b ∷ field) = by (b == 34) refl (utf8_escaped_behind [] field) (utf8_escaped_behind (a ++ b ∷ []) field)
  where
    quote : is_utf8 (escaped field) ≡ is_utf8 field → is_utf8 (a ++ 34 ∷ 34 ∷ escaped field) ≡ is_utf8 (a ++ 34 ∷ field)
    quote same =
        utf8_split a 34 (34 ∷ escaped field) (lit< tt)
        ∙ ap (λ t. is_utf8 a && t) (utf8_behind 34 (escaped field) (lit< tt) ∙ same)
        ∙ sym (utf8_split a 34 field (lit< tt))

    by : (t : Bool) → (b == 34) ≡ t → is_utf8 (escaped field) ≡ is_utf8 field → is_utf8 ((a ++ b ∷ []) ++ escaped field) ≡ is_utf8 ((a ++ b ∷ []) ++ field)
        → is_utf8 (a ++ cond t (34 ∷ b ∷ escaped field) (b ∷ escaped field)) ≡ is_utf8 (a ++ b ∷ field)
    by true e same more = subst (λ x. is_utf8 (a ++ 34 ∷ x ∷ escaped field) ≡ is_utf8 (a ++ x ∷ field)) (sym (eqb-true b 34 e)) (quote same)
    by false e same more = ap is_utf8 (sym (append_assoc a (b ∷ []) (escaped field))) ∙ more ∙ ap is_utf8 (append_assoc a (b ∷ []) field)

-- a field's text before an ASCII byte
utf8_field : (field : Field) (b : ℕ) (rest : List ℕ) → b < 128 → is_utf8 (field_text field ++ b ∷ rest) ≡ (is_utf8 field && is_utf8 (b ∷ rest))
utf8_field field b rest small = by (needs_quotes field)
  where
    quoted : is_utf8 (34 ∷ ((escaped field ++ 34 ∷ []) ++ b ∷ rest)) ≡ (is_utf8 field && is_utf8 (b ∷ rest))
    quoted =
        utf8_behind 34 ((escaped field ++ 34 ∷ []) ++ b ∷ rest) (lit< tt)
        ∙ ap is_utf8 (append_assoc (escaped field) (34 ∷ []) (b ∷ rest))
        ∙ utf8_split (escaped field) 34 (b ∷ rest) (lit< tt)
        ∙ ap (λ t. t && is_utf8 (b ∷ rest)) (utf8_escaped_behind [] field)

    by : (t : Bool) → is_utf8 (cond t (34 ∷ (escaped field ++ 34 ∷ [])) field ++ b ∷ rest) ≡ (is_utf8 field && is_utf8 (b ∷ rest))
    by true = quoted
    by false = utf8_split field b rest small ∙ ap (λ t. is_utf8 field && t) (sym (utf8_behind b rest small))

and_assoc : (a b c : Bool) → (a && (b && c)) ≡ ((a && b) && c)
and_assoc true b c = refl
and_assoc false b c = refl

-- a field and further ones before the end of a record
utf8_fields : (field : Field) (fields : List Field) (rest : List ℕ)
    → is_utf8 (field_text field ++ (more_text fields ++ 10 ∷ rest)) ≡ (list_all is_utf8 (field ∷ fields) && is_utf8 rest)
utf8_fields field [] rest =
    utf8_field field 10 rest (lit< tt) ∙ ap (λ t. is_utf8 field && t) (utf8_behind 10 rest (lit< tt)) ∙ and_assoc (is_utf8 field) true (is_utf8 rest)
utf8_fields field (next ∷ fields) rest =
    let others : List ℕ = field_text next ++ more_text fields in
    utf8_field field 44 (others ++ 10 ∷ rest) (lit< tt)
    ∙ ap (λ t. is_utf8 field && t) (
    utf8_behind 44 (others ++ 10 ∷ rest) (lit< tt) ∙ ap is_utf8 (append_assoc (field_text next) (more_text fields) (10 ∷ rest)) ∙ utf8_fields next fields rest
    )
    ∙ and_assoc (is_utf8 field) (list_all is_utf8 (next ∷ fields)) (is_utf8 rest)

-- the text of a record, and what follows it
pub record_before : (field : Field) (fields : List Field) (rest : List ℕ) → record_text (field ∷ fields) ++ rest ≡ field_text field ++ (more_text fields ++ 10 ∷ rest)
unfolding record_text
record_before field fields rest =
    append_assoc (field_text field ++ more_text fields) (10 ∷ []) rest ∙ append_assoc (field_text field) (more_text fields) (10 ∷ rest)

utf8_record : (row : Record) (rest : List ℕ) → is_utf8 (record_text row ++ rest) ≡ (list_all is_utf8 row && is_utf8 rest)
unfolding record_text
utf8_record [] rest = utf8_behind 10 rest (lit< tt)
utf8_record (field ∷ fields) rest = ap is_utf8 (record_before field fields rest) ∙ utf8_fields field fields rest

pub utf8_records : (rows : List Record) → is_utf8 (records_text rows) ≡ list_all (list_all is_utf8) rows
utf8_records [] = empty_utf8
utf8_records (row ∷ rows) =
    ap is_utf8 (flat_map-cons record_text row rows) ∙ utf8_record row (records_text rows) ∙ ap (λ t. list_all is_utf8 row && t) (utf8_records rows)
