-- Bytes go on as a text of records does exactly where they are one.
use Rattle.std.proofs.Common.{◌≡◌, ◌⊎◌, inl, inr, ◌++◌, ◌&&◌, ◌||◌, ◌==◌, ℕ, Bool, true, false, cond, List, [], ◌∷◌, length, Option, Some, None, refl, sym, ap, ◌∙◌, subst, arith, append_assoc, not, bytes_eq}
use Rattle.std.specs.List.{list_all}
use Rattle.std.specs.Option.{option_map_or}
use Rattle.std.specs.Str.{is_utf8}
use Rattle.std.proofs.lemmas.Bool.{and_parts, eqb-true, false_from_ne_true, or_parts, both_ways, cond-false, ne_eqb}
use Rattle.std.proofs.lemmas.List.Concat.{flat_map-cons}
use Rattle.std.proofs.lemmas.Slice.Eq.{bytes_eq-Decides}
use Rattle.csv.specs.Reading.{default_config, records}
use Rattle.optra_records.specs.Reading.{Field, Record, has_mark}
use Rattle.optra_records.specs.Texts.{AreShown, escaped, field_text, is_shown, is_special, more_text, needs_quotes, record_text, records_text}
use Rattle.optra_records.specs.Canonical.{ended_place, first_place, goes_on, is_canonical, is_text_of, next_place, plain_place}
use Rattle.optra_records.specs.declared.places.Place.{Place}
use Rattle.optra_records.specs.declared.places.Place.TheVariants as place
use Rattle.optra_records.proofs.CanonicalLemmas.{is_fit}
use Rattle.optra_records.proofs.ReadBack.{records_back}
use Rattle.optra_records.proofs.Utf8Lemmas.{record_before, utf8_records}

or_false : (a : Bool) → (a || false) ≡ a
or_false true = refl
or_false false = refl

or_true : (a : Bool) → (a || true) ≡ true
or_true true = refl
or_true false = refl

or_assoc : (a b c : Bool) → ((a || b) || c) ≡ (a || (b || c))
or_assoc true b c = refl
or_assoc false b c = refl

-- ---- a text of records goes on to its end

-- where a field may end
abbrev EndsField : Place → Type 0
EndsField p = (next_place p 44 ≡ Some place.NewField) × (next_place p 10 ≡ Some place.NewRecord)

-- a byte that is no special one is no quote
no_quote : (b : ℕ) → is_special b ≡ false → (b == 34) ≡ false
no_quote b e = (or_parts (b == 44) (b == 34) (or_parts _ (b == 13) (or_parts _ (b == 10) e).0).0).1

no_feed : (b : ℕ) → is_special b ≡ false → (b == 10) ≡ false
no_feed b e = (or_parts _ (b == 10) e).1

plain_goes : (field : Field) (text : List ℕ) → needs_quotes field ≡ false → goes_on (field ++ text) place.Plain ≡ goes_on text place.Plain
plain_goes [] text e = refl
plain_goes (b ∷ field) text e =
    let p = or_parts (is_special b) (needs_quotes field) e in
    rw (p.0) (plain_goes field text p.1)

first_goes : (b : ℕ) (field : Field) (text : List ℕ) → needs_quotes (b ∷ field) ≡ false → goes_on (b ∷ (field ++ text)) place.NewField ≡ goes_on text place.Plain
first_goes b field text e =
    let p = or_parts (is_special b) (needs_quotes field) e in
    rw (p.0, no_quote b p.0) (plain_goes field text p.1)

-- a byte in quotes that is no quote
quoted_step : (b : ℕ) (text : List ℕ) (needed : Bool) → (b == 34) ≡ false → goes_on (b ∷ text) (place.Quoted needed) ≡ goes_on text (place.Quoted (needed || is_special b))
quoted_step b text needed e = ap (λ (o : Option Place). option_map_or (goes_on text) o false) (cond-false (b == 34) (Some (place.Closed needed)) (Some (place.Quoted (needed || is_special b))) e)

quoted_goes : (field : Field) (text : List ℕ) (needed : Bool) → goes_on (escaped field ++ 34 ∷ text) (place.Quoted needed) ≡ goes_on text (place.Closed (needed || needs_quotes field))
quoted_goes [] text needed = ap (λ t. goes_on text (place.Closed t)) (sym (or_false needed))
quoted_goes (b ∷ field) text needed = by (b == 34) refl (quoted_goes field text true) (quoted_goes field text (needed || is_special b))
  where
    Goes : Bool → Type 0
    Goes n = goes_on (escaped field ++ 34 ∷ text) (place.Quoted n) ≡ goes_on text (place.Closed (n || needs_quotes field))

    quote : Goes true → goes_on (34 ∷ 34 ∷ (escaped field ++ 34 ∷ text)) (place.Quoted needed) ≡ goes_on text (place.Closed (needed || true))
    quote more = more ∙ ap (λ t. goes_on text (place.Closed t)) (sym (or_true needed))

    other : (b == 34) ≡ false → Goes (needed || is_special b) → goes_on (b ∷ (escaped field ++ 34 ∷ text)) (place.Quoted needed) ≡ goes_on text (place.Closed (needed || (is_special b || needs_quotes field)))
    other e more = quoted_step b (escaped field ++ 34 ∷ text) needed e ∙ more ∙ ap (λ t. goes_on text (place.Closed t)) (or_assoc needed (is_special b) (needs_quotes field))

    by : (t : Bool) → (b == 34) ≡ t → Goes true → Goes (needed || is_special b)
        → goes_on (cond t (34 ∷ b ∷ escaped field) (b ∷ escaped field) ++ 34 ∷ text) (place.Quoted needed) ≡ goes_on text (place.Closed (needed || (is_special b || needs_quotes field)))
    by true e first more =
        subst (λ x. goes_on (34 ∷ x ∷ (escaped field ++ 34 ∷ text)) (place.Quoted needed) ≡ goes_on text (place.Closed (needed || (is_special x || needs_quotes field)))) (sym (eqb-true b 34 e)) (quote first)
    by false e first more = other e more

-- a field goes on to what is told of its end
field_goes : (field : Field) (text : List ℕ) (all : Bool) → ((p : Place) → EndsField p → goes_on text p ≡ all) → goes_on (field_text field ++ text) place.NewField ≡ all
field_goes field text all more = by (needs_quotes field) refl
  where
    plain : (field : Field) → needs_quotes field ≡ false → goes_on (field ++ text) place.NewField ≡ all
    plain [] e = more place.NewField (refl, refl)
    plain (b ∷ field) e = first_goes b field text e ∙ more place.Plain (refl, refl)

    by : (t : Bool) → needs_quotes field ≡ t → goes_on (cond t (34 ∷ (escaped field ++ 34 ∷ [])) field ++ text) place.NewField ≡ all
    by true e =
        ap (λ (xs : List ℕ). goes_on xs (place.Quoted false)) (append_assoc (escaped field) (34 ∷ []) text)
        ∙ quoted_goes field text false
        ∙ ap (λ t. goes_on text (place.Closed t)) e
        ∙ more (place.Closed true) (refl, refl)
    by false e = plain field e

more_goes : (fields : List Field) (text : List ℕ) (p : Place) → EndsField p → goes_on (more_text fields ++ 10 ∷ text) p ≡ goes_on text place.NewRecord
more_goes [] text p ends = rw (ends.1) refl
more_goes (field ∷ fields) text p ends =
    rw (ends.0) (
    ap (λ (xs : List ℕ). goes_on xs place.NewField) (append_assoc (field_text field) (more_text fields) (10 ∷ text))
    ∙ field_goes field (more_text fields ++ 10 ∷ text) (goes_on text place.NewRecord) (more_goes fields text)
    )

-- where a record begins a field begins, but for a line feed
begins_alike : (b : ℕ) (text : List ℕ) → (b == 10) ≡ false → goes_on (b ∷ text) place.NewRecord ≡ goes_on (b ∷ text) place.NewField
begins_alike b text e = rw e refl

record_begins : (field : Field) (fields : List Field) (text : List ℕ) → is_shown (field ∷ fields) ≡ true
    → goes_on (field_text field ++ (more_text fields ++ 10 ∷ text)) place.NewRecord ≡ goes_on (field_text field ++ (more_text fields ++ 10 ∷ text)) place.NewField
record_begins [] [] text h = absurd (cc h)
record_begins [] (next ∷ fields) text h = refl
record_begins (b ∷ field) fields text h = by (needs_quotes (b ∷ field)) refl
  where
    rest : List ℕ
    rest = more_text fields ++ 10 ∷ text

    by : (t : Bool) → needs_quotes (b ∷ field) ≡ t
        → goes_on (cond t (34 ∷ (escaped (b ∷ field) ++ 34 ∷ [])) (b ∷ field) ++ rest) place.NewRecord ≡ goes_on (cond t (34 ∷ (escaped (b ∷ field) ++ 34 ∷ [])) (b ∷ field) ++ rest) place.NewField
    by true e = refl
    by false e = begins_alike b (field ++ rest) (no_feed b (or_parts (is_special b) (needs_quotes field) e).0)

record_goes : (row : Record) (text : List ℕ) → is_shown row ≡ true → goes_on (record_text row ++ text) place.NewRecord ≡ goes_on text place.NewRecord
record_goes [] text h = absurd (cc h)
record_goes (field ∷ fields) text h =
    ap (λ (xs : List ℕ). goes_on xs place.NewRecord) (record_before field fields text)
    ∙ record_begins field fields text h
    ∙ field_goes field (more_text fields ++ 10 ∷ text) (goes_on text place.NewRecord) (more_goes fields text)

records_go : (rows : List Record) → AreShown rows → goes_on (records_text rows) place.NewRecord ≡ true
records_go [] h = refl
records_go (row ∷ rows) h =
    ap (λ (xs : List ℕ). goes_on xs place.NewRecord) (flat_map-cons record_text row rows) ∙ record_goes row (records_text rows) h.0 ∙ records_go rows h.1

-- ---- what goes on to its end is a text of records

-- further fields, the end of their record, and records
abbrev rest_of : List Field → List Record → List ℕ
rest_of fields rows = more_text fields ++ 10 ∷ records_text rows

record IsRecords (text : List ℕ) : Type 0 where
  rows : List Record
  shown : AreShown rows
  is : text ≡ records_text rows

record IsRest (text : List ℕ) : Type 0 where
  fields : List Field
  rows : List Record
  shown : AreShown rows
  is : text ≡ rest_of fields rows

record IsField (text : List ℕ) : Type 0 where
  field : Field
  fields : List Field
  rows : List Record
  shown : AreShown rows
  is : text ≡ field_text field ++ rest_of fields rows

record IsPlain (text : List ℕ) : Type 0 where
  field : Field
  fields : List Field
  rows : List Record
  shown : AreShown rows
  plain : needs_quotes field ≡ false
  is : text ≡ field ++ rest_of fields rows

record IsQuoted (needed : Bool) (text : List ℕ) : Type 0 where
  field : Field
  fields : List Field
  rows : List Record
  shown : AreShown rows
  needs : (needed || needs_quotes field) ≡ true
  is : text ≡ escaped field ++ 34 ∷ rest_of fields rows

record IsDoubled (text : List ℕ) : Type 0 where
  rest : List ℕ
  quoted : IsQuoted true rest
  is : text ≡ 34 ∷ rest

-- what a text is from a place on
abbrev Left : Place → List ℕ → Type 0
Left place.NewRecord text = IsRecords text
Left place.NewField text = IsField text
Left place.Plain text = IsPlain text
Left (place.Quoted needed) text = IsQuoted needed text
Left (place.Closed needed) text = ((needed ≡ true) × IsRest text) ⊎ IsDoubled text

same_byte : (x y : ℕ) (xs ys : List ℕ) → x ≡ y → xs ≡ ys → x ∷ xs ≡ y ∷ ys
same_byte x y xs ys e f = rw (e, f) refl

quoted_text : (field : Field) (rest : List ℕ) → needs_quotes field ≡ true → 34 ∷ (escaped field ++ 34 ∷ rest) ≡ field_text field ++ rest
quoted_text field rest e = rw e (ap (λ (xs : List ℕ). 34 ∷ xs) (sym (append_assoc (escaped field) (34 ∷ []) rest)))

plain_text : (field : Field) (rest : List ℕ) → needs_quotes field ≡ false → field ++ rest ≡ field_text field ++ rest
plain_text field rest e = rw e refl

escaped_other : (b : ℕ) (field : Field) → (b == 34) ≡ false → b ∷ escaped field ≡ escaped (b ∷ field)
escaped_other b field e = rw e refl

none_plain : (b : ℕ) (field : Field) → is_special b ≡ false → needs_quotes field ≡ false → needs_quotes (b ∷ field) ≡ false
none_plain b field e f = rw (e, f) refl

module _ (b : ℕ) (text : List ℕ) where
  -- from the place behind the byte to the one before it
  abbrev Before : Option Place → Type 0 → Type 0
  Before o T = (p : Place) → o ≡ Some p → Left p text → T

  moved : (T : Type 0) (p q : Place) → ◌≡◌ {A = Option Place} (Some q) (Some p) → (Left q text → T) → Left p text → T
  moved T p q o f left = let same : q ≡ p = cc o in f (subst (λ r. Left r text) (sym same) left)

  feed_rest : b ≡ 10 → IsRecords text → IsRest (b ∷ text)
  feed_rest e h = record { fields = []; rows = h.rows; shown = h.shown; is = same_byte b 10 text (records_text h.rows) e h.is }

  comma_rest : b ≡ 44 → IsField text → IsRest (b ∷ text)
  comma_rest e h = record {
    fields = h.field ∷ h.fields;
    rows = h.rows;
    shown = h.shown;
    is = same_byte b 44 text _ e h.is ∙ ap (λ (xs : List ℕ). 44 ∷ xs) (sym (append_assoc (field_text h.field) (more_text h.fields) (10 ∷ records_text h.rows)));
  }

  ended_before : Before (ended_place b) (IsRest (b ∷ text))
  ended_before p = by (b == 44) refl
    where
      feed : (t : Bool) → (b == 10) ≡ t → cond t (Some place.NewRecord) None ≡ Some p → Left p text → IsRest (b ∷ text)
      feed true e o = moved (IsRest (b ∷ text)) p place.NewRecord o (feed_rest (eqb-true b 10 e))
      feed false e o = absurd (cc o)

      by : (t : Bool) → (b == 44) ≡ t → cond t (Some place.NewField) (cond (b == 10) (Some place.NewRecord) None) ≡ Some p → Left p text → IsRest (b ∷ text)
      by true e o = moved (IsRest (b ∷ text)) p place.NewField o (comma_rest (eqb-true b 44 e))
      by false e o = feed (b == 10) refl o

  plain_more : is_special b ≡ false → IsPlain text → IsPlain (b ∷ text)
  plain_more e h = record {
    field = b ∷ h.field;
    fields = h.fields;
    rows = h.rows;
    shown = h.shown;
    plain = none_plain b h.field e h.plain;
    is = ap (λ (xs : List ℕ). b ∷ xs) h.is;
  }

  plain_end : IsRest (b ∷ text) → IsPlain (b ∷ text)
  plain_end h = record { field = []; fields = h.fields; rows = h.rows; shown = h.shown; plain = refl; is = h.is }

  plain_before : Before (plain_place b) (IsPlain (b ∷ text))
  plain_before p = by (is_special b) refl
    where
      by : (t : Bool) → is_special b ≡ t → cond t (ended_place b) (Some place.Plain) ≡ Some p → Left p text → IsPlain (b ∷ text)
      by true e o left = plain_end (ended_before p o left)
      by false e o left = moved (IsPlain (b ∷ text)) p place.Plain o (plain_more e) left

  quoted_first : b ≡ 34 → IsQuoted false text → IsField (b ∷ text)
  quoted_first e h = record {
    field = h.field;
    fields = h.fields;
    rows = h.rows;
    shown = h.shown;
    is = same_byte b 34 text _ e h.is ∙ quoted_text h.field (rest_of h.fields h.rows) h.needs;
  }

  plain_first : IsPlain (b ∷ text) → IsField (b ∷ text)
  plain_first h = record {
    field = h.field;
    fields = h.fields;
    rows = h.rows;
    shown = h.shown;
    is = h.is ∙ plain_text h.field (rest_of h.fields h.rows) h.plain;
  }

  first_before : Before (first_place b) (IsField (b ∷ text))
  first_before p = by (b == 34) refl
    where
      by : (t : Bool) → (b == 34) ≡ t → cond t (Some (place.Quoted false)) (plain_place b) ≡ Some p → Left p text → IsField (b ∷ text)
      by true e o left = moved (IsField (b ∷ text)) p (place.Quoted false) o (quoted_first (eqb-true b 34 e)) left
      by false e o left = plain_first (plain_before p o left)

  shown_from : (field : Field) (fields : List Field) (rows : List Record) → (b == 10) ≡ false → b ∷ text ≡ field_text field ++ rest_of fields rows → is_shown (field ∷ fields) ≡ true
  shown_from [] [] rows e is =
      let same : b ≡ 10 = cc is in
      absurd (both_ways (10 == 10) (subst (λ x. (x == 10) ≡ false) same e) refl)
  shown_from [] (next ∷ fields) rows e is = refl
  shown_from (c ∷ field) [] rows e is = ap not (ne_eqb (length (c ∷ field)) 0 (λ e. absurd (omega (arith, e))))
  shown_from (c ∷ field) (next ∷ fields) rows e is = refl

  first_record : (b == 10) ≡ false → IsField (b ∷ text) → IsRecords (b ∷ text)
  first_record e h = record {
    rows = (h.field ∷ h.fields) ∷ h.rows;
    shown = (shown_from h.field h.fields h.rows e h.is, h.shown);
    is = h.is ∙ sym (flat_map-cons record_text (h.field ∷ h.fields) h.rows ∙ record_before h.field h.fields (records_text h.rows));
  }

  records_before : Before (cond (b == 10) None (first_place b)) (IsRecords (b ∷ text))
  records_before p = by (b == 10) refl
    where
      by : (t : Bool) → (b == 10) ≡ t → cond t None (first_place b) ≡ Some p → Left p text → IsRecords (b ∷ text)
      by true e o left = absurd (cc o)
      by false e o left = first_record e (first_before p o left)

  closed_quoted : (needed : Bool) → b ≡ 34 → Left (place.Closed needed) text → IsQuoted needed (b ∷ text)
  closed_quoted needed e (inl h) = record {
    field = [];
    fields = h.1.fields;
    rows = h.1.rows;
    shown = h.1.shown;
    needs = or_false needed ∙ h.0;
    is = same_byte b 34 text _ e h.1.is;
  }
  closed_quoted needed e (inr h) = record {
    field = 34 ∷ h.quoted.field;
    fields = h.quoted.fields;
    rows = h.quoted.rows;
    shown = h.quoted.shown;
    needs = or_true needed;
    is = same_byte b 34 text _ e (h.is ∙ ap (λ (xs : List ℕ). 34 ∷ xs) h.quoted.is);
  }

  quoted_more : (needed : Bool) → (b == 34) ≡ false → IsQuoted (needed || is_special b) text → IsQuoted needed (b ∷ text)
  quoted_more needed e h = record {
    field = b ∷ h.field;
    fields = h.fields;
    rows = h.rows;
    shown = h.shown;
    needs = sym (or_assoc needed (is_special b) (needs_quotes h.field)) ∙ h.needs;
    is = ap (λ (xs : List ℕ). b ∷ xs) h.is ∙ ap (λ (xs : List ℕ). xs ++ 34 ∷ rest_of h.fields h.rows) (escaped_other b h.field e);
  }

  quoted_before : (needed : Bool) → Before (next_place (place.Quoted needed) b) (IsQuoted needed (b ∷ text))
  quoted_before needed p = by (b == 34) refl
    where
      by : (t : Bool) → (b == 34) ≡ t → cond t (Some (place.Closed needed)) (Some (place.Quoted (needed || is_special b))) ≡ Some p → Left p text → IsQuoted needed (b ∷ text)
      by true e o left = moved (IsQuoted needed (b ∷ text)) p (place.Closed needed) o (closed_quoted needed (eqb-true b 34 e)) left
      by false e o left = moved (IsQuoted needed (b ∷ text)) p (place.Quoted (needed || is_special b)) o (quoted_more needed e) left

  closed_before : (needed : Bool) → Before (next_place (place.Closed needed) b) (Left (place.Closed needed) (b ∷ text))
  closed_before needed p = by (b == 34) refl
    where
      end : (n : Bool) → cond n (ended_place b) None ≡ Some p → Left p text → ((n ≡ true) × IsRest (b ∷ text)) ⊎ IsDoubled (b ∷ text)
      end true o left = inl (refl, ended_before p o left)
      end false o left = absurd (cc o)

      doubled : b ≡ 34 → IsQuoted true text → Left (place.Closed needed) (b ∷ text)
      doubled e h = inr (record { rest = text; quoted = h; is = same_byte b 34 text text e refl })

      by : (t : Bool) → (b == 34) ≡ t → cond t (Some (place.Quoted true)) (cond needed (ended_place b) None) ≡ Some p → Left p text → Left (place.Closed needed) (b ∷ text)
      by true e o left = moved (Left (place.Closed needed) (b ∷ text)) p (place.Quoted true) o (doubled (eqb-true b 34 e)) left
      by false e o left = end needed o left

  before : (q : Place) → Before (next_place q b) (Left q (b ∷ text))
  before place.NewRecord = records_before
  before place.NewField = first_before
  before place.Plain = plain_before
  before (place.Quoted needed) = quoted_before needed
  before (place.Closed needed) = closed_before needed

left : (text : List ℕ) (p : Place) → goes_on text p ≡ true → Left p text
left [] place.NewRecord e = record { rows = []; shown = tt; is = refl }
left [] place.NewField e = absurd (cc e)
left [] place.Plain e = absurd (cc e)
left [] (place.Quoted needed) e = absurd (cc e)
left [] (place.Closed needed) e = absurd (cc e)
left (b ∷ text) p e = by (next_place p b) refl e (left text)
  where
    by : (o : Option Place) → next_place p b ≡ o → option_map_or (goes_on text) o false ≡ true → ((q : Place) → goes_on text q ≡ true → Left q text) → Left p (b ∷ text)
    by None f e more = absurd (cc e)
    by (Some q) f e more = before b text p q f (more q e)

-- ---- so it is canonical

fits_alike : (rows : List Record) → AreShown rows → list_all is_fit rows ≡ list_all (list_all is_utf8) rows
fits_alike [] h = refl
fits_alike (row ∷ rows) h = rw (h.0, fits_alike rows h.1) (ap (λ t. t && list_all (list_all is_utf8) rows) (and_true (list_all is_utf8 row)))
  where
    and_true : (a : Bool) → (a && true) ≡ a
    and_true true = refl
    and_true false = refl

fit_shown : (rows : List Record) → list_all is_fit rows ≡ true → AreShown rows
fit_shown [] e = tt
fit_shown (row ∷ rows) e = let p = and_parts (is_fit row) (list_all is_fit rows) e in ((and_parts (list_all is_utf8 row) (is_shown row) p.0).1, fit_shown rows p.1)

text_of_is : (bytes : List ℕ) → is_text_of (records default_config bytes) bytes ≡ (is_utf8 bytes && goes_on bytes place.NewRecord)
text_of_is bytes = by (goes_on bytes place.NewRecord) refl
  where
    read : List Record
    read = records default_config bytes

    yes : IsRecords bytes → is_text_of read bytes ≡ (is_utf8 bytes && true)
    yes h =
        let own : read ≡ h.rows = ap (records default_config) h.is ∙ records_back h.rows h.shown in
        let same : bytes_eq (records_text h.rows) bytes ≡ true = (bytes_eq-Decides (records_text h.rows) bytes).1 (sym h.is) in
        let fits : list_all is_fit h.rows ≡ is_utf8 bytes = fits_alike h.rows h.shown ∙ sym (utf8_records h.rows) ∙ ap is_utf8 (sym h.is) in
        rw (own, same, fits) refl

    no : goes_on bytes place.NewRecord ≡ false → is_text_of read bytes ≡ true → ⊥
    no e is =
        let p = and_parts (list_all is_fit read) (bytes_eq (records_text read) bytes) is in
        let same : records_text read ≡ bytes = (bytes_eq-Decides (records_text read) bytes).0 p.1 in
        both_ways (goes_on bytes place.NewRecord) e (subst (λ (xs : List ℕ). goes_on xs place.NewRecord ≡ true) same (records_go read (fit_shown read p.0)))

    and_false : (a : Bool) → (a && false) ≡ false
    and_false true = refl
    and_false false = refl

    by : (t : Bool) → goes_on bytes place.NewRecord ≡ t → is_text_of read bytes ≡ (is_utf8 bytes && t)
    by true e = yes (left bytes place.NewRecord e)
    by false e = false_from_ne_true (is_text_of read bytes) (no e) ∙ sym (and_false (is_utf8 bytes))

-- A text is canonical where it has no mark, is UTF-8, and goes on as a text of records does.
pub canonical_is : (bytes : List ℕ) → is_canonical bytes ≡ (not (has_mark bytes) && (is_utf8 bytes && goes_on bytes place.NewRecord))
unfolding is_canonical
canonical_is bytes = ap (λ t. not (has_mark bytes) && t) (text_of_is bytes)
