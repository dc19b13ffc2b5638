-- Records that were printed are read back, so a text determines its records.
use Rattle.std.proofs.Common.{◌≡◌, ◌≢◌, ◌++◌, ◌<◌, ◌≤◌, ◌^◌, ℕ, Bool, true, false, cond, List, [], ◌∷◌, Some, None, length, arith, refl, sym, ap, ◌∙◌, rules, lit<}
use Rattle.std.proofs.lemmas.Bool.{le-leb, ne_eqb}
use Rattle.std.proofs.lemmas.Fmt.{digits_decimal, digits_value-decimal, length-decimal-le, decimal_nonempty}
use Rattle.std.proofs.lemmas.Str.Parse.{IsNumeralModel, numerals_by_fold}
use Rattle.std.specs.Char.{is_ascii_digit}
use Rattle.std.specs.Fmt.{decimal}
use Rattle.optra_records.specs.Numbers.{number_of, value_after}
use Rattle.std.proofs.lemmas.List.Concat.{flat_map-cons}
use Rattle.std.specs.List.{list_all}
use Rattle.csv.specs.Machine.{next_record}
use Rattle.csv.specs.Reading.{default_config, records}
use Rattle.csv.specs.Writing.{read_back}
use Rattle.csv.specs.declared.parser.State.TheVariants as st
use Rattle.csv.proofs.RoundTrip.{read-write}
use Rattle.optra_records.specs.Reading.{Record, has_mark, table_records, without_mark}
use Rattle.optra_records.specs.Texts.{AreShown, BeginsPlain, escaped, is_shown, more_text, needs_quotes, record_text, records_text}
use Rattle.optra_records.proofs.ReadLemmas.{marked_once, next_left, no_left}
use Rattle.optra_records.proofs.TextLemmas.{record_alike_default}

back : (fields : Record) → is_shown fields ≡ true → read_back fields ≡ fields
back [] h = absurd (cc h)
back (f ∷ fs) h = refl

nothing_left : next_record default_config st.StartRecord [] [] [] ≡ None
unfolding next_record
nothing_left = refl

-- the first read of a text gives its first record, and leaves the rest
first_back : (row : Record) (rest : List ℕ) → is_shown row ≡ true → next_record default_config st.StartRecord [] [] (record_text row ++ rest) ≡ Some (row, st.StartRecord, rest)
first_back row rest h = rw (← record_alike_default row h) (read-write row rest ∙ ap (λ (fields : Record). Some (fields, st.StartRecord, rest)) (back row h))

-- what was printed is read back
pub records_back : (rows : List Record) → AreShown rows → records default_config (records_text rows) ≡ rows
records_back [] h = no_left st.StartRecord [] nothing_left
records_back (row ∷ rows) h =
    let first = first_back row (records_text rows) h.0 in
    rw (flat_map-cons record_text row rows) (next_left st.StartRecord (record_text row ++ records_text rows) (row, st.StartRecord, records_text rows) first
    ∙ ap (λ (t : List Record). row ∷ t) (records_back rows h.1))

-- a text determines the records that were printed
pub same_records : (a b : List Record) → AreShown a → AreShown b → records_text a ≡ records_text b → a ≡ b
same_records a b h k e = sym (records_back a h) ∙ ap (records default_config) e ∙ records_back b k

-- the text of a record determines it
pub same_record : (a b : Record) → is_shown a ≡ true → is_shown b ≡ true → record_text a ≡ record_text b → a ≡ b
same_record a b h k e =
    let both : records_text (a ∷ []) ≡ records_text (b ∷ []) = rw (flat_map-cons record_text a [], flat_map-cons record_text b [], e) refl in
    let same : a ∷ [] ≡ b ∷ [] = same_records (a ∷ []) (b ∷ []) (h, tt) (k, tt) both in
    cc same

-- ---- the same for tables, which may begin with a mark

plain_start : (a : ℕ) (xs : List ℕ) → a ≢ 0xEF → has_mark (a ∷ xs) ≡ false
plain_start a [] n = refl
plain_start a (b ∷ []) n = refl
plain_start a (b ∷ c ∷ xs) n = rw (ne_eqb a 0xEF n) refl

either : (t : Bool) (b : ℕ) (quoted field more rest : List ℕ) → b ≢ 0xEF → has_mark (((cond t (34 ∷ quoted) (b ∷ field) ++ more) ++ 10 ∷ []) ++ rest) ≡ false
either true b quoted field more rest p = plain_start 34 _ (λ e. absurd (omega (arith, e)))
either false b quoted field more rest p = plain_start b _ p

no_mark : (rows : List Record) → AreShown rows → BeginsPlain rows → has_mark (records_text rows) ≡ false
unfolding record_text
no_mark [] h p = refl
no_mark ([] ∷ rows) h p = absurd (cc h.0)
no_mark (([] ∷ []) ∷ rows) h p = absurd (cc h.0)
no_mark (([] ∷ next ∷ fields) ∷ rows) h p = rw (flat_map-cons record_text ([] ∷ next ∷ fields) rows) (plain_start 44 _ (λ e. absurd (omega (arith, e))))
no_mark (((b ∷ field) ∷ fields) ∷ rows) h p =
    rw (flat_map-cons record_text ((b ∷ field) ∷ fields) rows)
    (either (needs_quotes (b ∷ field)) b (escaped (b ∷ field) ++ 34 ∷ []) field (more_text fields) (records_text rows) p)

-- a table that was printed is read back
pub table_back : (rows : List Record) → AreShown rows → BeginsPlain rows → table_records (records_text rows) ≡ rows
table_back rows h p =
    let plain = no_mark rows h p in
    let same : without_mark (records_text rows) ≡ records_text rows = rw plain refl in
    marked_once (records_text rows) (ap has_mark same ∙ plain) ∙ ap (records default_config) same ∙ records_back rows h

-- ---- numbers

digits_own : IsNumeralModel (λ ds. list_all is_ascii_digit ds ≡ true) (value_after 0)
digits_own = numerals_by_fold _ (search rules) value_after (search rules)

-- a number that was printed is read back
pub number_back : (n : ℕ) → n < 10 ^ 10 → number_of (decimal n) ≡ Some n
unfolding number_of
number_back n small =
    let fits : n < 2 ^ 64 = omega arith in
    let some : 1 ≤ length (decimal n) = decimal_nonempty n fits in
    let few : length (decimal n) ≤ 10 = length-decimal-le 10 n (lit< tt) small fits in
    rw (le-leb 1 _ some, le-leb _ 10 few, digits_decimal digits_own n fits, digits_value-decimal digits_own n fits) refl
