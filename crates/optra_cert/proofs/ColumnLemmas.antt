-- A field that tells a value is its text, and the text of a value that fits tells it.
use Rattle.std.proofs.Common.{◌≡◌, ◌≢◌, ◌<◌, ◌≤◌, ◌^◌, ◌&&◌, ℕ, Bool, true, false, List, [], ◌∷◌, length, get_or, Option, Some, None, refl, sym, ◌∙◌, subst, arith, bytes_eq, nat_le}
use Rattle.std.specs.Prelude.{cond, All, Result, Ok, Err, slice_get, unwrap_or}
use Rattle.std.specs.List.{AllZip, position_or_len}
use Rattle.std.specs.Fmt.{decimal}
use Rattle.std.proofs.lemmas.Bool.{le-leb, leb-true, lt-ltb, and_parts, false_from_ne_true}
use Rattle.std.proofs.lemmas.List.Elements.{All-head, All-tail}
use Rattle.std.proofs.lemmas.List.Quantifiers.{position-Some}
use Rattle.std.proofs.lemmas.List.Sums.{position_or_len_is}
use Rattle.std.proofs.lemmas.Option.{unwrap_or-slice_get}
use Rattle.std.proofs.lemmas.Slice.Eq.{bytes_eq-Decides}
use Rattle.optra_network.specs.Net.{Net, IsBuilt}
use Rattle.optra_network.specs.Names.{AllDiffer, place_of}
use Rattle.optra_records.specs.Numbers.{plain_number_of}
use Rattle.optra_records.specs.Reading.{Field, Record}
use Rattle.optra_records.proofs.PlainNumbers.{plain_number_back, plain_number_text}
use Rattle.optra_cert.specs.Columns.{Column, a_station, a_track, a_type, a_number, a_word, FitsIn, IsSoundColumn, told_in, shown_in, shown, in_range, values_of, has_form, record_values, told_before}
use Rattle.optra_cert.specs.declared.CertCode.{CertCode}
use Rattle.optra_cert.specs.declared.CertCode.TheVariants as codes

module _ (names : List Field) where
  pub place_back : AllDiffer names → (n : ℕ) → n < length names → place_of (get_or names n []) names ≡ Some n
  place_back differ n within =
      let own : Field = get_or names n [] in
      let other : (k : ℕ) → k < n → bytes_eq own (get_or names k []) ≡ false =
      λ k before. false_from_ne_true _ (λ e. differ k n [] before within (sym ((bytes_eq-Decides own (get_or names k [])).0 e))) in
      let stands : position_or_len (bytes_eq own) names ≡ n =
      position_or_len_is (bytes_eq own) names n [] (omega arith) other (λ l. (bytes_eq-Decides own own).1 refl) in
      rw (stands, lt-ltb n (length names) within) refl

  pub place_told : (field : Field) (n : ℕ) → place_of field names ≡ Some n → (n < length names) × (get_or names n [] ≡ field)
  place_told field n e =
      let h = position-Some (bytes_eq field) names n [] e in
      (h.0, sym ((bytes_eq-Decides field (get_or names n [])).0 h.1))

  named_back : AllDiffer names → (n : ℕ) → n < length names → place_of (unwrap_or (slice_get names n) []) names ≡ Some n
  named_back differ n within = rw (unwrap_or-slice_get names n []) (place_back differ n within)

  named_told : (field : Field) (n : ℕ) → place_of field names ≡ Some n → (n < length names) × (unwrap_or (slice_get names n) [] ≡ field)
  named_told field n e = let h = place_told field n e in (h.0, unwrap_or-slice_get names n [] ∙ h.1)

abbrev IsThat : ℕ → ℕ → ℕ → ℕ → Type 0
IsThat low high m k = (◌≡◌ {A = Option ℕ} (Some m) (Some k)) × ((low ≤ k) × (k ≤ high))

-- a number that is in a range
pub in_range_some : (low high : ℕ) (o : Option ℕ) (n : ℕ) → in_range low high o ≡ Some n → (o ≡ Some n) × ((low ≤ n) × (n ≤ high))
in_range_some low high None n e = absurd (cc e)
in_range_some low high (Some m) n e = by (nat_le low m && nat_le m high) refl e
  where
    by : (b : Bool) → (nat_le low m && nat_le m high) ≡ b → cond b (Some m) None ≡ Some n → IsThat low high m n
    by true f e =
        let same : m ≡ n = cc e in
        let parts = and_parts _ _ f in
        subst (IsThat low high m) same (refl, (leb-true low m parts.0, leb-true m high parts.1))
    by false f e = absurd (cc e)

-- the text of a number of a range tells it
pub number_shown : (low high n : ℕ) → high < 10 ^ 18 → low ≤ n → n ≤ high → in_range low high (plain_number_of (decimal n)) ≡ Some n
number_shown low high n few least most = rw (plain_number_back n (omega (arith, few, most)), le-leb low n least, le-leb n high most) refl

-- a field that tells a number of a range is its text
pub shown_number : (low high : ℕ) (field : Field) (n : ℕ) → high < 10 ^ 18 → in_range low high (plain_number_of field) ≡ Some n → ((low ≤ n) × (n ≤ high)) × (decimal n ≡ field)
shown_number low high field n few e =
    let h = in_range_some low high (plain_number_of field) n e in
    let most = h.1.1 in
    (h.1, plain_number_text field n h.0 (omega (arith, few, most)))

false_right : (b : Bool) → (b && false) ≡ false
false_right true = refl
false_right false = refl

-- another number of fields than of columns has no form
pub other_form : (columns : List Column) (fields : Record) → length fields ≢ length columns → has_form columns fields ≡ false
other_form [] [] h = absurd (h refl)
other_form [] (field ∷ fields) h = refl
other_form (column ∷ columns) [] h = refl
other_form (a_word words ∷ columns) (field ∷ fields) h = rw (other_form columns fields (λ e. h (omega (arith, e)))) (false_right _)
other_form (a_station ∷ columns) (field ∷ fields) h = other_form columns fields (λ e. h (omega (arith, e)))
other_form (a_track ∷ columns) (field ∷ fields) h = other_form columns fields (λ e. h (omega (arith, e)))
other_form (a_type ∷ columns) (field ∷ fields) h = other_form columns fields (λ e. h (omega (arith, e)))
other_form (a_number low high ∷ columns) (field ∷ fields) h = other_form columns fields (λ e. h (omega (arith, e)))

module _ (net : Net) (built : IsBuilt net) where
  -- the text of a value that fits tells it
  pub told_shown : (column : Column) (n : ℕ) → IsSoundColumn column → FitsIn net column n → told_in net column (shown_in net column n) ≡ Some n
  told_shown a_station n sound fits = named_back net.stations built.names.station_names.differ n fits
  told_shown a_track n sound fits = let same = built.named in named_back net.track_names built.names.names_of_tracks.differ n (omega (arith, same, fits))
  told_shown a_type n sound fits = named_back net.types built.names.type_names.differ n fits
  told_shown (a_number low high) n sound fits = number_shown low high n sound fits.0 fits.1
  told_shown (a_word words) n sound fits = named_back words sound n fits

  -- a field that tells a value is its text
  pub shown_told : (column : Column) (field : Field) (n : ℕ) → IsSoundColumn column → told_in net column field ≡ Some n → FitsIn net column n × (shown_in net column n ≡ field)
  shown_told a_station field n sound e = named_told net.stations field n e
  shown_told a_track field n sound e =
      let h = named_told net.track_names field n e in
      let within = h.0 in
      let same = built.named in
      (omega (arith, same, within), h.1)
  shown_told a_type field n sound e = named_told net.types field n e
  shown_told (a_number low high) field n sound e = shown_number low high field n sound e
  shown_told (a_word words) field n sound e = named_told words field n e

  form_step : (column : Column) (columns : List Column) (field : Field) (fields : Record) (n : ℕ) → told_in net column field ≡ Some n
      → has_form columns fields ≡ true → has_form (column ∷ columns) (field ∷ fields) ≡ true
  form_step a_station columns field fields n e h = h
  form_step a_track columns field fields n e h = h
  form_step a_type columns field fields n e h = h
  form_step (a_number low high) columns field fields n e h = h
  form_step (a_word words) columns field fields n e h = rw (e, h) refl

  values_form : (columns : List Column) (fields : Record) (values : List ℕ) → values_of net columns fields ≡ Ok values → has_form columns fields ≡ true
  values_form [] [] values e = refl
  values_form [] (field ∷ fields) values e = absurd (cc e)
  values_form (column ∷ columns) [] values e = absurd (cc e)
  values_form (column ∷ columns) (field ∷ fields) values e =
      by (told_in net column field) refl (values_of net columns fields) (values_form columns fields) e
    where
      by : (o : Option ℕ) → told_in net column field ≡ o → (r : Result (List ℕ) CertCode) → ((others : List ℕ) → r ≡ Ok others → has_form columns fields ≡ true)
          → told_before column o r ≡ Ok values → has_form (column ∷ columns) (field ∷ fields) ≡ true
      by None f r more e = absurd (cc e)
      by (Some n) f (Err code) more e = absurd (cc e)
      by (Some n) f (Ok others) more e = form_step column columns field fields n f (more others refl)

  -- values that fit are told by their texts
  values_shown : (columns : List Column) (values : List ℕ) → All IsSoundColumn columns → AllZip (FitsIn net) columns values → values_of net columns (shown net columns values) ≡ Ok values
  values_shown [] [] sound fits = refl
  values_shown [] (n ∷ values) sound fits = absurd fits
  values_shown (column ∷ columns) [] sound fits = absurd fits
  values_shown (column ∷ columns) (n ∷ values) sound fits =
      rw (told_shown column n (All-head IsSoundColumn column columns sound) fits.0, values_shown columns values (All-tail IsSoundColumn column columns sound) fits.1) refl

  pub record_shown : (columns : List Column) (values : List ℕ) → All IsSoundColumn columns → AllZip (FitsIn net) columns values → record_values net columns (shown net columns values) ≡ Ok values
  record_shown columns values sound fits =
      let told = values_shown columns values sound fits in
      rw (values_form columns (shown net columns values) values told) told

  abbrev TellThem : List Column → Record → List ℕ → Type 0
  TellThem columns fields values = AllZip (FitsIn net) columns values × (shown net columns values ≡ fields)

  values_told : (columns : List Column) (fields : Record) (values : List ℕ) → All IsSoundColumn columns → values_of net columns fields ≡ Ok values → AllZip (FitsIn net) columns values × (shown net columns values ≡ fields)
  values_told [] [] values sound e =
      let same : [] ≡ values = cc e in
      let P : List ℕ → Type 0 = λ vs. AllZip (FitsIn net) [] vs × (shown net [] vs ≡ []) in
      subst P same (tt, refl)
  values_told [] (field ∷ fields) values sound e = absurd (cc e)
  values_told (column ∷ columns) [] values sound e = absurd (cc e)
  values_told (column ∷ columns) (field ∷ fields) values sound e =
      by (told_in net column field) refl (values_of net columns fields) (λ others. values_told columns fields others (All-tail IsSoundColumn column columns sound)) e
    where
      by : (o : Option ℕ) → told_in net column field ≡ o → (r : Result (List ℕ) CertCode) → ((others : List ℕ) → r ≡ Ok others → AllZip (FitsIn net) columns others × (shown net columns others ≡ fields))
          → told_before column o r ≡ Ok values → TellThem (column ∷ columns) (field ∷ fields) values
      by None f r more e = absurd (cc e)
      by (Some n) f (Err code) more e = absurd (cc e)
      by (Some n) f (Ok others) more e =
          let same : n ∷ others ≡ values = cc e in
          let first = shown_told column field n (All-head IsSoundColumn column columns sound) f in
          let rest = more others refl in
          let whole : shown_in net column n ∷ shown net columns others ≡ field ∷ fields = cc (first.1, rest.1) in
          subst (TellThem (column ∷ columns) (field ∷ fields)) same ((first.0, rest.0), whole)

  -- fields that tell values are their texts, and the values fit
  pub record_told : (columns : List Column) (fields : Record) (values : List ℕ) → All IsSoundColumn columns → record_values net columns fields ≡ Ok values → AllZip (FitsIn net) columns values × (shown net columns values ≡ fields)
  record_told columns fields values sound e = by (has_form columns fields) e
    where
      by : (b : Bool) → cond b (values_of net columns fields) (Err codes.Record) ≡ Ok values → AllZip (FitsIn net) columns values × (shown net columns values ≡ fields)
      by true e = values_told columns fields values sound e
      by false e = absurd (cc e)
