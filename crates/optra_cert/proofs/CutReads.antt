-- A record that is cut tells what the whole record tells, so cut records are read as whole ones are.
use Rattle.std.proofs.Common.{◌≡◌, ◌≢◌, ◌⊎◌, inl, inr, ◌<◌, ◌≤◌, ◌+◌, ◌-◌, ◌^◌, ◌&&◌, ℕ, zero, suc, Bool, true, false, List, [], ◌∷◌, length, map, take, drop, Option, Some, None, IsTrue, not, refl, sym, ap, ◌∙◌, arith, codes, nat_le, bytes_eq, lit≤}
use Rattle.std.specs.Prelude.{All, Result, Ok, Err, pos}
use Rattle.std.specs.declared.cmp.Ordering.{Ordering}
use Rattle.std.specs.List.{prefix_len}
use Rattle.std.specs.Str.{is_utf8}
use Rattle.std.proofs.lemmas.Bool.{and_left, and_parts, and_right, cases_lt, cond-false, false_from_ne_true, le-ltb, leb-true, lt-leb}
use Rattle.std.proofs.lemmas.List.{drop-map, length-drop, length-map, length-take-le, take-map, take_all}
use Rattle.std.proofs.lemmas.List.Elements.{All-contains, All-from_recursion, All-head, All-tail, All-weaker}
use Rattle.std.proofs.lemmas.Slice.Eq.{bytes_eq-Decides}
use Rattle.optra_network.specs.Names.{AreNames, is_name, is_plain, place_of}
use Rattle.optra_network.specs.Net.{IsBuilt, Net}
use Rattle.optra_walk.specs.Words.{action_words, start_words}
use Rattle.optra_records.specs.Cuts.{cut, cut_field}
use Rattle.optra_records.specs.Numbers.{is_plain_number, plain_number_of, value_of}
use Rattle.optra_records.specs.Reading.{Field, Record}
use Rattle.optra_cert.specs.Columns.{Column, IsShortColumn, IsShortWord, a_number, a_station, a_track, a_type, a_word, has_form, in_range, record_values, told_in, values_of}
use Rattle.optra_cert.specs.Forms.{but_last, field_at, last_alone, version_of}
use Rattle.optra_cert.specs.ListLemmas.{found_in}
use Rattle.optra_cert.specs.Outcomes.{◌>>=◌, row_or_fault}
use Rattle.optra_cert.specs.RowTexts.{AreTexts, RowKind, RowTexts, kind_named, read_by, read_row, row_of_values}
use Rattle.optra_cert.specs.RecordFields.{amount_told, bid_told, leg_by_fields, leg_told, number_told, price_told}
use Rattle.optra_cert.specs.Steps.{State, TreeSoFar, body_step, bound_step, in_row, item_step, read_behind, read_records, read_rows, revenue_step, started, step, step_at, tree_step}
use Rattle.optra_cert.specs.declared.CertCode.{CertCode}
use Rattle.optra_cert.specs.declared.CertCode.TheVariants as code
use Rattle.optra_cert.specs.declared.read_parts.Place.{Place}
use Rattle.optra_cert.specs.declared.read_parts.Place.TheVariants as place
use Rattle.optra_cert.proofs.LegLemmas.{other_leg}
use Rattle.optra_cert.proofs.LongRows.{long_row}

-- ---- a field

-- what is the same of all fields of more than 64 bytes is the same of a field and of its cut
cut_same : {A : Type 0} (g : Field → A) (a : A) → ((f : Field) → 64 < length f → g f ≡ a) → (field : Field) → g (cut_field field) ≡ g field
cut_same g a long field = by (cases_lt 64 (length field))
  where
    by : (64 < length field) ⊎ (length field ≤ 64) → g (cut_field field) ≡ g field
    by (inl more) = long (cut_field field) (omega (arith, length-take-le 65 field (omega (arith, more)))) ∙ sym (long field more)
    by (inr few) = ap g (take_all 65 field (omega (arith, few)))

-- a field of another length is another
other_length : (a b : Field) → length a ≢ length b → bytes_eq a b ≡ false
other_length a b differ = false_from_ne_true (bytes_eq a b) (λ e. differ (ap length ((bytes_eq-Decides a b).0 e)))

is_word_cut : (word : Field) → IsShortWord word → (field : Field) → bytes_eq (cut_field field) word ≡ bytes_eq field word
is_word_cut word few = cut_same (λ (f : Field). bytes_eq f word) false (λ f long. other_length f word (λ e. absurd (omega (arith, e, long, few))))

word_is_cut : (word : Field) → IsShortWord word → (field : Field) → bytes_eq word (cut_field field) ≡ bytes_eq word field
word_is_cut word few = cut_same (λ (f : Field). bytes_eq word f) false (λ f long. other_length word f (λ e. absurd (omega (arith, e, long, few))))

all_other : (names : List Field) → All IsShortWord names → (field : Field) → 64 < length field → prefix_len (λ name. not (bytes_eq field name)) names ≡ length names
all_other [] short field long = refl
all_other (name ∷ names) short field long =
    let few = All-head IsShortWord name names short in
    rw (other_length field name (λ e. absurd (omega (arith, e, long, few))), all_other names (All-tail IsShortWord name names short) field long) (omega arith)

no_place : (names : List Field) → All IsShortWord names → (field : Field) → 64 < length field → place_of field names ≡ None
no_place names short field long = rw (all_other names short field long, le-ltb (length names) (length names) (omega arith)) refl

place_cut : (names : List Field) → All IsShortWord names → (field : Field) → place_of (cut_field field) names ≡ place_of field names
place_cut names short = cut_same (λ (f : Field). place_of f names) None (no_place names short)

no_number : (field : Field) → 64 < length field → plain_number_of field ≡ None
unfolding plain_number_of
no_number field long =
    cond-false (is_plain_number field) (Some (value_of field)) None
    (and_left _ _ (and_left _ _ (and_right (nat_le 1 (length field)) (nat_le (length field) 18) (lt-leb (length field) 18 (omega (arith, long))))))

number_cut : (field : Field) → plain_number_of (cut_field field) ≡ plain_number_of field
number_cut = cut_same plain_number_of None no_number

field_cut : (fields : Record) (i : ℕ) → field_at (map cut_field fields) i ≡ cut_field (field_at fields i)
field_cut [] i = refl
field_cut (field ∷ fields) zero = refl
field_cut (field ∷ fields) (suc i) = field_cut fields i

-- names are short
short_names : (names : List Field) → AreNames names → All IsShortWord names
short_names names are = All-weaker (λ name. IsTrue (is_name name)) IsShortWord short names are.each
  where
    short : (name : Field) → IsTrue (is_name name) → IsShortWord name
    short name is =
        let least = nat_le 1 (length name) in
        let most = nat_le (length name) 64 in
        let text = and_parts (least && most && is_utf8 name) (is_plain name) is in
        let lengths = and_parts (least && most) (is_utf8 name) text.0 in
        leb-true (length name) 64 (and_parts least most lengths.0).1

many_numbers : (low high : ℕ) (fields : Record) → 34 < length fields → number_told low high fields ≡ Err code.Record
many_numbers low high [] long = refl
many_numbers low high (field ∷ []) long = absurd (omega (arith, long))
many_numbers low high (field ∷ next ∷ fields) long = refl

module _ (net : Net) (built : IsBuilt net) where
  told_cut : (column : Column) → IsShortColumn column → (field : Field) → told_in net column (cut_field field) ≡ told_in net column field
  told_cut a_station short = place_cut net.stations (short_names net.stations built.names.station_names)
  told_cut a_track short = place_cut net.track_names (short_names net.track_names built.names.names_of_tracks)
  told_cut a_type short = place_cut net.types (short_names net.types built.names.type_names)
  told_cut (a_number low high) short = λ field. ap (in_range low high) (number_cut field)
  told_cut (a_word words) short = place_cut words short

  values_cut : (columns : List Column) (fields : Record) → All IsShortColumn columns → values_of net columns (map cut_field fields) ≡ values_of net columns fields
  values_cut [] [] short = refl
  values_cut [] (field ∷ fields) short = refl
  values_cut (column ∷ columns) [] short = refl
  values_cut (column ∷ columns) (field ∷ fields) short =
      rw (told_cut column (All-head IsShortColumn column columns short) field, values_cut columns fields (All-tail IsShortColumn column columns short)) refl

  form_cut : (columns : List Column) (fields : Record) → All IsShortColumn columns → has_form columns (map cut_field fields) ≡ has_form columns fields
  form_cut [] [] short = refl
  form_cut [] (field ∷ fields) short = refl
  form_cut (column ∷ columns) [] short = refl
  form_cut (a_station ∷ columns) (field ∷ fields) short = form_cut columns fields (All-tail IsShortColumn a_station columns short)
  form_cut (a_track ∷ columns) (field ∷ fields) short = form_cut columns fields (All-tail IsShortColumn a_track columns short)
  form_cut (a_type ∷ columns) (field ∷ fields) short = form_cut columns fields (All-tail IsShortColumn a_type columns short)
  form_cut (a_number low high ∷ columns) (field ∷ fields) short = form_cut columns fields (All-tail IsShortColumn (a_number low high) columns short)
  form_cut (a_word words ∷ columns) (field ∷ fields) short =
      rw (place_cut words (All-head IsShortColumn (a_word words) columns short) field, form_cut columns fields (All-tail IsShortColumn (a_word words) columns short)) refl

  record_cut : (columns : List Column) (fields : Record) → All IsShortColumn columns → record_values net columns (map cut_field fields) ≡ record_values net columns fields
  record_cut columns fields short = rw (form_cut columns fields short, values_cut columns fields short) refl

  -- ---- what the fields behind a word tell

  number_told_cut : (low high : ℕ) (fields : Record) → number_told low high (map cut_field fields) ≡ number_told low high fields
  number_told_cut low high [] = refl
  number_told_cut low high (field ∷ []) = rw (number_cut field) refl
  number_told_cut low high (field ∷ next ∷ fields) = refl

  amount_cut : (fields : Record) → amount_told (map cut_field fields) ≡ amount_told fields
  unfolding amount_told
  amount_cut fields = rw (number_told_cut 0 (10 ^ 18 - 1) fields) refl

  bid_cut : (bids : ℕ) (fields : Record) → bid_told bids (map cut_field fields) ≡ bid_told bids fields
  unfolding bid_told
  bid_cut bids fields = rw (number_told_cut 1 bids fields) refl

  starts_short : All IsShortWord start_words
  starts_short = All-from_recursion IsShortWord start_words (lit≤ tt, (lit≤ tt, tt))

  actions_short : All IsShortWord action_words
  actions_short = All-from_recursion IsShortWord action_words (lit≤ tt, (lit≤ tt, (lit≤ tt, (lit≤ tt, tt))))

  leg_cut : (bids : ℕ) (fields : Record) → leg_told net bids (map cut_field fields) ≡ leg_told net bids fields
  unfolding leg_told leg_by_fields
  leg_cut bids [] = refl
  leg_cut bids (b ∷ []) = refl
  leg_cut bids (b ∷ t ∷ []) = refl
  leg_cut bids (b ∷ t ∷ d ∷ []) = refl
  leg_cut bids (b ∷ t ∷ d ∷ s ∷ []) = refl
  leg_cut bids (b ∷ t ∷ d ∷ s ∷ a ∷ []) = refl
  leg_cut bids (b ∷ t ∷ d ∷ s ∷ a ∷ w ∷ []) =
      rw (
        place_cut start_words starts_short s,
        place_cut action_words actions_short a,
        number_cut b,
        place_cut net.track_names (short_names net.track_names built.names.names_of_tracks) t,
        number_cut d,
        number_cut w,
      )
      refl
  leg_cut bids (b ∷ t ∷ d ∷ s ∷ a ∷ w ∷ x ∷ rest) = refl

  -- ---- rows, prices and steps

  module _ {R : Type 0} (texts : RowTexts R) (are : AreTexts texts) (version : ℕ) where
    named_cut : (kinds : List RowKind) → All (λ kind. IsShortWord kind.word × All IsShortColumn kind.columns) kinds → (word : Field) → kind_named kinds version (cut_field word) ≡ kind_named kinds version word
    named_cut [] short word = refl
    named_cut (kind ∷ kinds) short word =
        let P : RowKind → Type 0 = λ kind. IsShortWord kind.word × All IsShortColumn kind.columns in
        rw (word_is_cut kind.word (All-head P kind kinds short).0 word, named_cut kinds (All-tail P kind kinds short) word) refl

    read_by_cut : (word : Field) (fields : Record) (o : Option RowKind) → kind_named texts.kinds version word ≡ o → read_by texts net o (map cut_field fields) ≡ read_by texts net o fields
    read_by_cut word fields None e = refl
    read_by_cut word fields (Some kind) e =
        let h = found_in (λ (kind : RowKind). bytes_eq kind.word word && nat_le kind.version version) texts.kinds kind e in
        let short = All-contains (λ (kind : RowKind). IsShortWord kind.word × All IsShortColumn kind.columns) texts.kinds kind are.short h.0 in
        ap (row_of_values texts kind.word) (record_cut kind.columns fields short.1)

    row_cut : (fields : Record) → read_row texts net version (map cut_field fields) ≡ read_row texts net version fields
    unfolding read_row
    row_cut [] = refl
    row_cut (word ∷ fields) =
        ap (λ (o : Option RowKind). read_by texts net o (map cut_field fields)) (named_cut texts.kinds are.short word)
        ∙ read_by_cut word fields (kind_named texts.kinds version word) refl

    but_last_cut : (fields : Record) → but_last (map cut_field fields) ≡ map cut_field (but_last fields)
    but_last_cut fields = rw (length-map fields cut_field) (take-map cut_field (length fields - 1) fields)

    last_cut : (fields : Record) → last_alone (map cut_field fields) ≡ map cut_field (last_alone fields)
    last_cut fields = rw (length-map fields cut_field) (drop-map cut_field (length fields - 1) fields)

    price_cut : (fields : Record) → price_told texts net version (map cut_field fields) ≡ price_told texts net version fields
    unfolding price_told
    price_cut fields =
        rw (but_last_cut fields, last_cut fields, row_cut (but_last fields), amount_cut (last_alone fields)) refl

    module _ (cmp : R → R → Ordering) (bids : ℕ) where
      item_cut : (tree : TreeSoFar R) (word : Field) (fields : Record) → item_step cmp texts net bids version tree (cut_field word) (map cut_field fields) ≡ item_step cmp texts net bids version tree word fields
      unfolding item_step
      item_cut tree word fields =
          rw (
            is_word_cut (codes "split") (lit≤ tt) word,
            is_word_cut (codes "nowalk") (lit≤ tt) word,
            is_word_cut (codes "forced") (lit≤ tt) word,
            is_word_cut (codes "priced") (lit≤ tt) word,
            leg_cut bids fields,
            bid_cut bids fields,
            row_cut fields,
            number_told_cut 0 (10 ^ 18 - 1) fields,
          )
          refl

      tree_cut : (tree : TreeSoFar R) (word : Field) (fields : Record) → tree_step cmp texts net bids version tree (cut_field word) (map cut_field fields) ≡ tree_step cmp texts net bids version tree word fields
      unfolding tree_step
      tree_cut tree word fields = rw (item_cut tree word fields, is_word_cut (codes "price") (lit≤ tt) word, price_cut fields) refl

      body_cut : (legs : Bool) (s : State R) (word : Field) (fields : Record)
          → body_step cmp texts net bids version legs s (cut_field word) (map cut_field fields) ≡ body_step cmp texts net bids version legs s word fields
      unfolding body_step
      body_cut legs s word fields = rw (is_word_cut (codes "leg") (lit≤ tt) word, leg_cut bids fields, tree_cut s.tree word fields) refl

      at_cut : (p : Place) (s : State R) (word : Field) (fields : Record)
          → step_at cmp texts net bids version p s (cut_field word) (map cut_field fields) ≡ step_at cmp texts net bids version p s word fields
      unfolding revenue_step bound_step
      at_cut place.Revenue s word fields = rw (is_word_cut (codes "revenue") (lit≤ tt) word, amount_cut fields) refl
      at_cut place.Bound s word fields = rw (is_word_cut (codes "bound") (lit≤ tt) word, amount_cut fields) refl
      at_cut place.Legs s word fields = body_cut true s word fields
      at_cut place.Tree s word fields = body_cut false s word fields

      fields_step : (s : State R) (fields : Record) → step cmp texts net bids version s (map cut_field fields) ≡ step cmp texts net bids version s fields
      unfolding step
      fields_step s fields =
          ap (λ (word : Field). step_at cmp texts net bids version s.place s word (drop 1 (map cut_field fields))) (field_cut fields 0)
          ∙ ap (λ (rest : Record). step_at cmp texts net bids version s.place s (cut_field (field_at fields 0)) rest) (drop-map cut_field 1 fields)
          ∙ at_cut s.place s (field_at fields 0) (drop 1 fields)

      -- ---- records of too many fields

      module _ (a : Record) (long : 34 < length a) where
        amount_long : amount_told a ≡ Err code.Record
        unfolding amount_told
        amount_long = ap (λ (r : Result ℕ CertCode). r >>= λ n. Ok (pos n)) (many_numbers 0 (10 ^ 18 - 1) a long)

        bid_long : bid_told bids a ≡ Err code.Record
        unfolding bid_told
        bid_long = ap (λ (r : Result ℕ CertCode). r >>= λ n. Ok (n - 1)) (many_numbers 1 bids a long)

        leg_long : leg_told net bids a ≡ Err code.Record
        leg_long = other_leg net bids a (λ e. absurd (omega (arith, e, long)))

        row_long : row_or_fault (read_row texts net version a) ≡ Err code.Record
        row_long = ap row_or_fault (long_row texts are net version a (omega (arith, long)))

        price_long : price_told texts net version a ≡ Err code.Record
        unfolding price_told
        price_long =
            ap (λ (r : Result R CertCode). r >>= λ row. amount_told (last_alone a) >>= λ amount. Ok (row, amount))
            (ap row_or_fault (long_row texts are net version (but_last a) (omega (arith, long, length-take-le (length a - 1) a (omega arith)))))

      module _ (a b : Record) (p : 34 < length a) (q : 34 < length b) where
        item_long : (tree : TreeSoFar R) (word : Field) → item_step cmp texts net bids version tree word a ≡ item_step cmp texts net bids version tree word b
        unfolding item_step
        item_long tree word =
            rw (
              leg_long a p,
              leg_long b q,
              bid_long a p,
              bid_long b q,
              row_long a p,
              row_long b q,
              many_numbers 0 (10 ^ 18 - 1) a p,
              many_numbers 0 (10 ^ 18 - 1) b q,
            )
            refl

        tree_long : (tree : TreeSoFar R) (word : Field) → tree_step cmp texts net bids version tree word a ≡ tree_step cmp texts net bids version tree word b
        unfolding tree_step
        tree_long tree word = rw (item_long tree word, price_long a p, price_long b q) refl

        body_long : (legs : Bool) (s : State R) (word : Field) → body_step cmp texts net bids version legs s word a ≡ body_step cmp texts net bids version legs s word b
        unfolding body_step
        body_long legs s word = rw (leg_long a p, leg_long b q, tree_long s.tree word) refl

        at_long : (pl : Place) (s : State R) (word : Field) → step_at cmp texts net bids version pl s word a ≡ step_at cmp texts net bids version pl s word b
        unfolding revenue_step bound_step
        at_long place.Revenue s word = rw (amount_long a p, amount_long b q) refl
        at_long place.Bound s word = rw (amount_long a p, amount_long b q) refl
        at_long place.Legs s word = body_long true s word
        at_long place.Tree s word = body_long false s word

      few_step : (s : State R) (fields : Record) → step cmp texts net bids version s (take 40 fields) ≡ step cmp texts net bids version s fields
      unfolding step
      few_step s fields = by (cases_lt 40 (length fields))
        where
          head : (fields : Record) → field_at (take 40 fields) 0 ≡ field_at fields 0
          head [] = refl
          head (field ∷ fields) = refl

          by : (40 < length fields) ⊎ (length fields ≤ 40) → step_at cmp texts net bids version s.place s (field_at (take 40 fields) 0) (drop 1 (take 40 fields)) ≡ step_at cmp texts net bids version s.place s (field_at fields 0) (drop 1 fields)
          by (inr few) = ap (λ (f : Record). step_at cmp texts net bids version s.place s (field_at f 0) (drop 1 f)) (take_all 40 fields few)
          by (inl many) =
              let short : length (take 40 fields) ≡ 40 = length-take-le 40 fields (omega (arith, many)) in
              ap (λ (word : Field). step_at cmp texts net bids version s.place s word (drop 1 (take 40 fields))) (head fields)
              ∙ at_long (drop 1 (take 40 fields)) (drop 1 fields) (omega (arith, length-drop 1 (take 40 fields), short)) (omega (arith, length-drop 1 fields, many)) s.place s (field_at fields 0)

      step_cut : (s : State R) (fields : Record) → step cmp texts net bids version s (cut fields) ≡ step cmp texts net bids version s fields
      step_cut s fields = fields_step s (take 40 fields) ∙ few_step s fields

      rows_cut : (rows : List Record) (s : State R) (row : ℕ) → read_rows cmp texts net bids version s row (map cut rows) ≡ read_rows cmp texts net bids version s row rows
      unfolding read_rows
      rows_cut [] s row = refl
      rows_cut (fields ∷ rows) s row = rw (step_cut s fields) (by (step cmp texts net bids version s fields) (rows_cut rows))
        where
          by : (r : Result (State R) CertCode) → ((s : State R) (row : ℕ) → read_rows cmp texts net bids version s row (map cut rows) ≡ read_rows cmp texts net bids version s row rows)
              → (in_row row r >>= λ next. read_rows cmp texts net bids version next (row + 1) (map cut rows)) ≡ (in_row row r >>= λ next. read_rows cmp texts net bids version next (row + 1) rows)
          by (Ok next) more = more next (row + 1)
          by (Err c) more = refl

version_cut : (most : ℕ) (rows : List Record) → version_of most (map cut rows) ≡ version_of most rows
version_cut most [] = refl
version_cut most ([] ∷ rows) = refl
version_cut most ((word ∷ []) ∷ rows) = refl
version_cut most ((word ∷ version ∷ []) ∷ rows) = rw (is_word_cut (codes "optra-certificate") (lit≤ tt) word, number_cut version) refl
version_cut most ((word ∷ version ∷ next ∷ fields) ∷ rows) = refl

-- Cut records are read as the whole ones are.
pub records_cut : {R : Type 0} (cmp : R → R → Ordering) (texts : RowTexts R) → AreTexts texts → (net : Net) → IsBuilt net → (bids : ℕ) (rows : List Record)
    → read_records cmp texts net bids (map cut rows) ≡ read_records cmp texts net bids rows
unfolding read_records
records_cut {R} cmp texts are net built bids rows =
    ap (λ (o : Option ℕ). read_behind cmp texts net bids o (drop 1 (map cut rows))) (version_cut texts.version rows)
    ∙ ap (read_behind cmp texts net bids (version_of texts.version rows)) (drop-map cut 1 rows)
    ∙ by (version_of texts.version rows)
  where
    by : (o : Option ℕ) → read_behind cmp texts net bids o (map cut (drop 1 rows)) ≡ read_behind cmp texts net bids o (drop 1 rows)
    by None = refl
    by (Some version) = rows_cut net built texts are version cmp bids (drop 1 rows) (started bids) 2
