-- The text of a writable certificate is canonical, and is read as it.
use Rattle.std.proofs.Common.{◌≡◌, ◌<◌, ◌≤◌, ◌^◌, ◌+◌, ◌++◌, ◌&&◌, ℕ, Bool, true, false, List, [], ◌∷◌, length, drop, get_or, map, flat_map, Option, Some, None, refl, sym, ap, ◌∙◌, subst, arith, codes, cond, bytes_eq, ℤ, pos, negsuc, IsTrue, nat_le}
use Rattle.std.specs.Prelude.{All, IfSome, Result, Ok, Err, slice_get, unwrap_or}
use Rattle.std.specs.List.{AllZip, list_all}
use Rattle.std.specs.Fmt.{decimal, signed_decimal}
use Rattle.std.specs.Str.{is_utf8}
use Rattle.std.specs.declared.cmp.Ordering.{Ordering}
use Rattle.std.proofs.lemmas.Bool.{and_parts, le-leb}
use Rattle.std.proofs.lemmas.Fmt.{IsAscii-decimal}
use Rattle.std.proofs.lemmas.Int.{ints}
use Rattle.std.proofs.lemmas.List.Concat.{flat_map-cons}
use Rattle.std.proofs.lemmas.List.Elements.{All-append, All-cons, All-contains, All-get_or, All-head, All-nil, All-tail}
use Rattle.std.proofs.lemmas.List.Folds.{list_all-append}
use Rattle.std.proofs.lemmas.Option.{unwrap_or-slice_get}
use Rattle.std.proofs.lemmas.Slice.Eq.{bytes_eq-Decides}
use Rattle.csv.specs.Reading.{default_config, records}
use Rattle.optra_network.specs.Net.{Net, IsBuilt}
use Rattle.optra_network.specs.Names.{AreNames, is_name, is_plain}
use Rattle.optra_walk.specs.declared.Action.{Action}
use Rattle.optra_walk.specs.declared.Action.TheVariants.{Pass, Halt, Wait, Finish}
use Rattle.optra_walk.specs.declared.Leg.{Leg}
use Rattle.optra_walk.specs.Legs.{dwell_of}
use Rattle.optra_walk.specs.Words.{action_word, start_word}
use Rattle.optra_node.specs.declared.Item.{Item}
use Rattle.optra_node.specs.declared.Item.TheVariants.{Split, NoWalk, Forced, Priced}
use Rattle.optra_node.specs.Certificates.{IsFormedItem, IsFormedWalk}
use Rattle.optra_node.specs.Nodes.{IsFormedLeg}
use Rattle.optra_records.specs.Canonical.{is_canonical, is_text_of}
use Rattle.optra_records.specs.Reading.{Field, Record, has_mark}
use Rattle.optra_records.specs.Texts.{AreShown, is_shown, record_text, records_text}
use Rattle.optra_records.proofs.CanonicalLemmas.{no_mark}
use Rattle.optra_records.proofs.PlainNumbers.{plain_number_back}
use Rattle.optra_records.proofs.ReadBack.{records_back}
use Rattle.optra_cert.specs.Columns.{Column, a_station, a_track, a_type, a_number, a_word, FitsIn, IsSoundColumn, IsTextColumn, shown, shown_in}
use Rattle.optra_cert.specs.RowTexts.{RowKind, RowTexts, AreApart, AreTexts, IsRowOf, row_fields}
use Rattle.optra_cert.specs.Certs.{Cert, IsAmount, IsListed, IsWritable, IsWritableItem}
use Rattle.optra_cert.specs.CertTexts.{cert_records, cert_text, head_records, item_records, leg_record, leg_records, price_record}
use Rattle.optra_cert.specs.CertLaws.{IsTextOf, TextHasNoFault, TextTellsCert}
use Rattle.optra_cert.specs.Forms.{version_of}
use Rattle.optra_cert.specs.Steps.{fault, read_behind, read_records, read_text}
use Rattle.optra_cert.specs.TextLemmas.{ascii_text, word_text}
use Rattle.optra_cert.specs.declared.CertCode.TheVariants as code
use Rattle.optra_cert.specs.declared.CertFault.{CertFault}
use Rattle.optra_cert.proofs.BackSteps.{cert_read}
use Rattle.optra_cert.proofs.FirstFaults.{read_clean}

-- ---- fields that are UTF-8

number_text : (n : ℕ) → n < 10 ^ 18 → is_utf8 (decimal n) ≡ true
number_text n few = ascii_text (decimal n) (IsAscii-decimal n (omega (arith, few)))

amount_text : (amount : ℤ) → IsAmount amount → is_utf8 (signed_decimal amount) ≡ true
amount_text (pos n) is = let few = is.1 in number_text n (omega (arith, ints, few))
amount_text (negsuc n) is = let least = is.0 in absurd (omega (arith, ints, least))

name_utf8 : (name : List ℕ) → IsTrue (is_name name) → is_utf8 name ≡ true
name_utf8 name is =
    (and_parts _ _ (and_parts (nat_le 1 (length name) && nat_le (length name) 64 && is_utf8 name) (is_plain name) is).0).1

-- the name at a position
name_text : (names : List (List ℕ)) (n : ℕ) → AreNames names → n < length names → is_utf8 (unwrap_or (slice_get names n) []) ≡ true
name_text names n are within =
    rw (unwrap_or-slice_get names n []) (name_utf8 (get_or names n []) (All-get_or (λ name. IsTrue (is_name name)) names n [] within are.each))

start_text : (b : Bool) → is_utf8 (start_word b) ≡ true
start_text true = word_text (codes "halt") refl
start_text false = word_text (codes "pass") refl

action_text : (a : Action) → is_utf8 (action_word a) ≡ true
action_text Pass = word_text (codes "pass") refl
action_text (Halt dwell) = word_text (codes "halt") refl
action_text (Wait dwell) = word_text (codes "wait") refl
action_text Finish = word_text (codes "finish") refl

-- a record of fields that are UTF-8 and that can be printed
abbrev IsText : Record → Type 0
IsText fields = (list_all is_utf8 fields && is_shown fields) ≡ true

both : (a b : Bool) → a ≡ true → b ≡ true → (a && b) ≡ true
both a b e f = rw (e, f) refl

-- two fields
pair_text : (word field : Field) → is_utf8 word ≡ true → is_utf8 field ≡ true → IsText (word ∷ field ∷ [])
pair_text word field a b = rw (a, b) refl

-- a word, and fields behind it
more_text : (word : Field) (fields : Record) → 0 < length fields → is_utf8 word ≡ true → list_all is_utf8 fields ≡ true → IsText (word ∷ fields)
more_text word [] some a b = absurd (omega (arith, some))
more_text word (field ∷ fields) some a b = rw (a, b) refl

module _ (net : Net) (built : IsBuilt net) where
  shown_text : (column : Column) (n : ℕ) → IsSoundColumn column → IsTextColumn column → FitsIn net column n → is_utf8 (shown_in net column n) ≡ true
  shown_text a_station n sound text fits = name_text net.stations n built.names.station_names fits
  shown_text a_track n sound text fits = let same = built.named in name_text net.track_names n built.names.names_of_tracks (omega (arith, same, fits))
  shown_text a_type n sound text fits = name_text net.types n built.names.type_names fits
  shown_text (a_number low high) n sound text fits = let most = fits.1 in number_text n (omega (arith, sound, most))
  shown_text (a_word words) n sound text fits = rw (unwrap_or-slice_get words n []) (All-get_or (λ (word : Field). is_utf8 word ≡ true) words n [] fits text)

  all_text : (columns : List Column) (values : List ℕ) → All IsSoundColumn columns → All IsTextColumn columns → AllZip (FitsIn net) columns values → list_all is_utf8 (shown net columns values) ≡ true
  all_text [] [] sound text fits = refl
  all_text [] (n ∷ values) sound text fits = absurd fits
  all_text (column ∷ columns) [] sound text fits = absurd fits
  all_text (column ∷ columns) (n ∷ values) sound text fits =
      both (is_utf8 (shown_in net column n)) (list_all is_utf8 (shown net columns values))
      (shown_text column n (All-head IsSoundColumn column columns sound) (All-head IsTextColumn column columns text) fits.0)
      (all_text columns values (All-tail IsSoundColumn column columns sound) (All-tail IsTextColumn column columns text) fits.1)

  leg_text : (word : Field) (bid : ℕ) (leg : Leg) → is_utf8 word ≡ true → bid + 1 < 10 ^ 18 → IsFormedLeg net leg → IsText (leg_record net word bid leg)
  leg_text word bid leg a few formed =
      let same = built.named in
      let track = formed.track in
      let depart = formed.depart in
      let dwell = formed.dwell in
      rw (
        a,
        number_text (bid + 1) few,
        name_text net.track_names leg.track.0 built.names.names_of_tracks (omega (arith, same, track)),
        number_text leg.depart (omega (arith, depart)),
        start_text leg.from_halt,
        action_text leg.action,
        number_text (dwell_of leg.action) (omega (arith, dwell)),
      )
      refl

-- ---- the records of a certificate

module _ {R : Type 0} (cmp : R → R → Ordering) (texts : RowTexts R) (are : AreTexts texts) (net : Net) (built : IsBuilt net) (bids : ℕ) (few : bids < 10 ^ 18) (version : ℕ) where
  row_text : (row : R) → IsRowOf texts net version row → list_all is_utf8 (row_fields texts net row) ≡ true
  row_text row is =
      let kind : RowKind = (texts.told row).0 in
      let words = All-contains (λ (kind : RowKind). (is_utf8 kind.word ≡ true) × All IsTextColumn kind.columns) texts.kinds kind are.words (are.kinds row) in
      let sound = All-contains (λ (kind : RowKind). All IsSoundColumn kind.columns) texts.kinds kind are.columns (are.kinds row) in
      both (is_utf8 kind.word) (list_all is_utf8 (shown net kind.columns (texts.told row).1)) words.0 (all_text net built kind.columns (texts.told row).1 sound words.1 is.1)

  forced_text : (row : R) → IsRowOf texts net version row → IsText (codes "forced" ∷ row_fields texts net row)
  forced_text row is = more_text (codes "forced") (row_fields texts net row) (omega arith) (word_text (codes "forced") refl) (row_text row is)

  price_text : (entry : R × ℤ) → IsListed texts net version entry → IsText (price_record texts net entry)
  price_text entry is =
      let row : Record = row_fields texts net entry.0 in
      let amount : Record = signed_decimal entry.1 ∷ [] in
      let all : list_all is_utf8 (row ++ amount) ≡ true = list_all-append is_utf8 row amount ∙ both (list_all is_utf8 row) (list_all is_utf8 amount) (row_text entry.0 is.0) (both (is_utf8 (signed_decimal entry.1)) true (amount_text entry.1 is.1) refl) in
      more_text (codes "price") (row ++ amount) (omega arith) (word_text (codes "price") refl) all

  all_of : {A : Type 0} (f : A → Record) (P : A → Type 0) → ((a : A) → P a → IsText (f a)) → (xs : List A) → All P xs → All IsText (map f xs)
  all_of f P each [] h = All-nil IsText
  all_of f P each (x ∷ xs) h = All-cons IsText (f x) (map f xs) (each x (All-head P x xs h)) (all_of f P each xs (All-tail P x xs h))

  legs_text : (start : ℕ) (choice : List (Option (List Leg))) → start + length choice ≤ bids → All (λ walk. IfSome walk (IsFormedWalk net)) choice → All IsText (leg_records net start choice)
  legs_text start [] within formed = All-nil IsText
  legs_text start (None ∷ choice) within formed = legs_text (start + 1) choice (omega (arith, within)) (All-tail (λ walk. IfSome walk (IsFormedWalk net)) None choice formed)
  legs_text start (Some legs ∷ choice) within formed =
      let own = All-head (λ walk. IfSome walk (IsFormedWalk net)) (Some legs) choice formed in
      let small : start + 1 < 10 ^ 18 = omega (arith, within, few) in
      All-append IsText (map (leg_record net (codes "leg") start) legs) (leg_records net (start + 1) choice)
      (all_of (leg_record net (codes "leg") start) (IsFormedLeg net) (λ leg is. leg_text net built (codes "leg") start leg (word_text (codes "leg") refl) small is) legs own.formed)
      (legs_text (start + 1) choice (omega (arith, within)) (All-tail (λ walk. IfSome walk (IsFormedWalk net)) (Some legs) choice formed))

  one : (fields : Record) → IsText fields → All IsText (fields ∷ [])
  one fields is = All-cons IsText fields [] is (All-nil IsText)

  item_text : (item : Item R) → IsFormedItem cmp net bids item → IsWritableItem texts net version item → All IsText (item_records texts net item)
  item_text (Split bid leg) formed writable =
      let within = formed.0 in
      one (leg_record net (codes "split") bid leg) (leg_text net built (codes "split") bid leg (word_text (codes "split") refl) (omega (arith, within, few)) formed.1)
  item_text (NoWalk bid) formed writable =
      one (codes "nowalk" ∷ decimal (bid + 1) ∷ []) (pair_text (codes "nowalk") (decimal (bid + 1)) (word_text (codes "nowalk") refl) (number_text (bid + 1) (omega (arith, formed, few))))
  item_text (Forced row) formed writable = one (codes "forced" ∷ row_fields texts net row) (forced_text row writable)
  item_text (Priced prices) formed writable =
      All-cons IsText (codes "priced" ∷ decimal (length prices) ∷ []) (map (price_record texts net) prices)
      (pair_text (codes "priced") (decimal (length prices)) (word_text (codes "priced") refl) (number_text (length prices) writable.0))
      (all_of (price_record texts net) (IsListed texts net version) price_text prices writable.1)

  items_text : (items : List (Item R)) → All (IsFormedItem cmp net bids) items → All (IsWritableItem texts net version) items → All IsText (flat_map (item_records texts net) items)
  items_text [] formed writable = All-nil IsText
  items_text (item ∷ items) formed writable =
      subst (λ (rows : List Record). All IsText rows) (sym (flat_map-cons (item_records texts net) item items))
      (All-append IsText (item_records texts net item) (flat_map (item_records texts net) items)
      (item_text item (All-head (IsFormedItem cmp net bids) item items formed) (All-head (IsWritableItem texts net version) item items writable))
      (items_text items (All-tail (IsFormedItem cmp net bids) item items formed) (All-tail (IsWritableItem texts net version) item items writable)))

  head_text : (revenue bound : ℤ) → version < 10 ^ 18 → IsAmount revenue → IsAmount bound → All IsText (head_records version revenue bound)
  head_text revenue bound small r b =
      All-cons IsText (codes "optra-certificate" ∷ decimal version ∷ []) ((codes "revenue" ∷ signed_decimal revenue ∷ []) ∷ (codes "bound" ∷ signed_decimal bound ∷ []) ∷ [])
      (pair_text (codes "optra-certificate") (decimal version) (word_text (codes "optra-certificate") refl) (number_text version small))
      (All-cons IsText (codes "revenue" ∷ signed_decimal revenue ∷ []) ((codes "bound" ∷ signed_decimal bound ∷ []) ∷ [])
      (pair_text (codes "revenue") (signed_decimal revenue) (word_text (codes "revenue") refl) (amount_text revenue r))
      (one (codes "bound" ∷ signed_decimal bound ∷ []) (pair_text (codes "bound") (signed_decimal bound) (word_text (codes "bound") refl) (amount_text bound b))))

  -- each record of a certificate that is writable can be printed, and its fields are UTF-8
  cert_texts : (cert : Cert R) → version < 10 ^ 18 → IsWritable cmp texts net bids version cert → All IsText (cert_records texts net version cert)
  cert_texts cert small writable =
      let entries = writable.formed.entries in
      All-append IsText (head_records version cert.revenue cert.bound ++ leg_records net 0 cert.choice) (flat_map (item_records texts net) cert.tree)
      (All-append IsText (head_records version cert.revenue cert.bound) (leg_records net 0 cert.choice)
      (head_text cert.revenue cert.bound small writable.revenue writable.bound)
      (legs_text 0 cert.choice (omega (arith, entries)) writable.formed.walks))
      (items_text cert.tree writable.formed.items writable.items)

-- ---- records that are texts are those of their text

shown_of : (rows : List Record) → All IsText rows → AreShown rows
shown_of [] h = tt
shown_of (fields ∷ rows) h = ((and_parts (list_all is_utf8 fields) (is_shown fields) (All-head IsText fields rows h)).1, shown_of rows (All-tail IsText fields rows h))

all_pass : (rows : List Record) → All IsText rows → list_all (λ (row : Record). list_all is_utf8 row && is_shown row) rows ≡ true
all_pass [] h = refl
all_pass (fields ∷ rows) h =
    both (list_all is_utf8 fields && is_shown fields) (list_all (λ (row : Record). list_all is_utf8 row && is_shown row) rows) (All-head IsText fields rows h) (all_pass rows (All-tail IsText fields rows h))

-- the text of a certificate begins with a letter
unmarked : (number : Field) (rows : List Record) → has_mark (records_text ((codes "optra-certificate" ∷ number ∷ []) ∷ rows)) ≡ false
unfolding record_text
unmarked number rows =
    let first : has_mark (record_text (codes "optra-certificate" ∷ number ∷ []) ++ records_text rows) ≡ false = refl in
    ap has_mark (flat_map-cons record_text (codes "optra-certificate" ∷ number ∷ []) rows) ∙ first

canonical_of : (number : Field) (rows : List Record) → All IsText ((codes "optra-certificate" ∷ number ∷ []) ∷ rows) → is_canonical (records_text ((codes "optra-certificate" ∷ number ∷ []) ∷ rows)) ≡ true
canonical_of number rows h =
    let all : List Record = (codes "optra-certificate" ∷ number ∷ []) ∷ rows in
    let text : List ℕ = records_text all in
    no_mark text (unmarked number rows)
    ∙ ap (λ (rs : List Record). is_text_of rs text) (records_back all (shown_of all h))
    ∙ both (list_all (λ (row : Record). list_all is_utf8 row && is_shown row) all) (bytes_eq text text) (all_pass all h) ((bytes_eq-Decides text text).1 refl)

-- ---- the laws

module _ {R : Type 0} (cmp : R → R → Ordering) (texts : RowTexts R) (apart : AreApart texts.kinds) (are : AreTexts texts) (net : Net) (built : IsBuilt net) (bids : ℕ) (few : bids < 10 ^ 18) (known : texts.version < 10 ^ 18) where
  -- the version of the first record
  stated : (version : ℕ) (rows : List Record) → 1 ≤ version → version ≤ texts.version → version_of texts.version ((codes "optra-certificate" ∷ decimal version ∷ []) ∷ rows) ≡ Some version
  stated version rows least most = rw (plain_number_back version (omega (arith, most, known)), le-leb 1 version least, le-leb version texts.version most) refl

  -- the records of a certificate that is writable are read as it
  records_read : (version : ℕ) (cert : Cert R) → 1 ≤ version → version ≤ texts.version → IsWritable cmp texts net bids version cert → read_records cmp texts net bids (cert_records texts net version cert) ≡ Ok cert
  unfolding read_records
  records_read version cert least most writable =
      ap (λ (o : Option ℕ). read_behind cmp texts net bids o (drop 1 (cert_records texts net version cert))) (stated version (drop 1 (cert_records texts net version cert)) least most)
      ∙ cert_read cmp texts apart are net built bids few version cert writable 2

  -- The text of a certificate is read as it.
  pub text_read : (bytes : List ℕ) (cert : Cert R) → IsTextOf cmp texts net bids bytes cert → read_text cmp texts net bids bytes ≡ Ok cert
  unfolding read_text cert_text
  text_read bytes cert is =
      let most = is.most in
      let rows : List Record = cert_records texts net is.version cert in
      let all : All IsText rows = cert_texts cmp texts are net built bids few is.version cert (omega (arith, most, known)) is.writable in
      let canonical : is_canonical (records_text rows) ≡ true = canonical_of (decimal is.version) (drop 1 rows) all in
      ap (read_text cmp texts net bids) is.text
      ∙ ap (λ (b : Bool). cond b (read_records cmp texts net bids (records default_config (records_text rows))) (Err (fault code.Csv 0))) canonical
      ∙ ap (read_records cmp texts net bids) (records_back rows (shown_of rows all))
      ∙ records_read is.version cert is.least is.most is.writable

  -- Two certificates with one text are equal.
  pub one_cert : TextTellsCert cmp texts net bids
  one_cert bytes cert other a b = let same : ◌≡◌ {A = Result (Cert R) CertFault} (Ok cert) (Ok other) = sym (text_read bytes cert a) ∙ text_read bytes other b in cc same

  -- The text of a certificate has no fault.
  pub no_fault : TextHasNoFault cmp texts net bids
  no_fault bytes cert f is fault_is = read_clean cmp texts apart are net built bids few known bytes cert f (text_read bytes cert is) fault_is
