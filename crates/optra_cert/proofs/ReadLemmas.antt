-- A certificate that is read is writable, and the bytes are its text.
use Rattle.std.proofs.Common.{◌≡◌, ◌<◌, ◌^◌, ◌+◌, ◌++◌, ◌==◌, ◌&&◌, ℕ, Bool, true, false, not, List, [], ◌∷◌, drop, Option, Some, None, refl, sym, ap, ◌∙◌, subst, arith, codes, append_assoc, cond, bytes_eq}
use Rattle.std.specs.Prelude.{Result, Ok, Err}
use Rattle.std.specs.List.{list_all}
use Rattle.std.specs.Str.{is_utf8}
use Rattle.std.specs.Fmt.{decimal}
use Rattle.std.specs.declared.cmp.Ordering.{Ordering}
use Rattle.std.specs.declared.cmp.Ordering.TheVariants.{Less}
use Rattle.std.proofs.lemmas.Bool.{eqb-true, and_parts, false≢true}
use Rattle.std.proofs.lemmas.List.{append-nil}
use Rattle.std.proofs.lemmas.Slice.Eq.{bytes_eq-Decides}
use Rattle.csv.specs.Reading.{default_config, records}
use Rattle.optra_network.specs.Net.{Net, IsBuilt, IsFromTo}
use Rattle.optra_node.proofs.PlaceLemmas.{tree_by_count}
use Rattle.optra_records.specs.Canonical.{is_canonical}
use Rattle.optra_records.specs.Numbers.{plain_number_of}
use Rattle.optra_records.specs.Reading.{Field, Record, has_mark}
use Rattle.optra_records.specs.Texts.{is_shown, records_text}
use Rattle.optra_records.proofs.PlainNumbers.{plain_number_text}
use Rattle.optra_cert.specs.Columns.{in_range}
use Rattle.optra_cert.specs.RowTexts.{RowTexts, AreApart, AreTexts}
use Rattle.optra_cert.specs.Certs.{Cert, IsWritable}
use Rattle.optra_cert.specs.CertTexts.{cert_records, cert_text, head_records, leg_records}
use Rattle.optra_cert.specs.CertLaws.{IsTextOf}
use Rattle.optra_cert.specs.Forms.{version_of}
use Rattle.optra_cert.specs.Steps.{State, cert_of, end_step, fault, in_row, is_whole, no_tree, read_behind, read_records, read_rows, read_text, started, step}
use Rattle.optra_cert.specs.declared.CertCode.{CertCode}
use Rattle.optra_cert.specs.declared.CertCode.TheVariants as code
use Rattle.optra_cert.specs.declared.read_parts.Place.{Place}
use Rattle.optra_cert.specs.declared.read_parts.Place.TheVariants as place
use Rattle.optra_cert.proofs.ColumnLemmas.{in_range_some}
use Rattle.optra_cert.proofs.StateSteps.{IsSoFar, same_word, step_next}
use Rattle.optra_cert.proofs.TellLemmas.{bind_ok}
use Rattle.optra_cert.proofs.TreeSteps.{none_open, pending}

pub in_row_ok : {A : Type 0} (row : ℕ) (r : Result A CertCode) (a : A) → in_row row r ≡ Ok a → r ≡ Ok a
in_row_ok row (Ok b) a e = let same : b ≡ a = cc e in ap Ok same
in_row_ok row (Err c) a e = absurd (cc e)

-- the version that the first record states
abbrev pub States : ℕ → List Record → ℕ → Type 0
States most rows version = (rows ≡ (codes "optra-certificate" ∷ decimal version ∷ []) ∷ drop 1 rows) × IsFromTo 1 most version

states_by : (most : ℕ) (word number : Field) (rows : List Record) (version : ℕ) → most < 10 ^ 18
    → (b : Bool) → bytes_eq word (codes "optra-certificate") ≡ b → cond b (in_range 1 most (plain_number_of number)) None ≡ Some version → States most ((word ∷ number ∷ []) ∷ rows) version
states_by most word number rows version few false e f = absurd (cc f)
states_by most word number rows version few true e f =
    let h = in_range_some 1 most (plain_number_of number) version f in
    let within = h.1.1 in
    let same = same_word word (codes "optra-certificate") e in
    let text = plain_number_text number version h.0 (omega (arith, within, few)) in
    ((λ i. (same i ∷ sym text i ∷ []) ∷ rows), h.1)

pub version_is : (most : ℕ) (rows : List Record) (version : ℕ) → most < 10 ^ 18 → version_of most rows ≡ Some version → States most rows version
version_is most [] version few e = absurd (cc e)
version_is most ([] ∷ rows) version few e = absurd (cc e)
version_is most ((word ∷ []) ∷ rows) version few e = absurd (cc e)
version_is most ((word ∷ number ∷ []) ∷ rows) version few e = states_by most word number rows version few (bytes_eq word (codes "optra-certificate")) refl e
version_is most ((word ∷ number ∷ next ∷ rest) ∷ rows) version few e = absurd (cc e)

-- bytes that are canonical are the text of their records
pub canonical_text : (bytes : List ℕ) → is_canonical bytes ≡ true → bytes ≡ records_text (records default_config bytes)
unfolding is_canonical
canonical_text bytes e =
    let rows : List Record = records default_config bytes in
    let parts = and_parts (not (has_mark bytes)) (list_all (λ row. list_all is_utf8 row && is_shown row) rows && bytes_eq (records_text rows) bytes) e in
    let more = and_parts (list_all (λ row. list_all is_utf8 row && is_shown row) rows) (bytes_eq (records_text rows) bytes) parts.1 in
    sym ((bytes_eq-Decides (records_text rows) bytes).0 more.1)

module _ {R : Type 0} (cmp : R → R → Ordering) (trans : (x y z : R) → cmp x y ≡ Less → cmp y z ≡ Less → cmp x z ≡ Less)
    (texts : RowTexts R) (apart : AreApart texts.kinds) (are : AreTexts texts) (net : Net) (built : IsBuilt net) (bids : ℕ) (few : bids < 10 ^ 18) where
  -- records are those of a certificate that is writable in the version
  abbrev AreOf : ℕ → List Record → Cert R → Type 0
  AreOf version rows cert = (rows ≡ cert_records texts net version cert) × IsWritable cmp texts net bids version cert

  module _ (version : ℕ) where
    abbrev SoFar : Place → State R → List Record → Type 0
    SoFar = IsSoFar cmp trans texts apart are net built bids few version

    unbegun : (s : State R) → s.tree ≡ no_tree → is_whole s.tree ≡ true → ⊥
    unbegun s none whole = let open_ : is_whole {R = R} no_tree ≡ true = sym (ap is_whole none) ∙ whole in false≢true open_

    whole_tree : (s : State R) (rows : List Record) → SoFar place.Tree s rows → is_whole s.tree ≡ true → AreOf version rows (cert_of s)
    whole_tree s rows so_far whole =
        let parts = and_parts (s.tree.ways == 0) (s.tree.due == 0) whole in
        let closed = eqb-true s.tree.ways 0 parts.0 in
        let none = eqb-true s.tree.due 0 parts.1 in
        let tree = so_far.3 in
        let count = tree.count ∙ ap Some (λ i. pending (none i) + closed i) in
        let text = none_open cmp texts net bids version s.tree none in (
          so_far.0 ∙ ap (λ (t : List Record). head_records version s.revenue s.bound ++ leg_records net 0 s.walks.choice ++ t) text,
          record {
            formed = record { entries = so_far.2.entries; walks = so_far.2.formed; whole = tree_by_count s.tree.items count; items = tree.formed };
            revenue = so_far.1.0;
            bound = so_far.1.1;
            items = tree.writable;
          },
        )

    whole_at : (s : State R) (rows : List Record) (p : Place) → SoFar p s rows → is_whole s.tree ≡ true → AreOf version rows (cert_of s)
    whole_at s rows place.Revenue so_far whole = absurd (unbegun s so_far.2 whole)
    whole_at s rows place.Bound so_far whole = absurd (unbegun s so_far.3 whole)
    whole_at s rows place.Legs so_far whole = absurd (unbegun s so_far.3 whole)
    whole_at s rows place.Tree so_far whole = whole_tree s rows so_far whole

    end_ok : (s : State R) (row : ℕ) (rows : List Record) (cert : Cert R) → SoFar s.place s rows → end_step cmp texts net bids version s row ≡ Ok cert → AreOf version rows cert
    end_ok s row rows cert so_far e = by (is_whole s.tree) refl e
      where
        by : (b : Bool) → is_whole s.tree ≡ b → cond b (Ok (cert_of s)) (Err (fault code.Order row)) ≡ Ok cert → AreOf version rows cert
        by true whole e = let same : cert_of s ≡ cert = cc e in subst (AreOf version rows) same (whole_at s rows s.place so_far whole)
        by false open_ e = absurd (cc e)

    -- records that are read behind others are with them those of the certificate
    rows_ok : (s : State R) (row : ℕ) (before rest : List Record) (cert : Cert R) → SoFar s.place s before → read_rows cmp texts net bids version s row rest ≡ Ok cert → AreOf version (before ++ rest) cert
    unfolding read_rows
    rows_ok s row before [] cert so_far e = subst (λ (rows : List Record). AreOf version rows cert) (sym (append-nil before)) (end_ok s row before cert so_far e)
    rows_ok s row before (fields ∷ rest) cert so_far e =
        let h = bind_ok (in_row row (step cmp texts net bids version s fields)) (λ next. read_rows cmp texts net bids version next (row + 1) rest) cert e in
        let next = step_next cmp trans texts apart are net built bids few version s before fields h.0 so_far (in_row_ok row (step cmp texts net bids version s fields) h.0 h.1) in
        subst (λ (rows : List Record). AreOf version rows cert) (append_assoc before (fields ∷ []) rest) (rows_ok h.0 (row + 1) (before ++ fields ∷ []) rest cert next h.2)

  -- records that are read are those of the certificate, in a version that is served
  abbrev AreOfSome : List Record → Cert R → Type 0
  AreOfSome rows cert = (version : ℕ) × IsFromTo 1 texts.version version × AreOf version rows cert

  pub records_ok : (known : texts.version < 10 ^ 18) (rows : List Record) (cert : Cert R) → read_records cmp texts net bids rows ≡ Ok cert → AreOfSome rows cert
  unfolding read_records
  records_ok known rows cert e = by (version_of texts.version rows) refl e
    where
      by : (o : Option ℕ) → version_of texts.version rows ≡ o → read_behind cmp texts net bids o (drop 1 rows) ≡ Ok cert → AreOfSome rows cert
      by None f e = absurd (cc e)
      by (Some version) f e =
          let stated = version_is texts.version rows version known f in
          let first : List Record = (codes "optra-certificate" ∷ decimal version ∷ []) ∷ [] in
          let are_of = rows_ok version (started bids) 2 first (drop 1 rows) cert (refl, refl, refl) e in
          (version, stated.1, subst (λ (all : List Record). AreOf version all cert) (sym stated.0) are_of)

  -- Bytes that are read are the text of the certificate.
  pub read_ok : (known : texts.version < 10 ^ 18) (bytes : List ℕ) (cert : Cert R) → read_text cmp texts net bids bytes ≡ Ok cert → IsTextOf cmp texts net bids bytes cert
  unfolding read_text cert_text
  read_ok known bytes cert e = by (is_canonical bytes) refl e
    where
      by : (b : Bool) → is_canonical bytes ≡ b → cond b (read_records cmp texts net bids (records default_config bytes)) (Err (fault code.Csv 0)) ≡ Ok cert → IsTextOf cmp texts net bids bytes cert
      by true f e =
          let h = records_ok known (records default_config bytes) cert e in
          record { version = h.0; least = h.1.0; most = h.1.1; writable = h.2.1; text = canonical_text bytes f ∙ ap records_text h.2.0 }
      by false f e = absurd (cc e)
