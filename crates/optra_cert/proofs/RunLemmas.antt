-- Reading records one after the other, as a loop does.
use Rattle.std.proofs.Common.{◌≡◌, ℕ, ◌+◌, ◌*◌, ◌≤◌, Bool, true, false, cond, List, [], ◌∷◌, ◌++◌, length, drop, Some, nat_le, refl, sym, ap, arith, subst, bytes_eq, not, ◌&&◌}
use Rattle.std.specs.Prelude.{Result, Ok, Err, codes, ◌==◌, slice_set}
use Rattle.optra_node.specs.Nodes.{legs_at}
use Rattle.std.specs.List.{list_all}
use Rattle.std.specs.Str.{is_utf8}
use Rattle.std.specs.declared.cmp.Ordering.{Ordering}
use Rattle.std.proofs.lemmas.Bool.{and_parts}
use Rattle.std.proofs.lemmas.Slice.Eq.{bytes_eq-Decides}
use Rattle.std.proofs.lemmas.List.{length-set, length-append}
use Rattle.std.proofs.lemmas.List.Concat.{flat_map-cons}
use Rattle.csv.specs.Reading.{default_config, records}
use Rattle.optra_network.specs.Net.{Net}
use Rattle.optra_walk.specs.declared.Leg.{Leg}
use Rattle.optra_records.specs.Canonical.{is_canonical, is_text_of}
use Rattle.optra_records.specs.Reading.{Field, Record, has_mark}
use Rattle.optra_records.specs.Texts.{escaped, field_text, fields_text, is_shown, more_text, needs_quotes, record_text, records_text}
use Rattle.optra_cert.specs.Certs.{Cert}
use Rattle.optra_cert.specs.Forms.{field_at}
use Rattle.optra_cert.specs.Outcomes.{◌>>=◌, StopsAt}
use Rattle.optra_cert.specs.RowTexts.{RowTexts}
use Rattle.optra_cert.specs.RecordFields.{amount_told, leg_told}
use Rattle.optra_cert.specs.Steps.{State, WalksSoFar, body_step, bound_step, cert_of, end_step, fault, in_row, is_whole, leg_added, read_rows, revenue_step, started, step, step_at, tree_step}
use Rattle.optra_cert.specs.declared.CertCode.{CertCode}
use Rattle.optra_cert.specs.declared.CertCode.TheVariants as code
use Rattle.optra_cert.specs.declared.CertError.{CertError}
use Rattle.optra_cert.specs.declared.CertError.TheVariants as errors
use Rattle.optra_cert.specs.declared.CertFault.{CertFault}
use Rattle.optra_cert.specs.declared.read_parts.Place.{Place}
use Rattle.optra_cert.specs.declared.read_parts.Place.TheVariants as place

-- ---- the bids of the walks stay as many

-- a value that was read from a value that was read
from_bind : {A B E : Type 0} (r : Result A E) (f : A → Result B E) (y : B) → (r >>= f) ≡ Ok y → (x : A) × (r ≡ Ok x) × (f x ≡ Ok y)
from_bind (Ok x) f y e = (x, refl, e)
from_bind (Err w) f y e = absurd (cc e)

-- a test that was passed
from_test : {B E : Type 0} (t : Bool) (r : Result B E) (other : E) (y : B) → cond t r (Err other) ≡ Ok y → r ≡ Ok y
from_test true r other y e = e
from_test false r other y e = absurd (cc e)

leg_stays : (walks new : WalksSoFar) (bid : ℕ) (leg : Leg) → leg_added walks bid leg ≡ Ok new → length new.choice ≡ length walks.choice
unfolding leg_added
leg_stays walks new bid leg e =
    let after : WalksSoFar = record { choice = slice_set walks.choice bid (Some (legs_at walks.choice bid ++ leg ∷ [])); last = bid } in
    let same : Ok after ≡ Ok new = from_test (nat_le walks.last bid) (Ok after) code.Order new e in
    let is : after ≡ new = cc same in
    subst (λ (w : WalksSoFar). length w.choice ≡ length walks.choice) is (length-set walks.choice bid (Some (legs_at walks.choice bid ++ leg ∷ [])))

module _ {R : Type 0} (cmp : R → R → Ordering) (texts : RowTexts R) (net : Net) (bids version : ℕ) where
  abbrev Stays : State R → State R → Type 0
  Stays s next = length next.walks.choice ≡ length s.walks.choice

  body_stays : (t : Bool) (s next : State R) (word : Field) (fields : Record) → body_step cmp texts net bids version t s word fields ≡ Ok next → Stays s next
  unfolding body_step
  body_stays t s next word fields e = by (t && bytes_eq word (codes "leg")) e
    where
      tree_part : (tree_step cmp texts net bids version s.tree word fields >>= λ tree. Ok (record s { place = place.Tree; tree = tree })) ≡ Ok next → Stays s next
      tree_part e =
          let b = from_bind (tree_step cmp texts net bids version s.tree word fields) (λ tree. Ok (record s { place = place.Tree; tree = tree })) next e in
          let is : record s { place = place.Tree; tree = b.0 } ≡ next = cc b.2 in
          subst (λ (n : State R). Stays s n) is refl

      leg_part : (leg_told net bids fields >>= λ told. leg_added s.walks told.0 told.1 >>= λ walks. Ok (record s { walks = walks })) ≡ Ok next → Stays s next
      leg_part e =
          let a = from_bind (leg_told net bids fields) (λ told. leg_added s.walks told.0 told.1 >>= λ walks. Ok (record s { walks = walks })) next e in
          let b = from_bind (leg_added s.walks a.0.0 a.0.1) (λ walks. Ok (record s { walks = walks })) next a.2 in
          let is : record s { walks = b.0 } ≡ next = cc b.2 in
          subst (λ (n : State R). Stays s n) is (leg_stays s.walks b.0 a.0.0 a.0.1 b.1)

      by : (c : Bool)
          → cond c (leg_told net bids fields >>= λ told. leg_added s.walks told.0 told.1 >>= λ walks. Ok (record s { walks = walks }))
          (tree_step cmp texts net bids version s.tree word fields >>= λ tree. Ok (record s { place = place.Tree; tree = tree }))
          ≡ Ok next → Stays s next
      by true e = leg_part e
      by false e = tree_part e

  at_stays : (p : Place) (s next : State R) (word : Field) (fields : Record) → step_at cmp texts net bids version p s word fields ≡ Ok next → Stays s next
  unfolding revenue_step bound_step
  at_stays place.Revenue s next word fields e =
      let a = from_test (bytes_eq word (codes "revenue")) _ code.Record next e in
      let b = from_bind (amount_told fields) (λ amount. Ok (record s { place = place.Bound; revenue = amount })) next a in
      let is : record s { place = place.Bound; revenue = b.0 } ≡ next = cc b.2 in
      subst (λ (n : State R). Stays s n) is refl
  at_stays place.Bound s next word fields e =
      let a = from_test (bytes_eq word (codes "bound")) _ code.Record next e in
      let b = from_bind (amount_told fields) (λ amount. Ok (record s { place = place.Legs; bound = amount })) next a in
      let is : record s { place = place.Legs; bound = b.0 } ≡ next = cc b.2 in
      subst (λ (n : State R). Stays s n) is refl
  at_stays place.Legs s next word fields e = body_stays true s next word fields e
  at_stays place.Tree s next word fields e = body_stays false s next word fields e

  pub step_stays : (s next : State R) (fields : Record) (row : ℕ) → in_row row (step cmp texts net bids version s fields) ≡ Ok next → Stays s next
  unfolding step
  step_stays s next fields row e = at_stays s.place s next (field_at fields 0) (drop 1 fields) (by (step cmp texts net bids version s fields) e)
    where
      by : (r : Result (State R) CertCode) → in_row row r ≡ Ok next → r ≡ Ok next
      by (Ok x) e = let is : x ≡ next = cc e in ap (λ (n : State R). Ok n) is
      by (Err c) e = absurd (cc e)

  -- ---- the records in turn

  -- what all records behind the first give
  abbrev whole : List Record → Result (Cert R) CertFault
  whole all = read_rows cmp texts net bids version (started bids) 2 all

  -- a record that is taken leaves the others to be read
  pub rows_go : (before after : List Record) (fields : Record) (s next : State R) (row : ℕ) (all : List Record) → before ≡ fields ∷ after
      → in_row row (step cmp texts net bids version s fields) ≡ Ok next
      → read_rows cmp texts net bids version s row before ≡ whole all → read_rows cmp texts net bids version next (row + 1) after ≡ whole all
  unfolding read_rows
  rows_go before after fields s next row all b e g = rw (b, e) at g

  -- a fault of a record is the first fault
  pub rows_stop : (before after : List Record) (fields : Record) (s : State R) (row : ℕ) (all : List Record) (error : CertError) → before ≡ fields ∷ after
      → StopsAt error (in_row row (step cmp texts net bids version s fields))
      → read_rows cmp texts net bids version s row before ≡ whole all → StopsAt error (whole all)
  unfolding read_rows
  rows_stop before after fields s row all errors.NoMemory b e g = tt
  rows_stop before after fields s row all (errors.Fault f) b e g = sym (rw (b, e) at g)

  -- without a record the tree is whole or not
  pub rows_end : (before : List Record) (s : State R) (row : ℕ) (all : List Record) → before ≡ []
      → read_rows cmp texts net bids version s row before ≡ whole all → whole all ≡ end_step cmp texts net bids version s row
  unfolding read_rows
  rows_end before s row all b g = sym (rw b at g)

  pub ends_whole : (s : State R) (row : ℕ) → is_whole s.tree ≡ true → end_step cmp texts net bids version s row ≡ Ok (cert_of s)
  ends_whole s row e = rw e refl

  pub ends_open : (s : State R) (row : ℕ) → is_whole s.tree ≡ false → end_step cmp texts net bids version s row ≡ Err (fault code.Order row)
  ends_open s row e = rw e refl

-- ---- a canonical text

length-field_text : (field : Field) → not (length field == 0) ≡ true → 1 ≤ length (field_text field)
length-field_text [] e = absurd (cc e)
length-field_text (b ∷ field) e = by (needs_quotes (b ∷ field))
  where
    by : (t : Bool) → 1 ≤ length (cond t (34 ∷ (escaped (b ∷ field) ++ 34 ∷ [])) (b ∷ field))
    by true = omega arith
    by false = omega arith

length-fields_text : (fields : Record) → is_shown fields ≡ true → 1 ≤ length (fields_text fields)
length-fields_text [] e = absurd (cc e)
length-fields_text (field ∷ []) e = omega (arith, length-field_text field e, length-append (field_text field) [])
length-fields_text (field ∷ next ∷ rest) e =
    omega (arith, length-append (field_text field) (44 ∷ (field_text next ++ more_text rest)))

length-record_text : (fields : Record) → is_shown fields ≡ true → 2 ≤ length (record_text fields)
unfolding record_text
length-record_text fields e = omega (arith, length-fields_text fields e, length-append (fields_text fields) (10 ∷ []))

abbrev is_fit : Record → Bool
is_fit row = list_all is_utf8 row && is_shown row

-- there are at most half as many records as bytes
few_records : (rows : List Record) → list_all is_fit rows ≡ true → 2 * length rows ≤ length (records_text rows)
few_records [] e = omega arith
few_records (row ∷ rows) e =
    let parts = and_parts (is_fit row) (list_all is_fit rows) e in
    let shown = (and_parts (list_all is_utf8 row) (is_shown row) parts.0).1 in
    rw (flat_map-cons record_text row rows)
    (omega (arith, few_records rows parts.1, length-record_text row shown, length-append (record_text row) (records_text rows)))

not_true : (b : Bool) → not b ≡ true → b ≡ false
not_true false e = refl
not_true true e = absurd (cc e)

pub canonical_no_mark : (bytes : List ℕ) → is_canonical bytes ≡ true → has_mark bytes ≡ false
unfolding is_canonical
canonical_no_mark bytes e = not_true (has_mark bytes) (and_parts (not (has_mark bytes)) (is_text_of (records default_config bytes) bytes) e).0

pub canonical_few : (bytes : List ℕ) → is_canonical bytes ≡ true → 2 * length (records default_config bytes) ≤ length bytes
unfolding is_canonical
canonical_few bytes e =
    let rows = records default_config bytes in
    let text = (and_parts (not (has_mark bytes)) (is_text_of rows bytes) e).1 in
    let parts = and_parts (list_all is_fit rows) (bytes_eq (records_text rows) bytes) text in
    let is : records_text rows ≡ bytes = (bytes_eq-Decides (records_text rows) bytes).0 parts.1 in
    subst (λ (b : List ℕ). 2 * length rows ≤ length b) is (few_records rows parts.0)
