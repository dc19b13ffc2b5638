-- The first fault of bytes that are no certificate's text.
use Rattle.std.specs.Prelude.{◌≡◌, ℕ, ◌+◌, ◌-◌, ◌<◌, ◌≤◌, ◌&&◌, ◌||◌, ◌==◌, not, Bool, true, false, List, [], ◌∷◌, length, take, drop, fold, count_by, nat_le, nat_lt, ◌⊎◌, Option, None, Some, Result, Ok, Err, unwrap_or, slice_get, bytes_eq, codes, MatchBool, if◌then◌else◌}
use Rattle.std.specs.List.{list_any}
use Rattle.std.specs.declared.cmp.Ordering.{Ordering}
use Rattle.std.specs.Ordering.{is_lt}
use Rattle.csv.specs.Reading.{default_config, records}
use Rattle.optra_network.specs.Net.{Net}
use Rattle.optra_records.specs.Canonical.{is_canonical}
use Rattle.optra_records.specs.Numbers.{plain_number_of}
use Rattle.optra_records.specs.Reading.{Field, Record}
use Rattle.optra_cert.specs.Forms.{but_last, field_at, version_of}
use Rattle.optra_cert.specs.RecordFields.{bid_told, count_told, leg_told, price_told}
use Rattle.optra_cert.specs.RowTexts.{RowTexts, read_row}
use Rattle.optra_cert.specs.declared.CertCode.{CertCode}
use Rattle.optra_cert.specs.declared.CertCode.TheVariants as code
use Rattle.optra_cert.specs.declared.CertFault.{CertFault}
use Rattle.optra_cert.specs.declared.row_text.RowRead.{RowRead}
use Rattle.optra_cert.specs.declared.row_text.RowRead.TheVariants as read

-- ---- which word may stand behind the records before

abbrev pub is_one_of : List Field → Record → Bool
is_one_of words fields = list_any (bytes_eq (field_at fields 0)) words

abbrev pub leaf_words : List Field
leaf_words = codes "nowalk" ∷ codes "forced" ∷ codes "priced" ∷ []

abbrev pub tree_words : List Field
tree_words = codes "split" ∷ leaf_words

-- the number at a place
abbrev pub number_at : Record → ℕ → ℕ
number_at fields i = unwrap_or (plain_number_of (field_at fields i)) 0

-- the last of the records before
abbrev pub last_of : List Record → Record
last_of before = unwrap_or (slice_get before (length before - 1)) []

-- how many prices are due behind them: a `priced` record counts its prices, and each further record is one of them
abbrev pub prices_due : List Record → ℕ
prices_due before = fold (λ due row. if is_one_of (codes "priced" ∷ []) row then number_at row 1 else (due - 1)) 0 before

-- whether the tree is whole: it has one leaf more than splits, and no price is due
abbrev pub is_whole : List Record → Bool
is_whole before = (count_by (is_one_of leaf_words) before == count_by (is_one_of (codes "split" ∷ [])) before + 1) && (prices_due before == 0)

abbrev pub words_behind : List Record → List Field
words_behind before =
    if length before == 1 then codes "revenue" ∷ [] else (
    if length before == 2 then codes "bound" ∷ [] else (
    if nat_lt 0 (prices_due before) then codes "price" ∷ [] else (
    if is_one_of (codes "bound" ∷ codes "leg" ∷ []) (last_of before) then codes "leg" ∷ tree_words else tree_words)))

-- ---- the faults of a record by itself

abbrev pub fault_of : {X : Type 0} → Result X CertCode → Option CertCode
fault_of (Ok x) = None
fault_of (Err c) = Some c

abbrev pub or_then : Option CertCode → Option CertCode → Option CertCode
or_then None later = later
or_then (Some c) later = Some c

abbrev pub row_fault : {R : Type 0} → RowRead R → Option CertCode
row_fault (read.Row row) = None
row_fault read.Kind = Some code.Record
row_fault read.Name = Some code.Name
row_fault read.Number = Some code.Number

module _ {R : Type 0} (cmp : R → R → Ordering) (texts : RowTexts R) (net : Net) (bids version : ℕ) where
  -- the fault of the fields behind a word that may stand there
  abbrev pub fault_behind : Field → Record → Option CertCode
  fault_behind word fields =
      if bytes_eq word (codes "leg") || bytes_eq word (codes "split") then fault_of (leg_told net bids fields) else (
      if bytes_eq word (codes "nowalk") then fault_of (bid_told bids fields) else (
      if bytes_eq word (codes "forced") then row_fault (read_row texts net version fields) else (
      if bytes_eq word (codes "price") then fault_of (price_told texts net version fields) else fault_of (count_told fields))))

  -- the row of a price record
  abbrev pub row_of_price : Record → RowRead R
  row_of_price fields = read_row texts net version (but_last (drop 1 fields))

  -- whether a row is below another
  abbrev pub is_below : RowRead R → RowRead R → Bool
  is_below (read.Row a) (read.Row b) = is_lt (cmp a b)
  is_below _ _ = false

  -- whether a record is in order behind the last one: legs by bid number, and the prices of a leaf by row
  abbrev pub is_in_order : Record → Record → Bool
  is_in_order last fields =
      if is_one_of (codes "leg" ∷ []) last && is_one_of (codes "leg" ∷ []) fields then nat_le (number_at last 1) (number_at fields 1) else (
      if is_one_of (codes "price" ∷ []) last && is_one_of (codes "price" ∷ []) fields then is_below (row_of_price last) (row_of_price fields) else true)

  -- The fault of a record behind the records before it, which have none.
  unfoldable pub fault_at : List Record → Record → Option CertCode
  fault_at before fields =
      if is_whole before then Some code.Order else (
      if not (is_one_of (words_behind before) fields) then Some code.Record else
      or_then (fault_behind (field_at fields 0) (drop 1 fields)) (if is_in_order (last_of before) fields then None else Some code.Order))

  -- the records to this one, from the second on, have no fault
  abbrev pub HaveNone : List Record → ℕ → Type 0
  HaveNone rows count = (i : ℕ) (fields : Record) → 1 ≤ i → i < count → slice_get rows i ≡ Some fields → fault_at (take i rows) fields ≡ None

  -- the first record with a fault, where all before it have none; its row is its place from 1
  pub record IsFaultOfRecord (rows : List Record) (fault : CertFault) : Type 0 where
    pub place : ℕ
    pub fields : Record
    pub there : slice_get rows place ≡ Some fields
    pub behind : 1 ≤ place
    pub before : HaveNone rows place
    pub fault_is : fault_at (take place rows) fields ≡ Some fault.code
    pub row_is : fault.row ≡ place + 1

  -- the records have no fault and end before the tree is whole
  pub record EndsEarly (rows : List Record) (fault : CertFault) : Type 0 where
    pub each : HaveNone rows (length rows)
    pub open_ : is_whole rows ≡ false
    pub fault_is : fault ≡ record { code = code.Order; row = length rows + 1 }

  abbrev pub IsFaultOfRecords : List Record → CertFault → Type 0
  IsFaultOfRecords rows fault = IsFaultOfRecord rows fault ⊎ EndsEarly rows fault

-- The first fault of records that state a version, or that the first doesn't.
abbrev pub IsFaultBehind : {R : Type 0} → (R → R → Ordering) → RowTexts R → Net → ℕ → List Record → Option ℕ → CertFault → Type 0
IsFaultBehind cmp texts net bids rows None fault = fault ≡ record { code = code.Version; row = 1 }
IsFaultBehind cmp texts net bids rows (Some version) fault = IsFaultOfRecords cmp texts net bids version rows fault

-- The first fault of bytes: C1, else C2, else the first in the order of the records.
abbrev pub IsFirstFault : {R : Type 0} → (R → R → Ordering) → RowTexts R → Net → ℕ → List ℕ → CertFault → Type 0
IsFirstFault cmp texts net bids bytes fault =
    let rows = records default_config bytes in
    MatchBool (is_canonical bytes) (IsFaultBehind cmp texts net bids rows (version_of texts.version rows) fault) (fault ≡ record { code = code.Csv; row = 0 })
