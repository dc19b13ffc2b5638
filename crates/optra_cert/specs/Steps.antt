-- How a certificate is read, record by record: what was read so far, and what each record makes of it.
use Rattle.std.specs.Prelude.{ℕ, ◌+◌, ◌-◌, ◌&&◌, ◌==◌, Bool, true, false, List, [], ◌∷◌, ◌++◌, length, drop, nat_le, Option, None, Some, Result, Ok, Err, slice_get, slice_set, replicate, bytes_eq, codes, if◌then◌else◌}
use Rattle.std.specs.Prelude.{ℤ, pos}
use Rattle.std.specs.Option.{option_map_or}
use Rattle.std.specs.declared.cmp.Ordering.{Ordering}
use Rattle.std.specs.Ordering.{is_lt}
use Rattle.csv.specs.Reading.{default_config, records}
use Rattle.optra_network.specs.Net.{Net}
use Rattle.optra_walk.specs.declared.Leg.{Leg}
use Rattle.optra_node.specs.declared.Item.{Item}
use Rattle.optra_node.specs.declared.Item.TheVariants.{Split, NoWalk, Forced, Priced}
use Rattle.optra_node.specs.Duals.{PriceList}
use Rattle.optra_node.specs.Nodes.{legs_at}
use Rattle.optra_records.specs.Canonical.{is_canonical}
use Rattle.optra_records.specs.Reading.{Field, Record}
use Rattle.optra_cert.specs.Certs.{Cert}
use Rattle.optra_cert.specs.Forms.{field_at, version_of}
use Rattle.optra_cert.specs.Outcomes.{◌>>=◌, row_or_fault}
use Rattle.optra_cert.specs.RecordFields.{amount_told, bid_told, count_told, leg_told, price_told}
use Rattle.optra_cert.specs.RowTexts.{RowTexts, read_row}
use Rattle.optra_cert.specs.declared.CertCode.{CertCode}
use Rattle.optra_cert.specs.declared.CertCode.TheVariants as code
use Rattle.optra_cert.specs.declared.CertFault.{CertFault}
use Rattle.optra_cert.specs.declared.read_parts.Place.{Place}
use Rattle.optra_cert.specs.declared.read_parts.Place.TheVariants as place

-- ---- what was read so far

-- the legs of each bid, and the position of the bid of the last leg
pub record WalksSoFar : Type 0 where
  pub choice : List (Option (List Leg))
  pub last : ℕ

-- the items; how many subtrees are to come; how many prices of a leaf are to come, and those that came
pub record TreeSoFar (R : Type 0) : Type 0 where
  pub items : List (Item R)
  pub ways : ℕ
  pub due : ℕ
  pub prices : PriceList R

-- which records may come, the two numbers, the legs and the tree
pub record State (R : Type 0) : Type 0 where
  pub place : Place
  pub revenue : ℤ
  pub bound : ℤ
  pub walks : WalksSoFar
  pub tree : TreeSoFar R

-- no subtree and no price is to come
abbrev pub is_whole : {R : Type 0} → TreeSoFar R → Bool
is_whole tree = (tree.ways == 0) && (tree.due == 0)

-- a leg of a bid, which isn't below the bid of the leg before
unfoldable pub leg_added : WalksSoFar → ℕ → Leg → Result WalksSoFar CertCode
leg_added walks bid leg =
    if nat_le walks.last bid
    then Ok (record { choice = slice_set walks.choice bid (Some (legs_at walks.choice bid ++ leg ∷ [])); last = bid })
    else Err code.Order

-- a split opens two subtrees below its own
abbrev pub split_added : {R : Type 0} → TreeSoFar R → ℕ → Leg → TreeSoFar R
split_added tree bid leg = record tree { items = tree.items ++ Split bid leg ∷ []; ways = tree.ways + 1 }

-- a leaf without prices
abbrev pub leaf_added : {R : Type 0} → TreeSoFar R → Item R → TreeSoFar R
leaf_added tree item = record tree { items = tree.items ++ item ∷ []; ways = tree.ways - 1 }

-- a priced leaf is an item once no price is to come
abbrev pub filled : {R : Type 0} → TreeSoFar R → TreeSoFar R
filled tree = if tree.due == 0 then record tree { items = tree.items ++ Priced tree.prices ∷ []; prices = [] } else tree

-- a leaf of so many prices
abbrev pub count_added : {R : Type 0} → TreeSoFar R → ℕ → TreeSoFar R
count_added tree count = filled (record tree { ways = tree.ways - 1; due = count })

-- the row is above that of the last price
abbrev pub is_above : {R : Type 0} → (R → R → Ordering) → PriceList R → R → Bool
is_above cmp prices row = option_map_or (λ e. is_lt (cmp e.0 row)) (slice_get prices (length prices - 1)) true

-- a price of the leaf
unfoldable pub price_added : {R : Type 0} → (R → R → Ordering) → TreeSoFar R → R × ℤ → Result (TreeSoFar R) CertCode
price_added cmp tree entry =
    if is_above cmp tree.prices entry.0
    then Ok (filled (record tree { due = tree.due - 1; prices = tree.prices ++ entry ∷ [] }))
    else Err code.Order

-- nothing of the tree
abbrev pub no_tree : {R : Type 0} → TreeSoFar R
no_tree = record { items = []; ways = 1; due = 0; prices = [] }

-- no leg of so many bids
abbrev pub no_walks : ℕ → WalksSoFar
no_walks bids = record { choice = replicate bids None; last = 0 }

-- what is known behind the first record, for so many bids
abbrev pub started : {R : Type 0} → ℕ → State R
started bids = record { place = place.Revenue; revenue = pos 0; bound = pos 0; walks = no_walks bids; tree = no_tree }

abbrev pub cert_of : {R : Type 0} → State R → Cert R
cert_of s = record { revenue = s.revenue; bound = s.bound; choice = s.walks.choice; tree = s.tree.items }

-- ---- what a record makes of it

abbrev pub fault : CertCode → ℕ → CertFault
fault c row = record { code = c; row = row }

-- a fault of a record is that of its row
abbrev pub in_row : {A : Type 0} → ℕ → Result A CertCode → Result A CertFault
in_row row (Ok x) = Ok x
in_row row (Err c) = Err (fault c row)

unfoldable pub revenue_step : {R : Type 0} → State R → Field → Record → Result (State R) CertCode
revenue_step s word fields =
    if bytes_eq word (codes "revenue") then (amount_told fields >>= λ amount. Ok (record s { place = place.Bound; revenue = amount })) else Err code.Record

unfoldable pub bound_step : {R : Type 0} → State R → Field → Record → Result (State R) CertCode
bound_step s word fields =
    if bytes_eq word (codes "bound") then (amount_told fields >>= λ amount. Ok (record s { place = place.Legs; bound = amount })) else Err code.Record

module _ {R : Type 0} (cmp : R → R → Ordering) (texts : RowTexts R) (net : Net) (bids version : ℕ) where
  -- a record where an item begins
  unfoldable pub item_step : TreeSoFar R → Field → Record → Result (TreeSoFar R) CertCode
  item_step tree word fields =
      if bytes_eq word (codes "split") then (leg_told net bids fields >>= λ told. Ok (split_added tree told.0 told.1)) else (
      if bytes_eq word (codes "nowalk") then (bid_told bids fields >>= λ bid. Ok (leaf_added tree (NoWalk bid))) else (
      if bytes_eq word (codes "forced") then (row_or_fault (read_row texts net version fields) >>= λ row. Ok (leaf_added tree (Forced row))) else (
      if bytes_eq word (codes "priced") then (count_told fields >>= λ count. Ok (count_added tree count)) else
      Err code.Record)))

  -- a record of the tree
  unfoldable pub tree_step : TreeSoFar R → Field → Record → Result (TreeSoFar R) CertCode
  tree_step tree word fields =
      if is_whole tree then Err code.Order else (
      if tree.due == 0 then item_step tree word fields else (
      if bytes_eq word (codes "price") then (price_told texts net version fields >>= price_added cmp tree) else
      Err code.Record))

  -- a record behind the bound: a leg, or one of the tree, behind which no leg may come
  unfoldable pub body_step : Bool → State R → Field → Record → Result (State R) CertCode
  body_step legs s word fields =
      if legs && bytes_eq word (codes "leg")
      then (leg_told net bids fields >>= λ told. leg_added s.walks told.0 told.1 >>= λ walks. Ok (record s { walks = walks }))
      else (tree_step s.tree word fields >>= λ tree. Ok (record s { place = place.Tree; tree = tree }))

  abbrev pub step_at : Place → State R → Field → Record → Result (State R) CertCode
  step_at place.Revenue s word fields = revenue_step s word fields
  step_at place.Bound s word fields = bound_step s word fields
  step_at place.Legs s word fields = body_step true s word fields
  step_at place.Tree s word fields = body_step false s word fields

  -- What is known behind a record, or its fault.
  unfoldable pub step : State R → Record → Result (State R) CertCode
  step s fields = step_at s.place s (field_at fields 0) (drop 1 fields)

  -- the certificate, or the fault of the record that is missing in this row
  abbrev pub end_step : State R → ℕ → Result (Cert R) CertFault
  end_step s row = if is_whole s.tree then Ok (cert_of s) else Err (fault code.Order row)

  -- The records in turn, from this row on.
  unfoldable pub read_rows : State R → ℕ → List Record → Result (Cert R) CertFault
  read_rows s row [] = end_step s row
  read_rows s row (fields ∷ rest) = in_row row (step s fields) >>= λ next. read_rows next (row + 1) rest

module _ {R : Type 0} (cmp : R → R → Ordering) (texts : RowTexts R) (net : Net) (bids : ℕ) where
  abbrev pub read_behind : Option ℕ → List Record → Result (Cert R) CertFault
  read_behind None rest = Err (fault code.Version 1)
  read_behind (Some version) rest = read_rows cmp texts net bids version (started bids) 2 rest

  -- The certificate of records, or their first fault.
  unfoldable pub read_records : List Record → Result (Cert R) CertFault
  read_records rows = read_behind (version_of texts.version rows) (drop 1 rows)

  -- The certificate of bytes, or their first fault.
  unfoldable pub read_text : List ℕ → Result (Cert R) CertFault
  read_text bytes = if is_canonical bytes then read_records (records default_config bytes) else Err (fault code.Csv 0)
