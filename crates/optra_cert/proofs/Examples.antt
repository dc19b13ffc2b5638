-- The definitions on a small case: the certificate of one split, and faults of its records.
use Rattle.std.proofs.Common.{◌≡◌, ℕ, List, [], ◌∷◌, Some, None, pos, refl, codes, take, true, false}
use Rattle.std.specs.Fmt.{digits}
use Rattle.std.specs.Prelude.{Option}
use Rattle.std.specs.declared.cmp.Ordering.TheVariants.{Less}
use Rattle.optra_network.specs.Net.{Net, empty_net}
use Rattle.optra_walk.specs.declared.Leg.{Leg}
use Rattle.optra_walk.specs.declared.Action.TheVariants.{Finish}
use Rattle.optra_node.specs.declared.Item.TheVariants.{Split, Priced, NoWalk}
use Rattle.optra_rows.specs.declared.HRow.{HRow}
use Rattle.optra_rows.specs.declared.HRow.TheVariants.{Window}
use Rattle.optra_records.specs.Numbers.{plain_number_of}
use Rattle.optra_records.specs.Reading.{Record}
use Rattle.optra_cert.specs.declared.CertCode.{CertCode}
use Rattle.optra_cert.specs.declared.CertCode.TheVariants as code
use Rattle.optra_cert.specs.Faults.{fault_at, is_whole}
use Rattle.optra_cert.specs.RecordFields.{amount_told, leg_by_fields, leg_told, price_told}
use Rattle.optra_cert.specs.RowTexts.{read_row}
use Rattle.optra_cert.specs.Headways.{headway_texts}
use Rattle.optra_cert.specs.Certs.{Cert}
use Rattle.optra_cert.specs.CertTexts.{cert_records}

abbrev net : Net
net = record empty_net { track_names = codes "ab" ∷ []; tracks = record { tail = record { 0 = 0 }; head = record { 0 = 1 } } ∷ []; types = codes "ic" ∷ [] }

abbrev leg : Leg
leg = record { track = record { 0 = 0 }; depart = 3; from_halt = true; action = Finish }

abbrev cert : Cert HRow
cert = record {
  revenue = pos 1000;
  bound = pos 1000;
  choice = None ∷ Some (leg ∷ []) ∷ [];
  tree = Split 1 leg ∷ Priced ((Window (record { 0 = 0 }) 2, pos 70) ∷ []) ∷ NoWalk 0 ∷ [];
}

abbrev rows : List Record
rows =
    (codes "optra-certificate" ∷ codes "1" ∷ []) ∷ (codes "revenue" ∷ codes "1000" ∷ []) ∷ (codes "bound" ∷ codes "1000" ∷ [])
    ∷ (codes "leg" ∷ codes "2" ∷ codes "ab" ∷ codes "3" ∷ codes "halt" ∷ codes "finish" ∷ codes "0" ∷ [])
    ∷ (codes "split" ∷ codes "2" ∷ codes "ab" ∷ codes "3" ∷ codes "halt" ∷ codes "finish" ∷ codes "0" ∷ [])
    ∷ (codes "priced" ∷ codes "1" ∷ []) ∷ (codes "price" ∷ codes "window" ∷ codes "ab" ∷ codes "2" ∷ codes "70" ∷ []) ∷ (codes "nowalk" ∷ codes "1" ∷ []) ∷ []

records_are : cert_records headway_texts net 1 cert ≡ rows
unfolding digits
records_are = refl

zeros : plain_number_of (codes "007") ≡ None
unfolding plain_number_of
zeros = refl

whole : is_whole rows ≡ true
unfolding plain_number_of
whole = refl

one_child : is_whole (take 7 rows) ≡ false
unfolding plain_number_of
one_child = refl

-- the fault of a record behind the first of these, of 2 bids, by any order of rows
abbrev fault : ℕ → Record → Option CertCode
fault before row = fault_at (λ a b. Less) headway_texts net 2 1 (take before rows) row

good : fault 6 (codes "price" ∷ codes "window" ∷ codes "ab" ∷ codes "2" ∷ codes "70" ∷ []) ≡ None
unfolding fault_at plain_number_of read_row digits price_told amount_told
good = refl

bad_kind : fault 6 (codes "price" ∷ codes "cross" ∷ codes "ab" ∷ codes "2" ∷ codes "70" ∷ []) ≡ Some code.Record
unfolding fault_at plain_number_of read_row digits price_told amount_told
bad_kind = refl

bad_name : fault 6 (codes "price" ∷ codes "window" ∷ codes "ba" ∷ codes "2999" ∷ codes "70" ∷ []) ≡ Some code.Name
unfolding fault_at plain_number_of read_row digits price_told amount_told
bad_name = refl

bad_number : fault 5 (codes "priced" ∷ codes "007" ∷ []) ≡ Some code.Number
unfolding fault_at plain_number_of read_row digits
bad_number = refl

-- pass and finish have no dwell
bad_dwell : fault 4 (codes "split" ∷ codes "2" ∷ codes "ab" ∷ codes "3" ∷ codes "halt" ∷ codes "finish" ∷ codes "1" ∷ []) ≡ Some code.Number
unfolding fault_at plain_number_of read_row digits leg_told leg_by_fields
bad_dwell = refl

-- a leg of a lower bid
bad_order : fault 4 (codes "leg" ∷ codes "1" ∷ codes "ab" ∷ codes "3" ∷ codes "halt" ∷ codes "finish" ∷ codes "0" ∷ []) ≡ Some code.Order
unfolding fault_at plain_number_of read_row digits leg_told leg_by_fields
bad_order = refl

-- no leg stands behind an item of the tree, and nothing behind a whole tree
late_leg : fault 5 (codes "leg" ∷ codes "2" ∷ []) ≡ Some code.Record
unfolding fault_at plain_number_of read_row digits
late_leg = refl

late : fault 8 (codes "anything" ∷ []) ≡ Some code.Order
unfolding fault_at plain_number_of read_row digits
late = refl
