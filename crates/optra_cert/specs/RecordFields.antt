-- What the fields behind the word of a record tell: a number, an amount, a bid, a leg, a row and its price. Both what a reader
-- makes of a record and the fault of a record cite it.
use Rattle.std.specs.Prelude.{ℕ, ◌-◌, ◌^◌, List, [], ◌∷◌, Option, None, Some, Result, Ok, Err}
use Rattle.std.specs.Prelude.{ℤ, pos}
use Rattle.optra_network.specs.Net.{Net}
use Rattle.optra_network.specs.Names.{place_of}
use Rattle.optra_walk.specs.declared.Leg.{Leg}
use Rattle.optra_walk.specs.Words.{action_of_word, longest_dwell, start_of_word, with_dwell}
use Rattle.optra_records.specs.Numbers.{plain_number_of}
use Rattle.optra_records.specs.Reading.{Field, Record}
use Rattle.optra_cert.specs.Columns.{in_range}
use Rattle.optra_cert.specs.Forms.{but_last, last_alone}
use Rattle.optra_cert.specs.Outcomes.{◌>>=◌, row_or_fault}
use Rattle.optra_cert.specs.RowTexts.{RowTexts, read_row}
use Rattle.optra_cert.specs.declared.CertCode.{CertCode}
use Rattle.optra_cert.specs.declared.CertCode.TheVariants as code

-- a value that is there, or a fault
abbrev pub or_fault : {A : Type 0} → CertCode → Option A → Result A CertCode
or_fault c (Some x) = Ok x
or_fault c None = Err c

-- the number from one to another in a field
abbrev pub number_or : ℕ → ℕ → Field → Result ℕ CertCode
number_or low high field = or_fault code.Number (in_range low high (plain_number_of field))

-- the number from one to another that is told alone
abbrev pub number_told : ℕ → ℕ → Record → Result ℕ CertCode
number_told low high [] = Err code.Record
number_told low high (field ∷ []) = number_or low high field
number_told low high (field ∷ next ∷ rest) = Err code.Record

abbrev pub count_told : Record → Result ℕ CertCode
count_told fields = number_told 0 (10 ^ 18 - 1) fields

unfoldable pub amount_told : Record → Result ℤ CertCode
amount_told fields = count_told fields >>= λ n. Ok (pos n)

-- the position of a bid, which is told by its number from 1
unfoldable pub bid_told : ℕ → Record → Result ℕ CertCode
bid_told bids fields = number_told 1 bids fields >>= λ n. Ok (n - 1)

-- the position of a bid, and a leg: the two words, and then the other fields from left to right. The dwell is at most the longest
-- of the action
unfoldable pub leg_by_fields : Net → ℕ → Field → Field → Field → Field → Field → Field → Result (ℕ × Leg) CertCode
leg_by_fields net bids number track depart start action dwell =
    or_fault code.Record (start_of_word start) >>= λ from_halt.
    or_fault code.Record (action_of_word action) >>= λ does.
    number_or 1 bids number >>= λ n.
    or_fault code.Name (place_of track net.track_names) >>= λ place.
    number_or 0 2879 depart >>= λ minute.
    number_or 0 (longest_dwell does) dwell >>= λ minutes.
    Ok (n - 1, record { track = record { 0 = place }; depart = minute; from_halt = from_halt; action = with_dwell does minutes })

-- the same of six fields
unfoldable pub leg_told : Net → ℕ → Record → Result (ℕ × Leg) CertCode
leg_told net bids (number ∷ track ∷ depart ∷ start ∷ action ∷ dwell ∷ []) = leg_by_fields net bids number track depart start action dwell
leg_told net bids _ = Err code.Record

-- a row and its price
unfoldable pub price_told : {R : Type 0} → RowTexts R → Net → ℕ → Record → Result (R × ℤ) CertCode
price_told texts net version fields =
    row_or_fault (read_row texts net version (but_last fields)) >>= λ row. amount_told (last_alone fields) >>= λ amount. Ok (row, amount)
