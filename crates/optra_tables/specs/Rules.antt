-- The rules of an auction that a table means, or its first fault.
use Rattle.std.specs.Prelude.{ℕ, ◌&&◌, nat_le, pos, Bool, List, [], ◌∷◌, Result, Ok, Err, codes}
use Rattle.optra_auction.specs.declared.Rules.{Rules}
use Rattle.optra_network.specs.declared.NetRefusal.TheVariants.{Range}
use Rattle.optra_records.specs.Reading.{Record, table_records}
use Rattle.optra_tables.specs.Fields.{number_at, shaped}
use Rattle.optra_tables.specs.Outcomes.{◌>>=◌, fault, guard}
use Rattle.optra_tables.specs.Rows.{under_header}
use Rattle.optra_tables.specs.declared.Kind.TheVariants as kinds
use Rattle.optra_tables.specs.declared.Table.TheVariants as tables
use Rattle.optra_tables.specs.declared.TableFault.{TableFault}

abbrev pub rules_header : Record
rules_header = codes "min_increment" ∷ codes "permille" ∷ codes "rounds" ∷ []

-- a least increment of 1 to 1,000,000,000 cents, at most 1,000 thousandths, and 1 to 100 rounds
abbrev pub are_rules : ℕ → ℕ → ℕ → Bool
are_rules min_increment permille rounds =
    nat_le 1 min_increment && nat_le min_increment 1000000000 && nat_le permille 1000 && nat_le 1 rounds && nat_le rounds 100

-- the rules of a record, or Range
unfoldable pub rules_at : ℕ → Record → Result Rules TableFault
rules_at row fields = do
  form ← shaped tables.Rules row 3 fields
  min_increment ← number_at tables.Rules row fields 0
  permille ← number_at tables.Rules row fields 1
  rounds ← number_at tables.Rules row fields 2
  within ← guard (fault tables.Rules row (kinds.Net Range)) (are_rules min_increment permille rounds)
  Ok (record { min_increment = pos min_increment; permille = permille; rounds = rounds })

-- the rules of the records under the header, which have to be one record: Csv at row 2 without one, and at row 3, after the
-- tests of row 2, with one more
unfoldable pub only_rules : List Record → Result Rules TableFault
only_rules [] = Err (fault tables.Rules 2 kinds.Csv)
only_rules (fields ∷ []) = rules_at 2 fields
only_rules (fields ∷ next ∷ rest) = rules_at 2 fields >>= λ rules. Err (fault tables.Rules 3 kinds.Csv)

-- The rules that a table means, or its first fault.
unfoldable pub rules_of : List ℕ → Result Rules TableFault
rules_of bytes = under_header tables.Rules rules_header (table_records bytes) >>= only_rules
