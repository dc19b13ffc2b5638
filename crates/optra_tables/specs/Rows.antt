-- The records of a table under its header.
use Rattle.std.specs.Prelude.{ℕ, List, Result}
use Rattle.optra_records.specs.Reading.{Record}
use Rattle.optra_records.specs.Tables.{rows_under, table_of}
use Rattle.optra_tables.specs.Outcomes.{fault}
use Rattle.optra_tables.specs.declared.Kind.TheVariants as kinds
use Rattle.optra_tables.specs.declared.Table.{Table}
use Rattle.optra_tables.specs.declared.TableFault.{TableFault}

-- the records after the header, which is row 1, or Header
abbrev pub under_header : Table → Record → List Record → Result (List Record) TableFault
under_header table header rows = rows_under (fault table 1 kinds.Header) header rows

-- What is known after a table, or its first fault but for those of the whole table.
abbrev pub table_read : {K : Type 0} (step : K → ℕ → Record → Result K TableFault) → Table → Record → K → List ℕ → Result K TableFault
table_read step table header known bytes = table_of step (fault table 1 kinds.Header) header known bytes
