-- The texts of rows of platforms: halt,<station>,<minute>.
use Rattle.std.specs.Prelude.{ℕ, List, [], ◌∷◌, Option, None, Some, codes}
use Rattle.optra_cert.specs.Columns.{a_station, a_number}
use Rattle.optra_cert.specs.OneKind.{one_kind_texts}
use Rattle.optra_cert.specs.RowTexts.{RowKind, RowTexts}
use Rattle.optra_platform.specs.declared.PRow.{PRow}

abbrev pub halt_kind : RowKind
halt_kind = record { word = codes "halt"; version = 2; columns = a_station ∷ a_number 0 2998 ∷ [] }

-- the numbers of a row, from left to right
abbrev pub halt_values : PRow → List ℕ
halt_values row = row.station.0 ∷ row.minute ∷ []

abbrev pub halt_of : List ℕ → Option PRow
halt_of (station ∷ minute ∷ []) = Some (record { station = record { 0 = station }; minute = minute })
halt_of _ = None

-- the texts of rows of platforms, of version 2
abbrev pub platform_texts : RowTexts PRow
platform_texts = one_kind_texts halt_kind halt_values halt_of
