-- What a printer has printed, over the writer of `csv`.
use Rattle.std.specs.Prelude.{◌≡◌, Bool, true, false, ℕ, List, [], Some, unwrap_or}
use Rattle.std.specs.Global.{Vec}
use Rattle.csv.specs.Writing.{default_writer, fields_written, has_written, text_written, with_flexible, writer_setup}
use Rattle.csv.specs.declared.writer.Writer.{Writer}

abbrev pub printed : Writer (Vec ℕ) → List ℕ
printed writer = unwrap_or (text_written (λ v. Some v.items) writer) []

-- a writer stands between two records
pub record IsBetween (writer : Writer (Vec ℕ)) : Type 0 where
  pub fields : fields_written writer ≡ 0
  pub wrote : has_written writer ≡ false
  pub setup : writer_setup writer ≡ with_flexible default_writer true

-- it does so until it was lost
abbrev pub IsWhole : Bool → Writer (Vec ℕ) → Type 0
IsWhole lost writer = lost ≡ false → IsBetween writer
