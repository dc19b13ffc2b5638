-- The texts of the rows of two families together.
use Rattle.std.specs.Prelude.{ℕ, nat_le, ◌++◌, Option, None, Some, if◌then◌else◌}
use Rattle.std.specs.Option.{option_map}
use Rattle.optra_rows.specs.declared.joining.Either.{Either}
use Rattle.optra_rows.specs.declared.joining.Either.TheVariants.{First, Second}
use Rattle.optra_rows.specs.Eithers.{either_of}
use Rattle.optra_cert.specs.RowTexts.{RowTexts}
use Rattle.optra_cert.specs.declared.row_text.RowRead.{RowRead}
use Rattle.optra_cert.specs.declared.row_text.RowRead.TheVariants as read

abbrev pub lesser : ℕ → ℕ → ℕ
lesser a b = if nat_le a b then a else b

abbrev pub greater : ℕ → ℕ → ℕ
greater a b = if nat_le a b then b else a

-- the row of the first family, else that of the second
abbrev pub first_or : {P Q : Type 0} → Option P → Option Q → Option (Either P Q)
first_or None second = option_map Second second
first_or (Some row) second = Some (First row)

-- the greater version, and the kinds of both
abbrev pub both_texts : {P Q : Type 0} → RowTexts P → RowTexts Q → RowTexts (Either P Q)
both_texts p q = record {
  version = greater p.version q.version;
  kinds = p.kinds ++ q.kinds;
  told = either_of p.told q.told;
  made = λ word values. first_or (p.made word values) (q.made word values);
}

-- what the second family reads
abbrev pub second_read : {P Q : Type 0} → RowRead Q → RowRead (Either P Q)
second_read (read.Row row) = read.Row (Second row)
second_read read.Kind = read.Kind
second_read read.Name = read.Name
second_read read.Number = read.Number

-- what the first family reads; where it finds no kind, what the second reads
abbrev pub read_either : {P Q : Type 0} → RowRead P → RowRead Q → RowRead (Either P Q)
read_either (read.Row row) second = read.Row (First row)
read_either read.Kind second = second_read second
read_either read.Name second = read.Name
read_either read.Number second = read.Number
