-- The numbers that tables, words and certificates write.
use Rattle.std.specs.Prelude.{ℕ, ◌+◌, ◌-◌, ◌*◌, ◌&&◌, ◌||◌, not, nat_eq, slice_index_or, Bool, List, [], ◌∷◌, length, nat_le, Option, Some, None, if◌then◌else◌}
use Rattle.std.specs.List.{list_all}
use Rattle.std.specs.Char.{is_ascii_digit}

-- a number is 1 to 10 digits, with or without zeros in front
abbrev pub is_number : List ℕ → Bool
is_number text = nat_le 1 (length text) && (nat_le (length text) 10 && list_all is_ascii_digit text)

-- a number as it is printed is `0`, or 1 to 18 digits without a zero in front
abbrev pub is_plain_number : List ℕ → Bool
is_plain_number text =
    nat_le 1 (length text) && nat_le (length text) 18 && list_all is_ascii_digit text && (nat_eq (length text) 1 || not (nat_eq (slice_index_or text 0 0) 48))

-- the number that digits write, after those of n
abbrev pub value_after : ℕ → List ℕ → ℕ
value_after n [] = n
value_after n (digit ∷ rest) = value_after (n * 10 + (digit - 48)) rest

abbrev pub value_of : List ℕ → ℕ
value_of = value_after 0

-- the number of a text, if it is one
unfoldable pub number_of : List ℕ → Option ℕ
number_of text = if is_number text then Some (value_of text) else None

-- the number of a text, if it is one as it is printed
unfoldable pub plain_number_of : List ℕ → Option ℕ
plain_number_of text = if is_plain_number text then Some (value_of text) else None
