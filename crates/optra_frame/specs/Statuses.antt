-- The exit statuses.
use Rattle.std.specs.Prelude.{◌≡◌, ◌⊎◌, ℕ}

-- a command did its work, and nothing it printed has a gap
abbrev pub optimal_status : ℕ
optimal_status = 0

-- a command did its work, and a bound that it printed is above its revenue
abbrev pub gap_status : ℕ
gap_status = 1

-- a timetable has no fault
abbrev pub faultless_status : ℕ
faultless_status = 0

-- a timetable has a fault
abbrev pub faulty_status : ℕ
faulty_status = 1

-- a certificate is valid
abbrev pub valid_status : ℕ
valid_status = 0

-- a certificate can't be read, or isn't valid
abbrev pub denied_status : ℕ
denied_status = 4

-- the words are no command form
abbrev pub usage_status : ℕ
usage_status = 2

-- a table is refused
abbrev pub refused_status : ℕ
refused_status = 3

-- a file could not be read
abbrev pub read_status : ℕ
read_status = 5

-- a file isn't there
abbrev pub absent_status : ℕ
absent_status = 6

-- a file could not be put, or the output failed
abbrev pub write_status : ℕ
write_status = 7

-- memory ran out
abbrev pub memory_status : ℕ
memory_status = 8

-- a file is too long
abbrev pub too_long_status : ℕ
too_long_status = 9

-- a journal is refused
abbrev pub journal_status : ℕ
journal_status = 10

-- a call of the disk failed
abbrev pub disk_status : ℕ
disk_status = 11

-- the statuses with which a command refuses the contents of its files, or its journal
abbrev pub IsRefusedStatus : ℕ → Type 0
IsRefusedStatus status = (status ≡ refused_status) ⊎ (status ≡ journal_status)

-- the statuses of a run that did not do its work; a line is said at each
abbrev pub IsFaultStatus : ℕ → Type 0
IsFaultStatus status =
    (status ≡ usage_status) ⊎ IsRefusedStatus status ⊎ (status ≡ read_status) ⊎ (status ≡ absent_status)
    ⊎ (status ≡ write_status) ⊎ (status ≡ memory_status) ⊎ (status ≡ too_long_status) ⊎ (status ≡ disk_status)
