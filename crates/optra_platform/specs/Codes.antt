-- The numbers that tell rows of platforms.
use Rattle.std.proofs.Common.{◌≡◌, ℕ, ◌+◌, ◌-◌, ◌*◌, ◌/◌, ◌%◌, ◌^◌, ◌<◌, ◌≤◌, Bool, true, false, cond, nat_lt, refl, sym, ap, ◌∙◌, arith, inl, inr}
use Rattle.std.specs.Prelude.{Option, Some, None, ◌&&◌}
use Rattle.std.specs.Ordering.{nat_cmp}
use Rattle.std.proofs.lemmas.Bool.{and_parts, ltb-true}
use Rattle.optra_walk.specs.Codes.{parts_cmp, some_parts}
use Rattle.optra_network.specs.declared.StationId.{StationId}
use Rattle.optra_platform.specs.declared.PRow.{PRow}
use Rattle.optra_platform.specs.PlatformLemmas.{row_cmp, row_cmp_is}

-- so many numbers
abbrev pub codes : ℕ
codes = 268435456

-- a station's minutes one after the other
abbrev pub code_of : PRow → Option ℕ
code_of row = cond (nat_lt row.station.0 65536 && nat_lt row.minute 4096) (Some (row.station.0 * 4096 + row.minute)) None

abbrev pub row_of : ℕ → PRow
row_of code = record { station = record { 0 = code / 4096 % 65536 }; minute = code % 4096 }

-- the parts of a row that has a number
pub row_parts : (row : PRow) (code : ℕ) → code_of row ≡ Some code → (row.station.0 < 65536) × (row.minute < 4096) × (row.station.0 * 4096 + row.minute ≡ code)
row_parts row code is =
    let both = some_parts (nat_lt row.station.0 65536 && nat_lt row.minute 4096) (row.station.0 * 4096 + row.minute) code is in
    let parts = and_parts (nat_lt row.station.0 65536) (nat_lt row.minute 4096) both.0 in
    (ltb-true row.station.0 65536 parts.0, ltb-true row.minute 4096 parts.1, both.1)

pub leads_back : (row : PRow) (code : ℕ) → code_of row ≡ Some code → row_of code ≡ row
leads_back row code is =
    let parts = row_parts row code is in
    let small = parts.0 in
    let low = parts.1 in
    let sum = parts.2 in
    let station : code / 4096 % 65536 ≡ row.station.0 = omega arith in
    let minute : code % 4096 ≡ row.minute = omega arith in
    λ k. record { station = record { 0 = station k }; minute = minute k }

pub ordered : (a b : PRow) (x y : ℕ) → code_of a ≡ Some x → code_of b ≡ Some y → row_cmp a b ≡ nat_cmp x y
ordered a b x y is is' =
    let p = row_parts a x is in
    let q = row_parts b y is' in
    row_cmp_is a b ∙ sym (parts_cmp 4096 a.station.0 a.minute b.station.0 b.minute p.1 q.1) ∙ ap (λ (n : ℕ). nat_cmp n (b.station.0 * 4096 + b.minute)) p.2 ∙ ap (nat_cmp x) q.2

pub below : (row : PRow) (code : ℕ) → code_of row ≡ Some code → code < codes
below row code is = let parts = row_parts row code is in let small = parts.0 in let low = parts.1 in let sum = parts.2 in omega arith

pub few : codes < 2 ^ 64
few = omega arith
