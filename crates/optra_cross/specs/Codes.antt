-- The numbers that tell rows of crossings, by those of their two uses.
use Rattle.std.proofs.Common.{◌≡◌, ℕ, ◌+◌, ◌-◌, ◌*◌, ◌/◌, ◌%◌, ◌^◌, ◌<◌, ◌≤◌, Bool, true, false, cond, nat_lt, refl, sym, ap, ◌∙◌, arith}
use Rattle.std.specs.Prelude.{Option, Some, None, ◌&&◌}
use Rattle.std.specs.Ordering.{nat_cmp, ordering_then}
use Rattle.std.specs.declared.cmp.Ordering.{Ordering}
use Rattle.std.proofs.lemmas.Bool.{and_parts, ltb-true}
use Rattle.optra_network.specs.declared.TrackId.{TrackId}
use Rattle.optra_network.specs.declared.TypeId.{TypeId}
use Rattle.optra_walk.specs.UseCodes.{has_use_code, use_code, code_kind, code_minute, code_track, IsToldUse, told_use}
use Rattle.optra_walk.specs.Codes.{parts_cmp, some_parts, then_then}
use Rattle.optra_cross.specs.declared.CRow.{CRow}
use Rattle.optra_cross.specs.CrossLemmas.{row_cmp, row_cmp_is}

-- so many numbers
abbrev pub codes : ℕ
codes = 4503599627370496

-- the number of a use of a track: that of the track, and then that of the use among those of the track
abbrev pub visit_code : TrackId → ℕ → TypeId → ℕ
visit_code k m a = k.0 * 65536 + use_code m a

abbrev pub code_of : CRow → Option ℕ
code_of row = cond (has_use_code row.first_track row.first_at row.first && has_use_code row.second_track row.second_at row.second)
    (Some (visit_code row.first_track row.first_at row.first * 67108864 + visit_code row.second_track row.second_at row.second)) None

abbrev pub row_of : ℕ → CRow
row_of code = record {
  first_track = code_track (code / 67108864 / 65536);
  first_at = code_minute (code / 67108864);
  first = code_kind (code / 67108864);
  second_track = code_track (code % 67108864 / 65536);
  second_at = code_minute (code % 67108864);
  second = code_kind (code % 67108864);
}

row_parts : (row : CRow) (code : ℕ) → code_of row ≡ Some code
    → IsToldUse row.first_track row.first_at row.first × IsToldUse row.second_track row.second_at row.second
    × (visit_code row.first_track row.first_at row.first * 67108864 + visit_code row.second_track row.second_at row.second ≡ code)
row_parts row code is =
    let both = some_parts (has_use_code row.first_track row.first_at row.first && has_use_code row.second_track row.second_at row.second) _ code is in
    let parts = and_parts (has_use_code row.first_track row.first_at row.first) (has_use_code row.second_track row.second_at row.second) both.0 in
    (told_use row.first_track row.first_at row.first parts.0, told_use row.second_track row.second_at row.second parts.1, both.1)

-- the number of a use is small, and leads back to its parts
use_small : (k : TrackId) (m : ℕ) (a : TypeId) → IsToldUse k m a → visit_code k m a < 67108864
use_small k m a told = let x = told.track_few in let y = told.minute_few in let z = told.kind_few in omega arith

use_parts : (k : TrackId) (m : ℕ) (a : TypeId) (code : ℕ) → IsToldUse k m a → code ≡ visit_code k m a → (code / 65536 % 1024 ≡ k.0) × (code / 16 % 4096 ≡ m) × (code % 16 ≡ a.0)
use_parts k m a code told is =
    let x = told.track_few in
    let y = told.minute_few in
    let z = told.kind_few in
    let above : code / 65536 ≡ k.0 = omega arith in
    let under : code / 16 ≡ k.0 * 4096 + m = omega arith in
    (omega arith, omega arith, omega arith)

use_cmp : (k : TrackId) (m : ℕ) (a : TypeId) (k' : TrackId) (m' : ℕ) (a' : TypeId) → IsToldUse k m a → IsToldUse k' m' a'
    → nat_cmp (visit_code k m a) (visit_code k' m' a') ≡ ordering_then (nat_cmp k.0 k'.0) (ordering_then (nat_cmp m m') (nat_cmp a.0 a'.0))
use_cmp k m a k' m' a' told told' =
    let x = told.minute_few in
    let y = told.kind_few in
    let z = told'.minute_few in
    let w = told'.kind_few in
    parts_cmp 65536 k.0 (use_code m a) k'.0 (use_code m' a') (omega arith) (omega arith)
    ∙ ap (ordering_then (nat_cmp k.0 k'.0)) (parts_cmp 16 m a.0 m' a'.0 told.kind_few told'.kind_few)

-- ---- the laws
pub few : codes < 2 ^ 64
few = omega arith

pub below : (row : CRow) (code : ℕ) → code_of row ≡ Some code → code < codes
below row code is =
    let p = row_parts row code is in
    let first = use_small row.first_track row.first_at row.first p.0 in
    let second = use_small row.second_track row.second_at row.second p.1 in
    let sum = p.2 in
    omega arith

pub leads_back : (row : CRow) (code : ℕ) → code_of row ≡ Some code → row_of code ≡ row
leads_back row code is =
    let p = row_parts row code is in
    let first = use_small row.first_track row.first_at row.first p.0 in
    let second = use_small row.second_track row.second_at row.second p.1 in
    let sum = p.2 in
    let f = use_parts row.first_track row.first_at row.first (code / 67108864) p.0 (omega arith) in
    let s = use_parts row.second_track row.second_at row.second (code % 67108864) p.1 (omega arith) in
    λ i. record {
      first_track = record { 0 = f.0 i };
      first_at = f.1 i;
      first = record { 0 = f.2 i };
      second_track = record { 0 = s.0 i };
      second_at = s.1 i;
      second = record { 0 = s.2 i };
    }

pub ordered : (a b : CRow) (x y : ℕ) → code_of a ≡ Some x → code_of b ≡ Some y → row_cmp a b ≡ nat_cmp x y
ordered a b x y is is' =
    let p = row_parts a x is in
    let q = row_parts b y is' in
    let first = use_cmp a.first_track a.first_at a.first b.first_track b.first_at b.first p.0 q.0 in
    let second = use_cmp a.second_track a.second_at a.second b.second_track b.second_at b.second p.1 q.1 in
    let f = visit_code a.first_track a.first_at a.first in
    let s = visit_code a.second_track a.second_at a.second in
    let f' = visit_code b.first_track b.first_at b.first in
    let s' = visit_code b.second_track b.second_at b.second in
    let rest = ordering_then (nat_cmp a.second_track.0 b.second_track.0) (ordering_then (nat_cmp a.second_at b.second_at) (nat_cmp a.second.0 b.second.0)) in
    let whole : nat_cmp x y ≡ ordering_then (nat_cmp f f') (nat_cmp s s') =
    sym (ap (λ (n : ℕ). nat_cmp n (f' * 67108864 + s')) p.2 ∙ ap (nat_cmp x) q.2)
    ∙ parts_cmp 67108864 f s f' s' (use_small a.second_track a.second_at a.second p.1) (use_small b.second_track b.second_at b.second q.1)
    in
    row_cmp_is a b
    ∙ sym (whole
    ∙ ap (λ (o : Ordering). ordering_then o (nat_cmp s s')) first
    ∙ ap (ordering_then (ordering_then (nat_cmp a.first_track.0 b.first_track.0) (ordering_then (nat_cmp a.first_at b.first_at) (nat_cmp a.first.0 b.first.0)))) second
    ∙ then_then (nat_cmp a.first_track.0 b.first_track.0) (ordering_then (nat_cmp a.first_at b.first_at) (nat_cmp a.first.0 b.first.0)) rest
    ∙ ap (ordering_then (nat_cmp a.first_track.0 b.first_track.0)) (then_then (nat_cmp a.first_at b.first_at) (nat_cmp a.first.0 b.first.0) rest))
