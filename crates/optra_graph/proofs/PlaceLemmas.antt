-- A state is found again at its place, and a later state has a later place.
use Rattle.std.proofs.Common.{◌≡◌, ℕ, zero, suc, ◌+◌, ◌-◌, ◌*◌, ◌/◌, ◌%◌, ◌≤◌, ◌<◌, Bool, true, false, nat_eq, ap, ◌∙◌, refl, arith}
use Rattle.std.proofs.lemmas.Nat.{div-mul-add, div-add-mod'}
use Rattle.std.proofs.Math.Nat.{mul-le-mul_right}
use Rattle.optra_walk.specs.declared.state.State.{State}
use Rattle.optra_graph.specs.declared.states.Layout.{Layout}
use Rattle.optra_graph.specs.Places.{column_at, mode_of, slot_of, place_of, places_of, state_of, station_at, HasColumns, IsPlaced}

pub div_part : (q n r : ℕ) → r < n → (q * n + r) / n ≡ q
div_part q n r l = div-mul-add q n r l

pub mod_part : (q n r : ℕ) → r < n → (q * n + r) % n ≡ r
mod_part q n r l =
    let d = div-add-mod' (q * n + r) n in
    let e = ap (λ t. t * n) (div_part q n r l) in
    omega (arith, d, e)

-- a row and a column of a table come before its end
pub below_product : (a m b n : ℕ) → a < m → b < n → a * n + b < m * n
below_product a m b n h l = let k : suc a * n ≤ m * n = mul-le-mul_right n h in let e : suc a * n ≡ a * n + n = omega arith in omega (arith, k)

-- what comes before the end of a table has a row of it
pub row_below : (p m n : ℕ) → p < m * n → p / n < m
row_below p m n l = grind arith

pub column_below : (p m n : ℕ) → p < m * n → p % n < n
column_below p m zero l = omega arith
column_below p m (suc n) l = omega arith

mode_back : (r : ℕ) → r < 2 → mode_of (nat_eq r 1) ≡ r
mode_back zero l = refl
mode_back (suc zero) l = refl
mode_back (suc (suc n)) l = absurd (omega arith)

halted_back : (d : ℕ) (b : Bool) → nat_eq ((d * 2 + mode_of b) % 2) 1 ≡ b
halted_back d true = let e : (d * 2 + 1) % 2 ≡ 1 = omega arith in ap (λ n. nat_eq n 1) e
halted_back d false = let e : (d * 2 + 0) % 2 ≡ 0 = omega arith in ap (λ n. nat_eq n 1) e

done_back : (d : ℕ) (b : Bool) → (d * 2 + mode_of b) / 2 ≡ d
done_back d true = omega arith
done_back d false = omega arith

pub state_back : (layout : Layout) (s : State) → IsPlaced layout s → state_of layout (place_of layout s) ≡ s
state_back layout s h =
    let q : place_of layout s / layout.stations ≡ slot_of layout s = div_part (slot_of layout s) layout.stations (column_at layout s.station) h.station.within in
    let r : place_of layout s % layout.stations ≡ column_at layout s.station = mod_part (slot_of layout s) layout.stations (column_at layout s.station) h.station.within in
    let station : station_at layout (place_of layout s % layout.stations) ≡ s.station = ap (station_at layout) r ∙ h.station.back in
    let row : slot_of layout s / layout.slots ≡ s.minute - layout.first = div_part (s.minute - layout.first) layout.slots (s.done * 2 + mode_of s.halted) h.done in
    let col : slot_of layout s % layout.slots ≡ s.done * 2 + mode_of s.halted = mod_part (s.minute - layout.first) layout.slots (s.done * 2 + mode_of s.halted) h.done in
    let halted : nat_eq (place_of layout s / layout.stations % layout.slots % 2) 1 ≡ s.halted = ap (λ i. nat_eq (i % layout.slots % 2) 1) q ∙ ap (λ i. nat_eq (i % 2) 1) col ∙ halted_back s.done s.halted in
    let done : place_of layout s / layout.stations % layout.slots / 2 ≡ s.done = ap (λ i. i % layout.slots / 2) q ∙ ap (λ i. i / 2) col ∙ done_back s.done s.halted in
    let early = h.early in
    let minute : layout.first + place_of layout s / layout.stations / layout.slots ≡ s.minute = ap (λ i. layout.first + i / layout.slots) q ∙ ap (λ i. layout.first + i) row ∙ (omega arith) in
    λ i. record { station = station i; minute = minute i; halted = halted i; done = done i }

pub slot_below : (layout : Layout) (s : State) → IsPlaced layout s → slot_of layout s < layout.minutes * layout.slots
slot_below layout s h = let e = h.early in let l = h.late in
    below_product (s.minute - layout.first) layout.minutes (s.done * 2 + mode_of s.halted) layout.slots (omega arith) h.done

pub place_below : (layout : Layout) (s : State) → IsPlaced layout s → place_of layout s < places_of layout
place_below layout s h = below_product (slot_of layout s) (layout.minutes * layout.slots) (column_at layout s.station) layout.stations (slot_below layout s h) h.station.within

pub place_later : (layout : Layout) (a b : State) → IsPlaced layout a → IsPlaced layout b → a.minute < b.minute → place_of layout a < place_of layout b
place_later layout a b ha hb l =
    let ea = ha.early in
    let s : slot_of layout a < (b.minute - layout.first) * layout.slots =
    below_product (a.minute - layout.first) (b.minute - layout.first) (a.done * 2 + mode_of a.halted) layout.slots (omega arith) ha.done in
    let t : slot_of layout a < slot_of layout b = omega (arith, s) in
    let p : place_of layout a < slot_of layout b * layout.stations = below_product (slot_of layout a) (slot_of layout b) (column_at layout a.station) layout.stations t ha.station.within in
    omega (arith, p)

pub placed_at : (layout : Layout) → HasColumns layout → (place : ℕ) → place < places_of layout → IsPlaced layout (state_of layout place)
placed_at layout columns place l =
    let row = row_below place (layout.minutes * layout.slots) layout.stations l in
    let minute = row_below (place / layout.stations) layout.minutes layout.slots row in
    let col = column_below (place / layout.stations) layout.minutes layout.slots row in
    let mode : mode_of (nat_eq (place / layout.stations % layout.slots % 2) 1) ≡ place / layout.stations % layout.slots % 2 = mode_back (place / layout.stations % layout.slots % 2) (omega arith) in
    record {
      early = omega arith;
      late = omega (arith, minute);
      done = omega (arith, mode, col);
      station = (columns (place % layout.stations) (column_below place (layout.minutes * layout.slots) layout.stations l)).0;
    }

mode_at : (r : ℕ) → r / 2 * 2 + mode_of (nat_eq (r % 2) 1) ≡ r
mode_at r = let m = mode_back (r % 2) (omega arith) in omega (arith, m)

-- and a place is that of its state
pub place_back : (layout : Layout) → HasColumns layout → (place : ℕ) → place < places_of layout → place_of layout (state_of layout place) ≡ place
place_back layout columns place l =
    let d = div-add-mod' place layout.stations in
    let e = div-add-mod' (place / layout.stations) layout.slots in
    let m = mode_at (place / layout.stations % layout.slots) in
    let first : layout.first + place / layout.stations / layout.slots - layout.first ≡ place / layout.stations / layout.slots = omega arith in
    let slot : slot_of layout (state_of layout place) ≡ place / layout.stations = (λ i. first i * layout.slots + m i) ∙ e in
    let column = (columns (place % layout.stations) (column_below place (layout.minutes * layout.slots) layout.stations l)).1 in
    (λ i. slot i * layout.stations + column i) ∙ d

pub column_of : (row n column : ℕ) → column < n → (row * n + column) % n ≡ column
column_of row n column l = mod_part row n column l
