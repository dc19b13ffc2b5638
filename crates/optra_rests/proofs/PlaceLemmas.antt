-- A state is found again at its place, and a later state has a later place.
use Rattle.std.proofs.Common.{◌≡◌, ℕ, zero, suc, ◌+◌, ◌-◌, ◌*◌, ◌/◌, ◌%◌, ◌≤◌, ◌<◌, Bool, true, false, nat_eq, ap, ◌∙◌, sym, refl, arith}
use Rattle.std.proofs.lemmas.Nat.{div-mul-add, div-add-mod'}
use Rattle.std.proofs.Math.Nat.{mul-le-mul_right}
use Rattle.optra_walk.specs.declared.state.State.{State}
use Rattle.optra_rests.specs.declared.states.Layout.{Layout}
use Rattle.optra_rests.specs.Places.{mode_of, slot_of, spot_at, place_of, places_of, state_of, IsPlaced}

div_part : (q n r : ℕ) → r < n → (q * n + r) / n ≡ q
div_part q n r l = div-mul-add q n r l

mod_part : (q n r : ℕ) → r < n → (q * n + r) % n ≡ r
mod_part q n r l =
    let d = div-add-mod' (q * n + r) n in
    let e = ap (λ t. t * n) (div_part q n r l) in
    omega (arith, d, e)

-- a row and a column of a table come before its end
pub below_product : (a m b n : ℕ) → a < m → b < n → a * n + b < m * n
below_product a m b n h l = let k : suc a * n ≤ m * n = mul-le-mul_right n h in let e : suc a * n ≡ a * n + n = omega arith in omega (arith, k)

-- what comes before the end of a table has a row of it
pub row_below : (p m n : ℕ) → p < m * n → p / n < m
row_below p m n l = grind arith

pub column_below : (p m n : ℕ) → p < m * n → p % n < n
column_below p m zero l = omega arith
column_below p m (suc n) l = omega arith

mode_back : (r : ℕ) → r < 2 → mode_of (nat_eq r 1) ≡ r
mode_back zero l = refl
mode_back (suc zero) l = refl
mode_back (suc (suc n)) l = absurd (omega arith)

halted_back : (d : ℕ) (b : Bool) → nat_eq ((d * 2 + mode_of b) % 2) 1 ≡ b
halted_back d true = let e : (d * 2 + 1) % 2 ≡ 1 = omega arith in ap (λ n. nat_eq n 1) e
halted_back d false = let e : (d * 2 + 0) % 2 ≡ 0 = omega arith in ap (λ n. nat_eq n 1) e

done_back : (d : ℕ) (b : Bool) → (d * 2 + mode_of b) / 2 ≡ d
done_back d true = omega arith
done_back d false = omega arith

pub state_back : (layout : Layout) (s : State) → IsPlaced layout s → state_of layout (place_of layout s) ≡ s
state_back layout s h =
    let spot : ℕ = (s.minute - layout.first) * layout.stations + s.station.0 in
    let q : place_of layout s / layout.slots ≡ spot = div_part spot layout.slots (slot_of s) h.done in
    let r : place_of layout s % layout.slots ≡ slot_of s = mod_part spot layout.slots (slot_of s) h.done in
    let row : spot / layout.stations ≡ s.minute - layout.first = div_part (s.minute - layout.first) layout.stations s.station.0 h.station in
    let col : spot % layout.stations ≡ s.station.0 = mod_part (s.minute - layout.first) layout.stations s.station.0 h.station in
    let halted : nat_eq (place_of layout s % layout.slots % 2) 1 ≡ s.halted = ap (λ i. nat_eq (i % 2) 1) r ∙ halted_back s.done s.halted in
    let done : place_of layout s % layout.slots / 2 ≡ s.done = ap (λ i. i / 2) r ∙ done_back s.done s.halted in
    let station : place_of layout s / layout.slots % layout.stations ≡ s.station.0 = ap (λ i. i % layout.stations) q ∙ col in
    let early = h.early in
    let minute : layout.first + place_of layout s / layout.slots / layout.stations ≡ s.minute = ap (λ i. layout.first + i / layout.stations) q ∙ ap (λ i. layout.first + i) row ∙ (omega arith) in
    λ i. record { station = record { 0 = station i }; minute = minute i; halted = halted i; done = done i }

-- two states at one place are the same
pub one_place : (layout : Layout) (a b : State) → IsPlaced layout a → IsPlaced layout b → place_of layout a ≡ place_of layout b → a ≡ b
one_place layout a b h k e = sym (state_back layout a h) ∙ ap (state_of layout) e ∙ state_back layout b k

pub spot_below : (layout : Layout) (s : State) → IsPlaced layout s → (s.minute - layout.first) * layout.stations + s.station.0 < layout.minutes * layout.stations
spot_below layout s h = let e = h.early in let l = h.late in
    below_product (s.minute - layout.first) layout.minutes s.station.0 layout.stations (omega arith) h.station

pub place_below : (layout : Layout) (s : State) → IsPlaced layout s → place_of layout s < places_of layout
place_below layout s h = below_product ((s.minute - layout.first) * layout.stations + s.station.0) (layout.minutes * layout.stations) (slot_of s) layout.slots (spot_below layout s h) h.done

pub place_later : (layout : Layout) (a b : State) → IsPlaced layout a → IsPlaced layout b → a.minute < b.minute → place_of layout a < place_of layout b
place_later layout a b ha hb l =
    let ea = ha.early in
    let s : (a.minute - layout.first) * layout.stations + a.station.0 < (b.minute - layout.first) * layout.stations =
    below_product (a.minute - layout.first) (b.minute - layout.first) a.station.0 layout.stations (omega arith) ha.station in
    let t : (a.minute - layout.first) * layout.stations + a.station.0 < (b.minute - layout.first) * layout.stations + b.station.0 = omega (arith, s) in
    let p = below_product ((a.minute - layout.first) * layout.stations + a.station.0) ((b.minute - layout.first) * layout.stations + b.station.0) (slot_of a) layout.slots t ha.done in
    omega (arith, p)

-- a state whose place is one of a spot's is of that spot
pub of_spot : (layout : Layout) (s : State) (minute station : ℕ) → IsPlaced layout s → station < layout.stations
    → spot_at layout minute station ≤ place_of layout s → place_of layout s < spot_at layout minute (station + 1)
    → (s.minute - layout.first ≡ minute) × (s.station.0 ≡ station)
of_spot layout s minute station h within from to =
    let spot : ℕ = (s.minute - layout.first) * layout.stations + s.station.0 in
    let given : ℕ = minute * layout.stations + station in
    let q : place_of layout s / layout.slots ≡ spot = div_part spot layout.slots (slot_of s) h.done in
    let rest : ℕ = place_of layout s - given * layout.slots in
    let small : rest < layout.slots = omega arith in
    let whole : given * layout.slots + rest ≡ place_of layout s = omega arith in
    let p : (given * layout.slots + rest) / layout.slots ≡ given = div_part given layout.slots rest small in
    let same : spot ≡ given = sym q ∙ ap (λ i. i / layout.slots) (sym whole) ∙ p in (
      sym (div_part (s.minute - layout.first) layout.stations s.station.0 h.station) ∙ ap (λ i. i / layout.stations) same ∙ div_part minute layout.stations station within,
      sym (mod_part (s.minute - layout.first) layout.stations s.station.0 h.station) ∙ ap (λ i. i % layout.stations) same ∙ mod_part minute layout.stations station within,
    )

pub mode_at : (r : ℕ) → r / 2 * 2 + mode_of (nat_eq (r % 2) 1) ≡ r
mode_at r = let m = mode_back (r % 2) (omega arith) in omega (arith, m)
