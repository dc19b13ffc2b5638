-- Strips follow one another, and tell the states at their places.
use Rattle.std.proofs.Common.{◌≡◌, ℕ, ◌+◌, ◌-◌, ◌*◌, ◌/◌, ◌%◌, ◌<◌, suc, nat_eq, ap, sym, ◌∙◌, arith}
use Rattle.optra_walk.specs.declared.state.State.{State}
use Rattle.optra_graph.specs.declared.states.Layout.{Layout}
use Rattle.optra_graph.specs.declared.strip.Strip.{Strip}
use Rattle.optra_graph.specs.Places.{places_of, state_of, station_at}
use Rattle.optra_graph.specs.Strips.{IsStrip, IsWithin}
use Rattle.optra_graph.proofs.PlaceLemmas.{column_below, div_part, mod_part, row_below}

-- where there are places there are columns
pub some_column : (layout : Layout) (place : ℕ) → place < places_of layout → 0 < layout.stations
some_column layout place l = let c = column_below place (layout.minutes * layout.slots) layout.stations l in omega (arith, c)

module _ (layout : Layout) (strip : Strip) (h : IsStrip layout strip) where
  -- the number of the strip
  abbrev row : ℕ
  row = (strip.minute - layout.first) * layout.slots + strip.slot

  parts : (place : ℕ) → IsWithin layout strip place → place ≡ row * layout.stations + (place - strip.start)
  parts place w = let s = h.start in let f = w.from in omega (arith, s, f)

  row_at : (place : ℕ) → IsWithin layout strip place → place / layout.stations ≡ row
  row_at place w = let t = w.to in let f = w.from in
      ap (λ p. p / layout.stations) (parts place w) ∙ div_part row layout.stations (place - strip.start) (omega (arith, t, f))

  column_at : (place : ℕ) → IsWithin layout strip place → place % layout.stations ≡ place - strip.start
  column_at place w = let t = w.to in let f = w.from in
      ap (λ p. p % layout.stations) (parts place w) ∙ mod_part row layout.stations (place - strip.start) (omega (arith, t, f))

  minute_at : row / layout.slots ≡ strip.minute - layout.first
  minute_at = div_part (strip.minute - layout.first) layout.slots strip.slot h.slot

  slot_at : row % layout.slots ≡ strip.slot
  slot_at = mod_part (strip.minute - layout.first) layout.slots strip.slot h.slot

  -- the state at a place of the strip
  pub strip_state : (place : ℕ) → IsWithin layout strip place
      → (let s : State = record { station = station_at layout (place - strip.start); minute = strip.minute; halted = nat_eq (strip.slot % 2) 1; done = strip.slot / 2 } in s) ≡ state_of layout place
  strip_state place w =
      let q = row_at place w in
      let station : station_at layout (place % layout.stations) ≡ station_at layout (place - strip.start) = ap (station_at layout) (column_at place w) in
      let halted : nat_eq (place / layout.stations % layout.slots % 2) 1 ≡ nat_eq (strip.slot % 2) 1 = ap (λ i. nat_eq (i % layout.slots % 2) 1) q ∙ ap (λ i. nat_eq (i % 2) 1) slot_at in
      let done : place / layout.stations % layout.slots / 2 ≡ strip.slot / 2 = ap (λ i. i % layout.slots / 2) q ∙ ap (λ i. i / 2) slot_at in
      let early = h.early in
      let minute : layout.first + place / layout.stations / layout.slots ≡ strip.minute = ap (λ i. layout.first + i / layout.slots) q ∙ ap (λ i. layout.first + i) minute_at ∙ (omega (arith, early)) in
      sym (λ i. record { station = station i; minute = minute i; halted = halted i; done = done i })

  -- a strip of places has a minute that there is
  pub minute_within : strip.start < places_of layout → strip.minute < layout.first + layout.minutes
  minute_within l =
      let some = some_column layout strip.start l in
      let q = row_at strip.start (record { from = omega arith; to = omega (arith, some) }) in
      let r = row_below strip.start (layout.minutes * layout.slots) layout.stations l in
      let m = row_below row layout.minutes layout.slots (omega (arith, q, r)) in
      let e = h.early in
      let t = minute_at in
      omega (arith, m, e, t)

  -- the first strip of the next minute
  pub minute_next : strip.slot + 1 ≡ layout.slots → strip.start < places_of layout
      → IsStrip layout (record { start = strip.start + layout.stations; minute = strip.minute + 1; slot = 0 })
  minute_next e l = record {
    early = let f = h.early in omega (arith, f);
    late = let m = minute_within l in omega (arith, m);
    slot = omega (arith, e);
    start = let s = h.start in let t : (row + 1) * layout.stations ≡ row * layout.stations + layout.stations = omega arith in
        (omega (arith, s, t)) ∙ ap (λ q. q * layout.stations) rows;
  }
    where
      rows : row + 1 ≡ (strip.minute + 1 - layout.first) * layout.slots + 0
      rows =
          let f = h.early in
          let m : strip.minute + 1 - layout.first ≡ suc (strip.minute - layout.first) = omega (arith, f) in
          let p : suc (strip.minute - layout.first) * layout.slots ≡ (strip.minute - layout.first) * layout.slots + layout.slots = omega arith in
          let r = ap (λ n. n * layout.slots) m in
          omega (arith, p, r, e)
