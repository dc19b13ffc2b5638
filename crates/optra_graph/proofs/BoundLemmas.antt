-- How many arcs there can be: of a minute, its stops and its mode at most 63 for each track.
use Rattle.std.proofs.Common.{◌≡◌, ℕ, zero, suc, ◌+◌, ◌-◌, ◌*◌, ◌≤◌, ◌<◌, ◌⊎◌, inl, inr, Bool, true, false, cond, List, [], ◌∷◌, ◌++◌, length, get_or, map, filter, refl, ap, ◌∙◌, arith, nat_eq, length-append}
use Rattle.std.specs.List.{range_with_len}
use Rattle.std.specs.Option.{option_map_or}
use Rattle.std.proofs.lemmas.List.FromFn.{filter_of_map_range_with_len_more}
use Rattle.std.proofs.lemmas.Option.{slice_get-get_or}
use Rattle.optra_network.specs.declared.StationId.{StationId}
use Rattle.std.proofs.lemmas.Bool.{cases_lt}
use Rattle.std.proofs.Math.Nat.{mul-le-mul_right}
use Rattle.optra_network.specs.declared.Track.{Track}
use Rattle.optra_network.specs.Net.{Net, leaves, track_id, out_tracks_of}
use Rattle.optra_bid.specs.Specs.{Path}
use Rattle.optra_graph.specs.declared.states.Layout.{Layout}
use Rattle.optra_graph.specs.Arcs.{out_before, stations_to, IsFew}
use Rattle.optra_graph.specs.Places.{station_at}
use Rattle.optra_graph.specs.Settings.{IsSetting}

-- the tracks that leave a station, with one more track
out_more : (tracks : List Track) (s : StationId) (n : ℕ) (d : Track) (b : Bool) → n < length tracks → nat_eq (get_or tracks n d).tail.0 s.0 ≡ b
    → filter (leaves tracks s) (map track_id (range_with_len 0 (n + 1))) ≡ filter (leaves tracks s) (map track_id (range_with_len 0 n)) ++ cond b (track_id n ∷ []) []
out_more tracks s n d b l e =
    let at : leaves tracks s (track_id n) ≡ b = ap (λ o. option_map_or (λ (t : Track). nat_eq t.tail.0 s.0) o false) (slice_get-get_or tracks n d l) ∙ e in
    filter_of_map_range_with_len_more (leaves tracks s) track_id 0 n n (omega arith)
    ∙ ap (λ c. filter (leaves tracks s) (map track_id (range_with_len 0 n)) ++ cond c (track_id n ∷ []) []) at

-- how many of the first tracks leave a station
abbrev leaving : List Track → ℕ → ℕ → ℕ
leaving tracks s n = length (filter (leaves tracks (record { 0 = s })) (map track_id (range_with_len 0 n)))

-- and how many leave one of the first stations
abbrev leaving_before : List Track → ℕ → ℕ → ℕ
leaving_before tracks zero n = 0
leaving_before tracks (suc s) n = leaving_before tracks s n + leaving tracks s n

leaving_none : (tracks : List Track) (s : ℕ) → leaving_before tracks s 0 ≡ 0
leaving_none tracks zero = refl
leaving_none tracks (suc s) = let e = leaving_none tracks s in omega arith

leaving_more : (tracks : List Track) (s n : ℕ) (d : Track) (b : Bool) → n < length tracks → nat_eq (get_or tracks n d).tail.0 s ≡ b → leaving tracks s (n + 1) ≡ leaving tracks s n + length (cond b (track_id n ∷ []) [])
leaving_more tracks s n d b l e = ap length (out_more tracks (record { 0 = s }) n d b l e) ∙ length-append (filter (leaves tracks (record { 0 = s })) (map track_id (range_with_len 0 n))) (cond b (track_id n ∷ []) [])

-- one more track leaves at most one of them
one_more : (tracks : List Track) (s n : ℕ) (d : Track) → n < length tracks
    → (leaving_before tracks s (n + 1) ≤ leaving_before tracks s n + 1) × (s ≤ (get_or tracks n d).tail.0 → leaving_before tracks s (n + 1) ≡ leaving_before tracks s n)
one_more tracks zero n d l = (omega arith, λ _. refl)
one_more tracks (suc s) n d l = by (nat_eq (get_or tracks n d).tail.0 s) refl (one_more tracks s n d l)
  where
    by : (b : Bool) → nat_eq (get_or tracks n d).tail.0 s ≡ b → (leaving_before tracks s (n + 1) ≤ leaving_before tracks s n + 1) × (s ≤ (get_or tracks n d).tail.0 → leaving_before tracks s (n + 1) ≡ leaving_before tracks s n)
        → (leaving_before tracks s (n + 1) + leaving tracks s (n + 1) ≤ leaving_before tracks s n + leaving tracks s n + 1)
        × (suc s ≤ (get_or tracks n d).tail.0 → leaving_before tracks s (n + 1) + leaving tracks s (n + 1) ≡ leaving_before tracks s n + leaving tracks s n)
    by true e (h, w) =
        let m : leaving tracks s (n + 1) ≡ leaving tracks s n + 1 = leaving_more tracks s n d true l e in
        let same : (get_or tracks n d).tail.0 ≡ s = grind arith in
        let k = w (omega arith) in
        (omega arith, λ f. absurd (omega arith))
    by false e (h, w) =
        let m : leaving tracks s (n + 1) ≡ leaving tracks s n + 0 = leaving_more tracks s n d false l e in
        (omega arith, λ f. let k = w (omega arith) in omega arith)

few_leave : (tracks : List Track) (s n : ℕ) → n ≤ length tracks → leaving_before tracks s n ≤ n
few_leave tracks s zero l = let e = leaving_none tracks s in omega arith
few_leave tracks s (suc n) l =
    let h = few_leave tracks s n (omega arith) in
    let m = one_more tracks s n (record { tail = record { 0 = 0 }; head = record { 0 = 0 } }) (omega arith) in
    let a : suc n ≡ n + 1 = omega arith in
    let e = ap (leaving_before tracks s) a in
    omega (arith, m.0, e, h)

out_is : (tracks : List Track) (s : ℕ) → out_before tracks s ≡ leaving_before tracks s (length tracks)
out_is tracks zero = refl
out_is tracks (suc s) = ap (λ n. n + leaving tracks s (length tracks)) (out_is tracks s)

-- all tracks leave but one station each
pub out_few : (tracks : List Track) (s : ℕ) → out_before tracks s ≤ length tracks
out_few tracks s = let e = out_is tracks s in let h = few_leave tracks s (length tracks) (omega arith) in omega arith

-- the tracks that leave one of more stations are no fewer
out_along : (tracks : List Track) (s n : ℕ) → out_before tracks s ≤ out_before tracks (s + n)
out_along tracks s zero = let e : s + 0 ≡ s = omega arith in let f = ap (out_before tracks) e in omega (arith, f)
out_along tracks s (suc n) =
    let h = out_along tracks s n in
    let e : s + suc n ≡ suc (s + n) = omega arith in
    let f = ap (out_before tracks) e in
    omega (arith, h, f)

out_up : (tracks : List Track) (s t : ℕ) → s ≤ t → out_before tracks s ≤ out_before tracks t
out_up tracks s t l =
    let h = out_along tracks s (t - s) in
    let e : s + (t - s) ≡ t = omega arith in
    let f = ap (out_before tracks) e in
    omega (arith, h, f)

pub few_start : (tracks : List Track) (layout : Layout) → IsFew tracks layout 0 0 0 0
few_start tracks layout = record { is = omega arith; within = inr refl; few = omega arith }

-- the column of a place that is there
pub few_column : (tracks : List Track) (layout : Layout) (place row column count : ℕ) → 0 < layout.stations → IsFew tracks layout place row column count → column < layout.stations
few_column tracks layout place row column count some h = by h.within
  where
    by : (column < layout.stations) ⊎ (column ≡ 0) → column < layout.stations
    by (inl l) = l
    by (inr e) = omega arith

module _ (net : Net) (path : Path) (layout : Layout) (setting : IsSetting net path layout) where
  -- the stations of the columns before one come before its station
  stations_up : (column : ℕ) → column < layout.stations → stations_to layout column ≤ (station_at layout column).0
  stations_up zero l = omega arith
  stations_up (suc column) l = let s = setting.laid.stations in let u = setting.columns.listed.rising column (suc column) (omega arith) (omega (arith, s)) in omega (arith, u)

  -- with the tracks of one more station
  out_next : (column : ℕ) → column < layout.stations
      → out_before net.tracks (stations_to layout column) + length (out_tracks_of net.tracks (station_at layout column)) ≤ out_before net.tracks (stations_to layout (suc column))
  out_next column l =
      let u = out_up net.tracks (stations_to layout column) (station_at layout column).0 (stations_up column l) in
      let e : (station_at layout column).0 + 1 ≡ suc (station_at layout column).0 = omega arith in
      let f = ap (out_before net.tracks) e in
      omega (arith, u, f)

  pub few_next : (place row column count more : ℕ) → column < layout.stations → more ≤ 63 * length (out_tracks_of net.tracks (station_at layout column))
      → IsFew net.tracks layout place row column count → (r : ℕ) × (c : ℕ) × IsFew net.tracks layout (place + 1) r c (count + more)
  few_next place row column count more l few h = by (cases_lt (suc column) layout.stations)
    where
      next : out_before net.tracks (stations_to layout column) + length (out_tracks_of net.tracks (station_at layout column)) ≤ out_before net.tracks (stations_to layout (suc column))
      next = out_next column l

      by : (suc column < layout.stations) ⊎ (layout.stations ≤ suc column) → (r : ℕ) × (c : ℕ) × IsFew net.tracks layout (place + 1) r c (count + more)
      by (inl b) = let e = h.is in let f = h.few in let n = next in (row, suc column, record { is = omega arith; within = inl b; few = omega arith })
      by (inr b) =
          let e = h.is in
          let f = h.few in
          let n = next in
          let full : suc column ≡ layout.stations = omega arith in
          let s : suc row * layout.stations ≡ row * layout.stations + layout.stations = omega arith in
          let t : suc row * length net.tracks ≡ row * length net.tracks + length net.tracks = omega arith in
          let u = out_few net.tracks (stations_to layout (suc column)) in
          (suc row, 0, record { is = omega arith; within = inr refl; few = omega arith })

  -- so arcs always have a number
  pub few_room : (rows place row column count more : ℕ) → place < rows * layout.stations → rows ≤ 51822 → length net.tracks ≤ 1000 → column < layout.stations
      → more ≤ 63 * length (out_tracks_of net.tracks (station_at layout column)) → IsFew net.tracks layout place row column count → 2880 + count + more ≤ 4294967295
  few_room rows place row column count more b small few l m h =
      let e = h.is in
      let f = h.few in
      let n = out_next column l in
      let u = out_few net.tracks (stations_to layout (suc column)) in
      let r = under in
      let p : suc row * length net.tracks ≤ 51822 * length net.tracks = mul-le-mul_right (length net.tracks) (omega arith) in
      let t : suc row * length net.tracks ≡ row * length net.tracks + length net.tracks = omega arith in
      omega arith
    where
      under : row < rows
      under = by (cases_lt row rows)
        where
          by : (row < rows) ⊎ (rows ≤ row) → row < rows
          by (inl k) = k
          by (inr k) = let q : rows * layout.stations ≤ row * layout.stations = mul-le-mul_right layout.stations k in let e = h.is in absurd (omega arith)
