-- What the arcs of one more place ask for.
use Rattle.std.proofs.Common.{◌≡◌, ℕ, zero, suc, ◌+◌, ◌-◌, ◌*◌, ◌%◌, ◌≤◌, ◌<◌, ◌⊎◌, inl, inr, Bool, List, ◌++◌, length, get_or, map, filter, sym, ap, ◌∙◌, subst, arith, All, length-append}
use Rattle.std.proofs.lemmas.Bool.{cases_lt}
use Rattle.std.proofs.lemmas.List.{length-map}
use Rattle.std.proofs.lemmas.List.Sums.{length-filter, count_by-le-length}
use Rattle.std.proofs.Math.Nat.{mul-le-mul_right}
use Rattle.optra_dag.specs.declared.Arc.{Arc}
use Rattle.optra_dag.specs.Paths.{no_arc}
use Rattle.optra_network.specs.Net.{Net, out_tracks_of}
use Rattle.optra_network.specs.declared.StationId.{StationId}
use Rattle.optra_bid.specs.Specs.{Path}
use Rattle.optra_walk.specs.Legs.{dwell_of}
use Rattle.optra_walk.specs.declared.Leg.{Leg}
use Rattle.optra_graph.specs.declared.states.Layout.{Layout}
use Rattle.optra_graph.specs.declared.stepping.Step.{Step}
use Rattle.optra_graph.specs.Arcs.{is_kept, leg_of_step, Emits, IsFew}
use Rattle.optra_graph.specs.Flags.{IsSet}
use Rattle.optra_graph.specs.Nodes.{node_of}
use Rattle.optra_graph.specs.Places.{places_of, state_of, station_at}
use Rattle.optra_graph.specs.Settings.{IsSetting}
use Rattle.optra_graph.specs.Steps.{AreSteps}
use Rattle.optra_graph.proofs.BlockLemmas.{emits_before}
use Rattle.optra_graph.proofs.BoundLemmas.{few_column, few_next, few_room}
use Rattle.optra_graph.proofs.ColumnLemmas.{columns_back}
use Rattle.optra_graph.proofs.FlagLemmas.{default_same}
use Rattle.optra_graph.proofs.NodeLemmas.{kept_less, kept_up}
use Rattle.optra_graph.proofs.PlaceLemmas.{column_of, placed_at}
use Rattle.optra_graph.proofs.ReachLemmas.{forward_at}
use Rattle.optra_graph.proofs.StepLemmas.{dwell_small}

module _ (net : Net) (path : Path) (layout : Layout) (setting : IsSetting net path layout) (flags : List Bool) (place : ℕ) (within : place < places_of layout) where
  -- its steps lead to later nodes, which are at most the end
  pub steps_forward : (steps : List Step) → AreSteps net path layout (state_of layout place) steps → IsSet flags place → All (λ step. node_of flags place < node_of flags step.to) steps
  steps_forward steps all set k d l =
      let f = forward_at net path layout setting place (get_or steps k d) within (all.sound k d l) in
      let u = kept_less flags place (get_or steps k d).to f.0 set in omega arith

  pub steps_nodes : (steps : List Step) (nodes : ℕ) → nodes ≡ node_of flags (places_of layout) + 1 → AreSteps net path layout (state_of layout place) steps → All (λ step. node_of flags step.to < nodes) steps
  steps_nodes steps nodes e all k d l =
      let f = forward_at net path layout setting place (get_or steps k d) within (all.sound k d l) in
      let u = kept_up flags (get_or steps k d).to (places_of layout) f.1 in omega arith

  -- their dwells are below 256
  pub steps_short : (steps : List Step) → AreSteps net path layout (state_of layout place) steps → All (λ step. dwell_of step.leg.action < 256) steps
  steps_short steps all k d l = dwell_small net path layout setting (state_of layout place) (placed_at layout (columns_back net path layout setting) place within) (get_or steps k d) (all.sound k d l)

  -- the arcs so far leave earlier nodes
  pub arcs_sorted : (first arcs : List Arc) (legs : List Leg) → All (λ arc. arc.from ≡ 0) first → Emits net path layout flags place first arcs legs → All (λ before. before.from ≤ node_of flags place) arcs
  arcs_sorted first arcs legs none h k d l =
      let b = emits_before net path layout setting flags first (λ i m. none i no_arc m) place arcs legs h k l in
      let e = ap (λ (a : Arc). a.from) (default_same arcs k d no_arc l) in omega arith

  some_stations : 0 < layout.stations
  some_stations = by (cases_lt 0 layout.stations)
    where
      by : (0 < layout.stations) ⊎ (layout.stations ≤ 0) → 0 < layout.stations
      by (inl l) = l
      by (inr l) = let p : layout.minutes * layout.slots * layout.stations ≡ 0 = zero_product (layout.minutes * layout.slots) layout.stations (omega arith) in absurd (omega arith)
        where
          zero_product : (a b : ℕ) → b ≡ 0 → a * b ≡ 0
          zero_product a b e = ap (λ n. a * n) e ∙ (omega arith)

  module _ (row column count : ℕ) (h : IsFew net.tracks layout place row column count) where
    under : column < layout.stations
    under = few_column net.tracks layout place row column count some_stations h

    -- the station of the place is that of its column
    station_is : (state_of layout place).station ≡ station_at layout column
    station_is = let e : place % layout.stations ≡ column = ap (λ p. p % layout.stations) h.is ∙ column_of row layout.stations column under in ap (station_at layout) e

    few_more : (more : ℕ) → more ≤ 63 * length (out_tracks_of net.tracks (state_of layout place).station) → more ≤ 63 * length (out_tracks_of net.tracks (station_at layout column))
    few_more more l = subst (λ (s : StationId). more ≤ 63 * length (out_tracks_of net.tracks s)) station_is l

    pub legs_few : (steps : List Step) → length steps ≤ 63 * length (out_tracks_of net.tracks (state_of layout place).station) → (legs : List Leg) → count ≡ length legs
        → (r : ℕ) × (c : ℕ) × IsFew net.tracks layout (place + 1) r c (length (legs ++ map leg_of_step (filter (is_kept flags) steps)))
    legs_few steps l legs e =
        let m : length (legs ++ map leg_of_step (filter (is_kept flags) steps)) ≡ count + length (filter (is_kept flags) steps) =
        length-append legs (map leg_of_step (filter (is_kept flags) steps)) ∙ (let g = length-map (filter (is_kept flags) steps) leg_of_step in omega arith) in
        let n = count_by-le-length (is_kept flags) steps in
        let f = length-filter (is_kept flags) steps in
        let w = few_next net path layout setting place row column count (length (filter (is_kept flags) steps)) under (few_more (length (filter (is_kept flags) steps)) (omega arith)) h in
        (w.0, w.1, subst (IsFew net.tracks layout (place + 1) w.0 w.1) (sym m) w.2)

    pub legs_same : (r : ℕ) × (c : ℕ) × IsFew net.tracks layout (place + 1) r c count
    legs_same =
        let w = few_next net path layout setting place row column count 0 under (omega arith) h in
        let e : count + 0 ≡ count = omega arith in
        (w.0, w.1, subst (IsFew net.tracks layout (place + 1) w.0 w.1) e w.2)

    pub arcs_room : (steps : List Step) → length steps ≤ 63 * length (out_tracks_of net.tracks (state_of layout place).station) → (arcs : ℕ) → arcs ≤ 2880 + count → arcs + length steps ≤ 4294967295
    arcs_room steps l arcs le =
        let a : layout.minutes * layout.slots ≤ 2879 * layout.slots = mul-le-mul_right layout.slots setting.small.minutes in
        let slots = setting.small.slots in
        let tracks = setting.proper.built.counts.few_tracks in
        let r = few_room net path layout setting (layout.minutes * layout.slots) place row column count (length steps) within (omega arith) tracks under (few_more (length steps) l) h in
        omega arith

-- with as many arcs at a later place
few_along : (net : Net) (path : Path) (layout : Layout) (setting : IsSetting net path layout) (flags : List Bool) (place count n : ℕ) → place + n ≤ places_of layout
    → (r : ℕ) × (c : ℕ) × IsFew net.tracks layout place r c count → (r : ℕ) × (c : ℕ) × IsFew net.tracks layout (place + n) r c count
few_along net path layout setting flags place count zero l h = let e : place ≡ place + 0 = omega arith in subst (λ p. (r : ℕ) × (c : ℕ) × IsFew net.tracks layout p r c count) e h
few_along net path layout setting flags place count (suc n) l h =
    let w = few_along net path layout setting flags place count n (omega arith) h in
    let e : place + n + 1 ≡ place + suc n = omega arith in
    subst (λ p. (r : ℕ) × (c : ℕ) × IsFew net.tracks layout p r c count) e (legs_same net path layout setting flags (place + n) (omega arith) w.0 w.1 count w.2)

pub few_to : (net : Net) (path : Path) (layout : Layout) (setting : IsSetting net path layout) (flags : List Bool) (place to count : ℕ) → place ≤ to → to ≤ places_of layout
    → (r : ℕ) × (c : ℕ) × IsFew net.tracks layout place r c count → (r : ℕ) × (c : ℕ) × IsFew net.tracks layout to r c count
few_to net path layout setting flags place to count l m h =
    let e : place + (to - place) ≡ to = omega arith in
    subst (λ p. (r : ℕ) × (c : ℕ) × IsFew net.tracks layout p r c count) e (few_along net path layout setting flags place count (to - place) (omega arith) h)
