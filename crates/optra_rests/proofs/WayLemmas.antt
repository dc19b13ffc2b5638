-- What a network tells of the ways that leave a station.
use Rattle.std.proofs.Common.{◌≡◌, ℕ, zero, suc, ◌+◌, ◌≤◌, ◌<◌, Bool, true, false, List, [], ◌∷◌, length, get_or, map, filter, Option, None, Some, IsSome, IfSome, slice_get, refl, sym, ap, ◌∙◌, subst, arith, Contains, nat_eq, eq-eqb, cond, zero-add}
use Rattle.std.specs.List.{range_with_len}
use Rattle.std.specs.Option.{option_map, option_map_or}
use Rattle.std.proofs.lemmas.Option.{slice_get_within, get_or_from_slice_get}
use Rattle.optra_network.specs.Net.{Net, IsProper, IsRunningRow, AreTimes, times_of, minutes_by, leaves, track_id, out_tracks_of}
use Rattle.optra_network.specs.declared.StationId.{StationId}
use Rattle.optra_network.specs.declared.TrackId.{TrackId}
use Rattle.optra_network.specs.declared.TypeId.{TypeId}
use Rattle.optra_network.specs.declared.Times.{Times}
use Rattle.optra_network.specs.declared.Track.{Track}
use Rattle.std.proofs.lemmas.List.FromFn.{length-map-range_with_len, get_or-map-range_with_len}
use Rattle.std.proofs.lemmas.List.Elements.{filter_passes}
use Rattle.optra_network.proofs.NetLemmas.{times_built}

minutes_within : (times : Times) → AreTimes times → (a b : Bool) → (1 ≤ minutes_by a b times) × (minutes_by a b times ≤ 240)
minutes_within times h true true = h.halt_halt
minutes_within times h true false = h.halt_pass
minutes_within times h false true = h.pass_halt
minutes_within times h false false = h.pass_pass

-- running times are 1 to 240
pub run_within : (net : Net) (track : TrackId) (kind : TypeId) (a b : Bool) (m : ℕ) → IsProper net → option_map (minutes_by a b) (times_of net track kind) ≡ Some m → (1 ≤ m) × (m ≤ 240)
run_within net track kind a b m proper e = by (times_of net track kind) (times_built net track kind proper.built) e
  where
    by : (o : Option Times) → IfSome o (λ times. IsRunningRow (length net.tracks) (length net.types) ((track.0, kind.0), times)) → option_map (minutes_by a b) o ≡ Some m → (1 ≤ m) × (m ≤ 240)
    by None h e = cc
    by (Some times) h e =
        let w = minutes_within times h.2 a b in
        let s : minutes_by a b times ≡ m = cc in
        (omega (arith, w.0), omega (arith, w.1))

-- the type may use the track where it has a running time, and not where it has none
pub run_some : (o : Option Times) (a b : Bool) (m : ℕ) → option_map (minutes_by a b) o ≡ Some m → IsSome o
run_some None a b m e = cc
run_some (Some times) a b m e = refl

-- the arrival is the departure plus the running time
pub run_arrival : (o : Option Times) (a b : Bool) (m depart : ℕ) → option_map (minutes_by a b) o ≡ Some m → option_map (λ times. depart + minutes_by a b times) o ≡ Some (depart + m)
run_arrival None a b m depart e = cc
run_arrival (Some times) a b m depart e = let s : minutes_by a b times ≡ m = cc in ap (λ n. Some (depart + n)) s

pub track_within : (net : Net) (track : TrackId) (s : StationId) → option_map (λ (t : Track). t.tail) (slice_get net.tracks track.0) ≡ Some s → track.0 < length net.tracks
track_within net track s e = by (slice_get net.tracks track.0) refl e
  where
    by : (o : Option Track) → slice_get net.tracks track.0 ≡ o → option_map (λ (t : Track). t.tail) o ≡ Some s → track.0 < length net.tracks
    by None n e = cc
    by (Some t) n e = slice_get_within net.tracks track.0 t n

-- ---- the tracks that leave a station ascend, and are all of them

-- the head of a track is a station
pub head_within : (net : Net) (n : ℕ) (h : StationId) → IsProper net → option_map (λ (t : Track). t.head) (slice_get net.tracks n) ≡ Some h → h.0 < length net.stations
head_within net n h proper e = by (slice_get net.tracks n) refl e
  where
    by : (o : Option Track) → slice_get net.tracks n ≡ o → option_map (λ (t : Track). t.head) o ≡ Some h → h.0 < length net.stations
    by None m f = cc
    by (Some t) m f =
        let l = slice_get_within net.tracks n t m in
        let ends = proper.built.ends n t l in
        let same : get_or net.tracks n t ≡ t = get_or_from_slice_get net.tracks n t t m in
        let e : t.head ≡ h = cc in
        let below = ends.1 in
        omega (arith, ap (λ (t : Track). t.head.0) same, ap (λ (s : StationId). s.0) e, below)

-- a track that leaves the station has it as its tail, and the other way round
pub leaves_tail : (tracks : List Track) (s : StationId) (t : TrackId) → leaves tracks s t ≡ true → option_map (λ (x : Track). x.tail) (slice_get tracks t.0) ≡ Some s
leaves_tail tracks s t e = by (slice_get tracks t.0) e
  where
    by : (o : Option Track) → option_map_or (λ (x : Track). nat_eq x.tail.0 s.0) o false ≡ true → option_map (λ (x : Track). x.tail) o ≡ Some s
    by None e = cc
    by (Some x) e = let same : x.tail.0 ≡ s.0 = grind arith in λ i. Some (record { 0 = same i })

pub tail_leaves : (tracks : List Track) (s : StationId) (t : TrackId) → option_map (λ (x : Track). x.tail) (slice_get tracks t.0) ≡ Some s → leaves tracks s t ≡ true
tail_leaves tracks s t e = by (slice_get tracks t.0) e
  where
    by : (o : Option Track) → option_map (λ (x : Track). x.tail) o ≡ Some s → option_map_or (λ (x : Track). nat_eq x.tail.0 s.0) o false ≡ true
    by None e = cc
    by (Some x) e = let same : x.tail ≡ s = cc in let n : x.tail.0 ≡ s.0 = ap (λ (y : StationId). y.0) same in eq-eqb x.tail.0 s.0 n

pub contains_filter : {X : Type 0} (p : X → Bool) (xs : List X) (x : X) (k : ℕ) → k < length xs → get_or xs k x ≡ x → p x ≡ true → Contains (filter p xs) x
contains_filter p [] x k l e q = absurd (omega arith)
contains_filter {X = X} p (y ∷ ys) x zero l e q = subst (λ (b : Bool). Contains (cond b (y ∷ filter p ys) (filter p ys)) x) (sym (ap p e ∙ q)) (0, omega arith, e)
contains_filter {X = X} p (y ∷ ys) x (suc k) l e q = by (p y) (contains_filter p ys x k (omega arith) e q)
  where
    by : (b : Bool) → Contains (filter p ys) x → Contains (cond b (y ∷ filter p ys) (filter p ys)) x
    by true (j, m, f) = (suc j, omega arith, f)
    by false h = h

pub out_contains : (net : Net) (s : StationId) (t : TrackId) → option_map (λ (x : Track). x.tail) (slice_get net.tracks t.0) ≡ Some s → Contains (out_tracks_of net.tracks s) t
out_contains net s t e =
    let l = track_within net t s e in
    contains_filter (leaves net.tracks s) (map track_id (range_with_len 0 (length net.tracks))) t t.0
    (subst (λ n. t.0 < n) (sym (length-map-range_with_len track_id 0 (length net.tracks))) l)
    (get_or-map-range_with_len track_id 0 (length net.tracks) t.0 t.0 t l (zero-add t.0)) (tail_leaves net.tracks s t e)

pub out_tail : (net : Net) (s : StationId) (k : ℕ) (d : TrackId) → k < length (out_tracks_of net.tracks s) → option_map (λ (x : Track). x.tail) (slice_get net.tracks (get_or (out_tracks_of net.tracks s) k d).0) ≡ Some s
out_tail net s k d l = leaves_tail net.tracks s (get_or (out_tracks_of net.tracks s) k d) (filter_passes (leaves net.tracks s) (map track_id (range_with_len 0 (length net.tracks))) k d l)
