-- What a network and a builder keep.
use Rattle.std.proofs.Common.{◌≡◌, ℕ, ◌+◌, ◌<◌, Bool, true, false, cond, ◌||◌, not, is_some, rules, List, [], ◌∷◌, ◌++◌, length, All, Some, None, Option, IfSome, IsSome, refl, sym, ap, ◌∙◌, subst, arith, length-append, IsTrue, zero, suc, ◌≤◌, nat_eq, eq-eqb, eqb-true}
use Rattle.std.proofs.lemmas.Bool.{ne_eqb}
use Rattle.std.proofs.lemmas.List.{map_push}
use Rattle.std.proofs.lemmas.Map.Made.{is_some-lookup}
use Rattle.optra_network.specs.Names.{AllDiffer, AreNames, is_name, place_of}
use Rattle.optra_network.proofs.NamesLemmas.{AllDiffer-push, AreNames-push}
use Rattle.optra_network.specs.Tables.{has_headway}
use Rattle.std.proofs.lemmas.Grind.{common_steps}
use Rattle.std.proofs.lemmas.List.Elements.{All-push}
use Rattle.std.specs.Map.{keys_of, lookup}
use Rattle.optra_network.specs.Net.{Net, empty_net, IsBuilt, AreRowsOf, HasAllHeadways, AreEnds, AreTimes, CrossingKey, CrossingRow, IsRunningRow, IsHeadwayRow, IsCrossingRow, IsLimitRow, times_of, headway_of, crossing_of, same_pair, same_triple, same_quadruple}
use Rattle.optra_network.specs.Refusals.{with_limit}
use Rattle.optra_network.specs.declared.StationId.{StationId}
use Rattle.optra_network.specs.declared.TrackId.{TrackId}
use Rattle.optra_network.specs.declared.TypeId.{TypeId}
use Rattle.optra_network.specs.declared.Track.{Track}
use Rattle.optra_network.specs.declared.Times.{Times}

-- what holds of each entry holds of the key that is looked up and what it finds, where the test is equality
module _ {K X : Type 0} (P : K × X → Type 0) (k : K) (test : K → Bool) (same : (q : K) → test q ≡ true → k ≡ q) where
  pub IfSome-lookup : (es : List (K × X)) → All P es → IfSome (lookup test es) (λ v. P (k, v))
  IfSome-lookup [] h = tt
  IfSome-lookup (e ∷ es) h =
      elim (test e.0) as (λ b. test e.0 ≡ b → IfSome (cond b (Some e.1) (lookup test es)) (λ v. P (k, v))) [
        | true ↦ λ t. subst (λ q. P (q, e.1)) (sym (same e.0 t)) (h 0 e (omega arith))
        | false ↦ λ t. IfSome-lookup es (λ j d l. grind (arith, common_steps, h (j + 1) d))
      ] refl

pub pair_same : (a b : ℕ × ℕ) → same_pair a b ≡ true → a ≡ b
pair_same a b h = let x : a.0 ≡ b.0 = grind arith in let y : a.1 ≡ b.1 = grind arith in λ i. (x i, y i)

pub triple_same : (a b : ℕ × ℕ × ℕ) → same_triple a b ≡ true → a ≡ b
triple_same a b h = let x : a.0 ≡ b.0 = grind arith in let y : a.1 ≡ b.1 = grind arith in let z : a.2 ≡ b.2 = grind arith in λ i. (x i, y i, z i)

pub quadruple_same : (a b : CrossingKey) → same_quadruple a b ≡ true → a ≡ b
quadruple_same a b h =
    let x : a.0 ≡ b.0 = grind arith in let y : a.1 ≡ b.1 = grind arith in let z : a.2 ≡ b.2 = grind arith in let w : a.3 ≡ b.3 = grind arith in λ i. (x i, y i, z i, w i)

-- the running times that a network tells
pub times_built : (net : Net) (t : TrackId) (k : TypeId) → IsBuilt net → IfSome (times_of net t k) (λ times. IsRunningRow (length net.tracks) (length net.types) ((t.0, k.0), times))
times_built net t k built = IfSome-lookup (IsRunningRow (length net.tracks) (length net.types)) (t.0, k.0) (same_pair (t.0, k.0)) (pair_same (t.0, k.0)) net.running built.running.each

pub headway_built : (net : Net) (t : TrackId) (a b : TypeId) → IsBuilt net → IfSome (headway_of net t a b) (λ h. IsHeadwayRow (length net.tracks) (length net.types) ((t.0, a.0, b.0), h))
headway_built net t a b built = IfSome-lookup (IsHeadwayRow (length net.tracks) (length net.types)) (t.0, a.0, b.0) (same_triple (t.0, a.0, b.0)) (triple_same (t.0, a.0, b.0)) net.headways built.headways.each

pub crossing_built : (net : Net) (t u : TrackId) (a b : TypeId) → IsBuilt net → IfSome (crossing_of net t u a b) (λ m. IsCrossingRow (length net.tracks) (length net.types) ((t.0, u.0, a.0, b.0), m))
crossing_built net t u a b built =
    IfSome-lookup (IsCrossingRow (length net.tracks) (length net.types)) (t.0, u.0, a.0, b.0) (same_quadruple (t.0, u.0, a.0, b.0)) (quadruple_same (t.0, u.0, a.0, b.0)) net.crossings built.crossings.each

pub limit_built : (net : Net) (s : StationId) → IsBuilt net → IfSome (lookup (nat_eq s.0) net.limits) (λ n. IsLimitRow (length net.stations) (s.0, n))
limit_built net s built = IfSome-lookup (IsLimitRow (length net.stations)) s.0 (nat_eq s.0) (λ q e. eqb-true s.0 q e) net.limits built.limits.each

-- a row whose key is not there, after rows whose keys all differ
pub keys_differ : {K X : Type 0} (test : K → K → Bool) (same : (k : K) → test k k ≡ true) (rows : List (K × X)) (row : K × X)
    → AllDiffer (keys_of rows) → is_some (lookup (test row.0) rows) ≡ false → AllDiffer (keys_of (rows ++ row ∷ []))
keys_differ {K} {X} test same rows row apart absent =
    subst AllDiffer (sym (map_push (λ (e : K × X). e.0) rows row)) (AllDiffer-push test same (keys_of rows) row.0 apart (sym (is_some-lookup (test row.0) rows) ∙ absent))

pub pair_self : (k : ℕ × ℕ) → same_pair k k ≡ true
pair_self k = grind arith

pub triple_self : (k : ℕ × ℕ × ℕ) → same_triple k k ≡ true
triple_self k = grind arith

pub quadruple_self : (k : CrossingKey) → same_quadruple k k ≡ true
quadruple_self k = grind arith

-- ---- the parts of what a builder keeps, with one more station, type, track or row

-- one more row, whose key is not there
pub AreRowsOf-push : {K V : Type 0} (P : K × V → Type 0) (test : K → K → Bool) (same : (k : K) → test k k ≡ true) (rows new : List (K × V)) (row : K × V)
    → AreRowsOf P rows → new ≡ rows ++ row ∷ [] → is_some (lookup (test row.0) rows) ≡ false → P row → AreRowsOf P new
AreRowsOf-push {K} {V} P test same rows new row are e absent is = record {
  each = rw e (All-push P rows row are.each is);
  once = subst (λ (l : List (K × V)). AllDiffer (keys_of l)) (sym e) (keys_differ test same rows row are.once absent);
}

-- the same rows are proper by a weaker rule
pub AreRowsOf-weaker : {K V : Type 0} (P Q : K × V → Type 0) (rows : List (K × V)) → ((row : K × V) → P row → Q row) → AreRowsOf P rows → AreRowsOf Q rows
AreRowsOf-weaker P Q rows h are = record { each = λ k d l. h _ (are.each k d l); once = are.once }

more_types : (tracks types more : ℕ) (row : (ℕ × ℕ) × Times) → types < more → IsRunningRow tracks types row → IsRunningRow tracks more row
more_types tracks types more row l h = (h.0, omega (arith, l, h.1), h.2)

more_headway_types : (tracks types more : ℕ) (row : (ℕ × ℕ × ℕ) × ℕ) → types < more → IsHeadwayRow tracks types row → IsHeadwayRow tracks more row
more_headway_types tracks types more row l h = (h.0, omega (arith, l, h.1), omega (arith, l, h.2), h.3)

more_crossing_types : (tracks types more : ℕ) (row : CrossingRow) → types < more → IsCrossingRow tracks types row → IsCrossingRow tracks more row
more_crossing_types tracks types more row l h = record {
  first_track = h.first_track;
  second_track = h.second_track;
  first = let a = h.first in omega arith;
  second = let a = h.second in omega arith;
  apart = h.apart;
  minutes = h.minutes;
}

more_tracks : (tracks more types : ℕ) (row : (ℕ × ℕ) × Times) → tracks < more → IsRunningRow tracks types row → IsRunningRow more types row
more_tracks tracks more types row l h = (omega (arith, l, h.0), h.1, h.2)

more_headway_tracks : (tracks more types : ℕ) (row : (ℕ × ℕ × ℕ) × ℕ) → tracks < more → IsHeadwayRow tracks types row → IsHeadwayRow more types row
more_headway_tracks tracks more types row l h = (omega (arith, l, h.0), h.1, h.2, h.3)

more_crossing_tracks : (tracks more types : ℕ) (row : CrossingRow) → tracks < more → IsCrossingRow tracks types row → IsCrossingRow more types row
more_crossing_tracks tracks more types row l h = record {
  first_track = let a = h.first_track in omega arith;
  second_track = let a = h.second_track in omega arith;
  first = h.first;
  second = h.second;
  apart = h.apart;
  minutes = h.minutes;
}

more_stations : (stations more : ℕ) (row : ℕ × ℕ) → stations < more → IsLimitRow stations row → IsLimitRow more row
more_stations stations more row l h = (omega (arith, l, h.0), h.1)

-- no limit is that of the next station
pub no_limit_next : (stations : ℕ) (limits : List (ℕ × ℕ)) → All (IsLimitRow stations) limits → is_some (lookup (nat_eq stations) limits) ≡ false
no_limit_next stations [] h = refl
no_limit_next stations (row ∷ limits) h =
    let first = (h 0 row (omega arith)).0 in
    rw (ne_eqb stations row.0 (λ e. omega (arith, e, first))) (no_limit_next stations limits (λ k d l. grind (arith, common_steps, h (k + 1) d)))

-- the limits, with that of a new station
limits_with : (stations more halt_max : ℕ) (limits : List (ℕ × ℕ)) → more ≡ stations + 1 → halt_max ≤ 1000 → AreRowsOf (IsLimitRow stations) limits → AreRowsOf (IsLimitRow more) (with_limit limits stations halt_max)
limits_with stations more zero limits e most are = AreRowsOf-weaker (IsLimitRow stations) (IsLimitRow more) limits (λ row. more_stations stations more row (omega arith)) are
limits_with stations more (suc n) limits e most are =
    let some : with_limit limits stations (suc n) ≡ limits ++ (stations, suc n) ∷ [] = ap (λ b. cond b limits (limits ++ (stations, suc n) ∷ [])) (ne_eqb (suc n) 0 (λ z. omega (arith, z))) in
    AreRowsOf-push (IsLimitRow more) nat_eq (λ k. eq-eqb k k refl) limits (with_limit limits stations (suc n)) (stations, suc n)
    (AreRowsOf-weaker (IsLimitRow stations) (IsLimitRow more) limits (λ row. more_stations stations more row (omega arith)) are)
    some (no_limit_next stations limits are.each) (omega arith, (omega arith, omega arith))

-- ---- what a builder keeps of nothing, and after one more station, type, track or row

pub AreRowsOf-none : {K V : Type 0} (P : K × V → Type 0) → AreRowsOf P []
AreRowsOf-none P = record { each = λ k d l. absurd (omega arith); once = search rules }

no_names : AreNames []
no_names = record { each = λ k d l. absurd (omega arith); differ = search rules }

pub built_empty : IsBuilt empty_net
built_empty = record {
  counts = record { few_stations = omega arith; few_tracks = omega arith; few_types = omega arith };
  names = record { station_names = no_names; names_of_tracks = no_names; type_names = no_names };
  named = refl;
  ends = λ k d l. absurd (omega arith);
  running = AreRowsOf-none (IsRunningRow 0 0);
  headways = AreRowsOf-none (IsHeadwayRow 0 0);
  crossings = AreRowsOf-none (IsCrossingRow 0 0);
  limits = AreRowsOf-none (IsLimitRow 0);
}

pub built_with_limited : (net : Net) (names : List (List ℕ)) (name : List ℕ) (halt_max : ℕ) (limits : List (ℕ × ℕ)) → IsBuilt net → names ≡ net.stations ++ name ∷ []
    → limits ≡ with_limit net.limits (length net.stations) halt_max → length net.stations < 300 → IsTrue (is_name name) → place_of name net.stations ≡ None → halt_max ≤ 1000
    → IsBuilt (record net { stations = names; limits = limits })
built_with_limited net names name halt_max limits b e el few is absent most =
    let more : length names ≡ length net.stations + 1 = ap length e ∙ length-append net.stations (name ∷ []) in
    record {
      counts = record { few_stations = omega arith; few_tracks = b.counts.few_tracks; few_types = b.counts.few_types };
      names = record {
        station_names = subst AreNames (sym e) (AreNames-push net.stations name b.names.station_names is absent);
        names_of_tracks = b.names.names_of_tracks;
        type_names = b.names.type_names;
      };
      named = b.named;
      ends = λ k d l. let h = b.ends k d l in (omega (arith, h.0, more), omega (arith, h.1, more), h.2);
      running = b.running;
      headways = b.headways;
      crossings = b.crossings;
      limits = subst (AreRowsOf (IsLimitRow (length names))) (sym el) (limits_with (length net.stations) (length names) halt_max net.limits more most b.limits);
    }

pub built_with_type : (net : Net) (names : List (List ℕ)) (name : List ℕ) → IsBuilt net → names ≡ net.types ++ name ∷ []
    → length net.types < 16 → IsTrue (is_name name) → place_of name net.types ≡ None → IsBuilt (record net { types = names })
built_with_type net names name b e few is absent =
    let more : length names ≡ length net.types + 1 = ap length e ∙ length-append net.types (name ∷ []) in
    let less : length net.types < length names = omega arith in
    let tracks = length net.tracks in
    let types = length net.types in
    record {
      counts = record { few_stations = b.counts.few_stations; few_tracks = b.counts.few_tracks; few_types = omega arith };
      names = record {
        station_names = b.names.station_names;
        names_of_tracks = b.names.names_of_tracks;
        type_names = subst AreNames (sym e) (AreNames-push net.types name b.names.type_names is absent);
      };
      named = b.named;
      ends = b.ends;
      running = AreRowsOf-weaker (IsRunningRow tracks types) (IsRunningRow tracks (length names)) net.running (λ row. more_types tracks types (length names) row less) b.running;
      headways = AreRowsOf-weaker (IsHeadwayRow tracks types) (IsHeadwayRow tracks (length names)) net.headways (λ row. more_headway_types tracks types (length names) row less) b.headways;
      crossings = AreRowsOf-weaker (IsCrossingRow tracks types) (IsCrossingRow tracks (length names)) net.crossings (λ row. more_crossing_types tracks types (length names) row less) b.crossings;
      limits = b.limits;
    }

pub built_with_running : (net : Net) (rows : List ((ℕ × ℕ) × Times)) (row : (ℕ × ℕ) × Times) → IsBuilt net → rows ≡ net.running ++ row ∷ []
    → is_some (lookup (same_pair row.0) net.running) ≡ false → IsRunningRow (length net.tracks) (length net.types) row → IsBuilt (record net { running = rows })
built_with_running net rows row b e absent h = record {
  counts = b.counts;
  names = b.names;
  named = b.named;
  ends = b.ends;
  running = AreRowsOf-push (IsRunningRow (length net.tracks) (length net.types)) same_pair pair_self net.running rows row b.running e absent h;
  headways = b.headways;
  crossings = b.crossings;
  limits = b.limits;
}

pub built_with_headway : (net : Net) (rows : List ((ℕ × ℕ × ℕ) × ℕ)) (row : (ℕ × ℕ × ℕ) × ℕ) → IsBuilt net → rows ≡ net.headways ++ row ∷ []
    → is_some (lookup (same_triple row.0) net.headways) ≡ false → IsHeadwayRow (length net.tracks) (length net.types) row → IsBuilt (record net { headways = rows })
built_with_headway net rows row b e absent h = record {
  counts = b.counts;
  names = b.names;
  named = b.named;
  ends = b.ends;
  running = b.running;
  headways = AreRowsOf-push (IsHeadwayRow (length net.tracks) (length net.types)) same_triple triple_self net.headways rows row b.headways e absent h;
  crossings = b.crossings;
  limits = b.limits;
}

pub built_with_crossing : (net : Net) (rows : List CrossingRow) (row : CrossingRow) → IsBuilt net → rows ≡ net.crossings ++ row ∷ []
    → is_some (lookup (same_quadruple row.0) net.crossings) ≡ false → IsCrossingRow (length net.tracks) (length net.types) row → IsBuilt (record net { crossings = rows })
built_with_crossing net rows row b e absent h = record {
  counts = b.counts;
  names = b.names;
  named = b.named;
  ends = b.ends;
  running = b.running;
  headways = b.headways;
  crossings = AreRowsOf-push (IsCrossingRow (length net.tracks) (length net.types)) same_quadruple quadruple_self net.crossings rows row b.crossings e absent h;
  limits = b.limits;
}

pub built_with_track : (net : Net) (names : List (List ℕ)) (name : List ℕ) (tracks : List Track) (track : Track) → IsBuilt net → names ≡ net.track_names ++ name ∷ []
    → tracks ≡ net.tracks ++ track ∷ [] → length net.tracks < 1000 → IsTrue (is_name name) → place_of name net.track_names ≡ None → AreEnds (length net.stations) track
    → IsBuilt (record net { track_names = names; tracks = tracks })
built_with_track net names name tracks track b en et few is absent ends =
    let more : length tracks ≡ length net.tracks + 1 = ap length et ∙ length-append net.tracks (track ∷ []) in
    let more_names : length names ≡ length net.track_names + 1 = ap length en ∙ length-append net.track_names (name ∷ []) in
    let less : length net.tracks < length tracks = omega arith in
    let old = length net.tracks in
    let types = length net.types in
    record {
      counts = record { few_stations = b.counts.few_stations; few_tracks = omega arith; few_types = b.counts.few_types };
      names = record {
        station_names = b.names.station_names;
        names_of_tracks = subst AreNames (sym en) (AreNames-push net.track_names name b.names.names_of_tracks is absent);
        type_names = b.names.type_names;
      };
      named = more_names ∙ ap (λ n. n + 1) b.named ∙ sym more;
      ends = rw et (All-push (AreEnds (length net.stations)) net.tracks track b.ends ends);
      running = AreRowsOf-weaker (IsRunningRow old types) (IsRunningRow (length tracks) types) net.running (λ row. more_tracks old (length tracks) types row less) b.running;
      headways = AreRowsOf-weaker (IsHeadwayRow old types) (IsHeadwayRow (length tracks) types) net.headways (λ row. more_headway_tracks old (length tracks) types row less) b.headways;
      crossings = AreRowsOf-weaker (IsCrossingRow old types) (IsCrossingRow (length tracks) types) net.crossings (λ row. more_crossing_tracks old (length tracks) types row less) b.crossings;
      limits = b.limits;
    }

bounds_of : (o : Option Times) (x y m n : ℕ) → IsSome o → IfSome o (λ v. (x < m) × (y < n) × AreTimes v) → (x < m) × (y < n)
bounds_of None x y m n s h = absurd (grind arith)
bounds_of (Some v) x y m n s h = (h.0, h.1)

third : (o p : Option Times) (q : Option ℕ) → (not (is_some o) || not (is_some p) || is_some q) ≡ true → IsSome o → IsSome p → IsSome q
third (Some v) (Some w) (Some n) e s t = search rules
third (Some v) (Some w) None e s t = cc
third None p q e s t = absurd (grind arith)
third (Some v) None q e s t = absurd (grind arith)

test_from : (o p : Option Times) (q : Option ℕ) → (IsSome o → IsSome p → IsSome q) → (not (is_some o) || not (is_some p) || is_some q) ≡ true
test_from (Some v) (Some w) (Some n) h = refl
test_from (Some v) (Some w) None h = absurd (grind (arith, h (search rules) (search rules)))
test_from None p q h = refl
test_from (Some v) None q h = refl

pub HasAllHeadways-from_tests : (net : Net) → IsBuilt net → ((t a b : ℕ) → t < length net.tracks → a < length net.types → b < length net.types → has_headway net t a b ≡ true) → HasAllHeadways net
HasAllHeadways-from_tests net built h t a b ma mb =
    let ta = bounds_of (times_of net t a) t.0 a.0 (length net.tracks) (length net.types) ma (times_built net t a built) in
    let tb = bounds_of (times_of net t b) t.0 b.0 (length net.tracks) (length net.types) mb (times_built net t b built) in
    third (times_of net t a) (times_of net t b) (headway_of net t a b) (h t.0 a.0 b.0 ta.0 ta.1 tb.1) ma mb

pub tests_from-HasAllHeadways : (net : Net) → HasAllHeadways net → (t a b : ℕ) → has_headway net t a b ≡ true
tests_from-HasAllHeadways net h t a b =
    test_from (times_of net (record { 0 = t }) (record { 0 = a })) (times_of net (record { 0 = t }) (record { 0 = b })) (headway_of net (record { 0 = t }) (record { 0 = a }) (record { 0 = b }))
    (h (record { 0 = t }) (record { 0 = a }) (record { 0 = b }))
