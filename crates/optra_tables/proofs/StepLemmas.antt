-- What each accepted record of a network's table adds, and that there are never too many.
use Rattle.std.proofs.Common.{◌≡◌, ◌+◌, ◌-◌, ◌*◌, ◌/◌, ◌%◌, ◌^◌, ◌<◌, ◌≤◌, ◌||◌, ◌++◌, ℕ, bytes_eq, Bool, true, false, not, List, [], ◌∷◌, length, Option, Some, None, IfSome, is_none, is_some, nat_le, refl, ap, ◌∙◌, arith, subst, unwrap_or, length-append}
use Rattle.std.proofs.lemmas.Bool.{leb-false}
use Rattle.std.proofs.lemmas.List.Quantifiers.{position-Some}
use Rattle.std.proofs.lemmas.Nat.{div-mul-add, mod-mul-add}
use Rattle.std.specs.Map.{lookup}
use Rattle.std.specs.Option.{option_and_then, option_map}
use Rattle.std.specs.Prelude.{Result, Ok, Err, if◌then◌else◌}
use Rattle.optra_network.specs.Names.{place_of}
use Rattle.optra_network.specs.Net.{Net, HasAllHeadways, crossing_of, headway_of, same_pair, same_quadruple, same_triple, times_of}
use Rattle.optra_network.specs.Refusals.{after_limited, crossing_named, crossing_refusal, first_of, headway_refusal, is_from_to, limited_refusal, running_refusal, same_place, station_refusal, times_from, track_named, track_refusal, type_named, type_refusal}
use Rattle.optra_network.specs.declared.NetRefusal.{NetRefusal}
use Rattle.optra_network.specs.declared.NetRefusal.TheVariants.{Range, Repeated, SelfLoop, UnknownName}
use Rattle.optra_network.specs.declared.Times.{Times}
use Rattle.optra_network.specs.declared.Track.{Track}
use Rattle.optra_network.specs.declared.TrackId.{TrackId}
use Rattle.optra_network.specs.declared.TypeId.{TypeId}
use Rattle.optra_network.proofs.NetLemmas.{pair_self, quadruple_self, triple_self}
use Rattle.optra_records.specs.Reading.{Record}
use Rattle.optra_tables.specs.Fields.{four_at, name_at, number_at, shaped}
use Rattle.optra_tables.specs.Networks.{HasFew, IsWhole, crossing_row, headway_row, limited_station_row, running_row, station_row, track_row, type_row}
use Rattle.optra_tables.specs.Room.{crossings_room, headways_room, quadruple_at, running_room, stations_room, tracks_room, types_room}
use Rattle.optra_tables.specs.Outcomes.{◌>>=◌, net_outcome}
use Rattle.optra_tables.specs.declared.Table.{Table}
use Rattle.optra_tables.specs.declared.Table.TheVariants.{Crossings, Headways, Running, Stations, Tracks, Types}
use Rattle.optra_tables.specs.declared.TableFault.{TableFault}
use Rattle.optra_tables.proofs.FreeLemmas.{free_less, free_within, lookup_added, lookup_stays}

-- ---- what an outcome without a fault says

-- a value that was read from a value that was read
pub from_bind : {A B : Type 0} (r : Result A TableFault) (f : A → Result B TableFault) (y : B) → (r >>= f) ≡ Ok y → (x : A) × (r ≡ Ok x) × (f x ≡ Ok y)
from_bind (Ok x) f y e = (x, refl, e)
from_bind (Err w) f y e = absurd (cc e)

pub from_outcome : {A : Type 0} (table : Table) (row : ℕ) (rule : Option NetRefusal) (after new : A) → net_outcome table row rule after ≡ Ok new → (rule ≡ None) × (after ≡ new)
from_outcome table row None after new e = (refl, cc e)
from_outcome table row (Some why) after new e = absurd (cc e)

-- a rule that refuses nothing has no test that holds
pub not_first : {R : Type 0} (t : Bool) (r : R) (rest : Option R) → (if t then Some r else rest) ≡ None → (t ≡ false) × (rest ≡ None)
not_first true r rest e = absurd (cc e)
not_first false r rest e = (refl, e)

-- a place is within its list
place_in : (name : List ℕ) (names : List (List ℕ)) (o : Option ℕ) → place_of name names ≡ o → IfSome o (λ i. i < length names)
place_in name names None e = tt
place_in name names (Some i) e = (position-Some (bytes_eq name) names i [] e).0

pub place_within : (name : List ℕ) (names : List (List ℕ)) → IfSome (place_of name names) (λ i. i < length names)
place_within name names = place_in name names (place_of name names) refl

abbrev track_of : ℕ → TrackId
track_of n = record { 0 = n }

abbrev kind_of : ℕ → TypeId
kind_of n = record { 0 = n }

-- ---- stations

one_less : {X : Type 0} (top : ℕ) (xs : List X) (x : X) → nat_le top (length xs) ≡ false → (top - length (xs ++ x ∷ [])) + 1 ≤ top - length xs
one_less top xs x e = let low = leb-false top (length xs) e in rw (length-append xs (x ∷ [])) (omega (arith, low))

stations_added : (net new : Net) (name : List ℕ) → nat_le 300 (length net.stations) ≡ false → record net { stations = net.stations ++ name ∷ [] } ≡ new → HasFew net
    → HasFew new × (300 - length new.stations + 1 ≤ 300 - length net.stations)
stations_added net new name full same few =
    subst (λ (n : Net). HasFew n × (300 - length n.stations + 1 ≤ 300 - length net.stations)) same
    (record { tracks = few.tracks; named = few.named; types = few.types }, one_less 300 net.stations name full)

-- a station that is accepted takes one of the places
pub station_step : (net new : Net) (row : ℕ) (fields : Record) → station_row net row fields ≡ Ok new → HasFew net → HasFew new × (stations_room new + 1 ≤ stations_room net)
unfolding station_row stations_room
station_step net new row fields e few =
    let a = from_bind (shaped Stations row 1 fields) _ new e in
    let b = from_bind (name_at Stations row fields 0) _ new a.2 in
    let c = from_outcome Stations row (station_refusal net b.0) _ new b.2 in
    let d = not_first _ _ _ c.0 in
    stations_added net new b.0 d.0 c.1 few

limited_added : (net new : Net) (name : List ℕ) (halt_max : ℕ) → nat_le 300 (length net.stations) ≡ false → after_limited net name halt_max ≡ new → HasFew net
    → HasFew new × (300 - length new.stations + 1 ≤ 300 - length net.stations)
limited_added net new name halt_max full same few =
    subst (λ (n : Net). HasFew n × (300 - length n.stations + 1 ≤ 300 - length net.stations)) same
    (record { tracks = few.tracks; named = few.named; types = few.types }, one_less 300 net.stations name full)

-- a station with its limit that is accepted takes one of the places
pub limited_station_step : (net new : Net) (row : ℕ) (fields : Record) → limited_station_row net row fields ≡ Ok new → HasFew net
    → HasFew new × (stations_room new + 1 ≤ stations_room net)
unfolding limited_station_row stations_room
limited_station_step net new row fields e few =
    let a = from_bind (shaped Stations row 2 fields) _ new e in
    let name = from_bind (name_at Stations row fields 0) _ new a.2 in
    let halt_max = from_bind (number_at Stations row fields 1) _ new name.2 in
    let c = from_outcome Stations row (limited_refusal net name.0 halt_max.0) _ new halt_max.2 in
    let d = not_first _ _ _ c.0 in
    limited_added net new name.0 halt_max.0 d.0 c.1 few

-- ---- types

types_added : (net new : Net) (name : List ℕ) → nat_le 16 (length net.types) ≡ false → record net { types = net.types ++ name ∷ [] } ≡ new → HasFew net
    → HasFew new × (16 - length new.types + 1 ≤ 16 - length net.types)
types_added net new name full same few =
    let low = leb-false 16 (length net.types) full in
    subst (λ (n : Net). HasFew n × (16 - length n.types + 1 ≤ 16 - length net.types)) same
    (record { tracks = few.tracks; named = few.named; types = rw (length-append net.types (name ∷ [])) (omega (arith, low)) }, one_less 16 net.types name full)

-- a type that is accepted takes one of the places
pub type_step : (net new : Net) (row : ℕ) (fields : Record) → type_row net row fields ≡ Ok new → HasFew net → HasFew new × (types_room new + 1 ≤ types_room net)
unfolding type_row types_room
type_step net new row fields e few =
    let a = from_bind (shaped Types row 1 fields) _ new e in
    let b = from_bind (name_at Types row fields 0) _ new a.2 in
    let c = from_outcome Types row (type_refusal net b.0) _ new b.2 in
    let d = not_first _ _ _ c.0 in
    types_added net new b.0 d.0 c.1 few

-- ---- tracks

abbrev track_at : ℕ → ℕ → Track
track_at a b = record { tail = record { 0 = a }; head = record { 0 = b } }

tracks_added : (net new : Net) (name : List ℕ) (o p : Option ℕ) → nat_le 1000 (length net.tracks) ≡ false → (is_none o || is_none p) ≡ false
    → unwrap_or (option_and_then (λ a. option_map (λ b. record net { track_names = net.track_names ++ name ∷ []; tracks = net.tracks ++ track_at a b ∷ [] }) p) o) net ≡ new → HasFew net
    → HasFew new × (1000 - length new.tracks + 1 ≤ 1000 - length net.tracks)
tracks_added net new name None p full there same few = absurd (cc there)
tracks_added net new name (Some a) None full there same few = absurd (cc there)
tracks_added net new name (Some a) (Some b) full there same few =
    let low = leb-false 1000 (length net.tracks) full in
    let named = few.named in
    subst (λ (n : Net). HasFew n × (1000 - length n.tracks + 1 ≤ 1000 - length net.tracks)) same (
      record {
        tracks = rw (length-append net.tracks (track_at a b ∷ [])) (omega (arith, low));
        named = rw (length-append net.track_names (name ∷ []), length-append net.tracks (track_at a b ∷ []), named) refl;
        types = few.types;
      },
      one_less 1000 net.tracks (track_at a b) full,
    )

-- a track that is accepted takes one of the places
pub track_step : (net new : Net) (row : ℕ) (fields : Record) → track_row net row fields ≡ Ok new → HasFew net → HasFew new × (tracks_room new + 1 ≤ tracks_room net)
unfolding track_row tracks_room
track_step net new row fields e few =
    let a = from_bind (shaped Tracks row 3 fields) _ new e in
    let name = from_bind (name_at Tracks row fields 0) _ new a.2 in
    let from = from_bind (name_at Tracks row fields 1) _ new name.2 in
    let to = from_bind (name_at Tracks row fields 2) _ new from.2 in
    let c = from_outcome Tracks row (track_refusal net name.0 from.0 to.0) _ new to.2 in
    let full = not_first _ _ _ c.0 in
    let taken = not_first _ _ _ full.1 in
    let known = not_first _ _ _ taken.1 in
    tracks_added net new name.0 (place_of from.0 net.stations) (place_of to.0 net.stations) full.0 known.0 c.1 few

-- ---- running times

running_room_added : (net : Net) (t k : ℕ) (times : Times) → is_some (lookup (same_pair (t, k)) net.running) ≡ false → t < 1000 → k < 16
    → running_room (record net { running = net.running ++ ((t, k), times) ∷ [] }) + 1 ≤ running_room net
unfolding running_room
running_room_added net t k times free lt lk =
    let at : (t * 16 + k) / 16 ≡ t = div-mul-add t 16 k lk in
    let in_ : (t * 16 + k) % 16 ≡ k = mod-mul-add t 16 k lk in
    free_less
    (λ n. is_some (lookup (same_pair (n / 16, n % 16)) net.running))
    (λ n. is_some (lookup (same_pair (n / 16, n % 16)) (net.running ++ ((t, k), times) ∷ [])))
    16000 (t * 16 + k)
    (λ n h. lookup_stays (same_pair (n / 16, n % 16)) ((t, k), times) net.running h)
    (omega arith)
    (rw (at, in_) free)
    (rw (at, in_) (lookup_added (same_pair (t, k)) ((t, k), times) net.running (pair_self (t, k))))

running_added : (net new : Net) (times : List ℕ) (o p : Option ℕ) → (is_none (option_map track_of o) || is_none (option_map kind_of p)) ≡ false
    → is_some (option_and_then (λ t. option_and_then (λ k. times_of net t k) (option_map kind_of p)) (option_map track_of o)) ≡ false
    → unwrap_or (option_and_then (λ t. option_map (λ k. record net { running = net.running ++ ((t, k), times_from times) ∷ [] }) p) o) net ≡ new
    → IfSome o (λ t. t < length net.track_names) → IfSome p (λ k. k < length net.types) → HasFew net
    → HasFew new × (running_room new + 1 ≤ running_room net)
running_added net new times None p there free same lt lk few = absurd (cc there)
running_added net new times (Some t) None there free same lt lk few = absurd (cc there)
running_added net new times (Some t) (Some k) there free same lt lk few =
    let tracks = few.tracks in
    let named = few.named in
    let types = few.types in
    subst (λ (n : Net). HasFew n × (running_room n + 1 ≤ running_room net)) same (
      record { tracks = few.tracks; named = few.named; types = few.types },
      running_room_added net t k (times_from times) free (omega (arith, lt, tracks, named)) (omega (arith, lk, types)),
    )

-- running times that are accepted take a free pair
pub running_step : (net new : Net) (row : ℕ) (fields : Record) → running_row net row fields ≡ Ok new → HasFew net → HasFew new × (running_room new + 1 ≤ running_room net)
unfolding running_row
running_step net new row fields e few =
    let a = from_bind (shaped Running row 6 fields) _ new e in
    let track = from_bind (name_at Running row fields 0) _ new a.2 in
    let kind = from_bind (name_at Running row fields 1) _ new track.2 in
    let times = from_bind (four_at Running row fields 2) _ new kind.2 in
    let c = from_outcome Running row (running_refusal net track.0 kind.0 times.0) _ new times.2 in
    let known = not_first _ _ _ c.0 in
    let range = not_first _ _ _ known.1 in
    let free = not_first _ _ _ range.1 in
    running_added net new times.0 (place_of track.0 net.track_names) (place_of kind.0 net.types) known.0 free.0 c.1
    (place_within track.0 net.track_names) (place_within kind.0 net.types) few

-- ---- headways

headways_room_added : (net : Net) (t a b minutes : ℕ) → is_some (lookup (same_triple (t, a, b)) net.headways) ≡ false → t < 1000 → a < 16 → b < 16
    → headways_room (record net { headways = net.headways ++ ((t, a, b), minutes) ∷ [] }) + 1 ≤ headways_room net
unfolding headways_room
headways_room_added net t a b minutes free lt la lb =
    let inner : a * 16 + b < 256 = omega arith in
    let at : (t * 256 + (a * 16 + b)) / 256 ≡ t = div-mul-add t 256 (a * 16 + b) inner in
    let rest : (t * 256 + (a * 16 + b)) % 256 ≡ a * 16 + b = mod-mul-add t 256 (a * 16 + b) inner in
    let first : (a * 16 + b) / 16 ≡ a = div-mul-add a 16 b lb in
    let flat : t * 256 + (a * 16 + b) ≡ (t * 16 + a) * 16 + b = omega arith in
    let second : (t * 256 + (a * 16 + b)) % 16 ≡ b = ap (λ (n : ℕ). n % 16) flat ∙ mod-mul-add (t * 16 + a) 16 b lb in
    free_less
    (λ n. is_some (lookup (same_triple (n / 256, n % 256 / 16, n % 16)) net.headways))
    (λ n. is_some (lookup (same_triple (n / 256, n % 256 / 16, n % 16)) (net.headways ++ ((t, a, b), minutes) ∷ [])))
    256000 (t * 256 + (a * 16 + b))
    (λ n h. lookup_stays (same_triple (n / 256, n % 256 / 16, n % 16)) ((t, a, b), minutes) net.headways h)
    (omega arith)
    (rw (at, rest, first, second) free)
    (rw (at, rest, first, second) (lookup_added (same_triple (t, a, b)) ((t, a, b), minutes) net.headways (triple_self (t, a, b))))

headways_added : (net new : Net) (minutes : ℕ) (o p q : Option ℕ) → (is_none (option_map track_of o) || is_none (option_map kind_of p) || is_none (option_map kind_of q)) ≡ false
    → is_some (option_and_then (λ t. option_and_then (λ a. option_and_then (λ b. headway_of net t a b) (option_map kind_of q)) (option_map kind_of p)) (option_map track_of o)) ≡ false
    → unwrap_or (option_and_then (λ t. option_and_then (λ a. option_map (λ b. record net { headways = net.headways ++ ((t, a, b), minutes) ∷ [] }) q) p) o) net ≡ new
    → IfSome o (λ t. t < length net.track_names) → IfSome p (λ k. k < length net.types) → IfSome q (λ k. k < length net.types) → HasFew net
    → HasFew new × (headways_room new + 1 ≤ headways_room net)
headways_added net new minutes None p q there free same lt la lb few = absurd (cc there)
headways_added net new minutes (Some t) None q there free same lt la lb few = absurd (cc there)
headways_added net new minutes (Some t) (Some a) None there free same lt la lb few = absurd (cc there)
headways_added net new minutes (Some t) (Some a) (Some b) there free same lt la lb few =
    let tracks = few.tracks in
    let named = few.named in
    let types = few.types in
    subst (λ (n : Net). HasFew n × (headways_room n + 1 ≤ headways_room net)) same (
      record { tracks = few.tracks; named = few.named; types = few.types },
      headways_room_added net t a b minutes free (omega (arith, lt, tracks, named)) (omega (arith, la, types)) (omega (arith, lb, types)),
    )

-- a headway that is accepted takes a free triple
pub headway_step : (net new : Net) (row : ℕ) (fields : Record) → headway_row net row fields ≡ Ok new → HasFew net → HasFew new × (headways_room new + 1 ≤ headways_room net)
unfolding headway_row
headway_step net new row fields e few =
    let a = from_bind (shaped Headways row 4 fields) _ new e in
    let track = from_bind (name_at Headways row fields 0) _ new a.2 in
    let first = from_bind (name_at Headways row fields 1) _ new track.2 in
    let second = from_bind (name_at Headways row fields 2) _ new first.2 in
    let minutes = from_bind (number_at Headways row fields 3) _ new second.2 in
    let c = from_outcome Headways row (headway_refusal net track.0 first.0 second.0 minutes.0) _ new minutes.2 in
    let known = not_first _ _ _ c.0 in
    let range = not_first _ _ _ known.1 in
    let free = not_first _ _ _ range.1 in
    headways_added net new minutes.0 (place_of track.0 net.track_names) (place_of first.0 net.types) (place_of second.0 net.types) known.0 free.0 c.1
    (place_within track.0 net.track_names) (place_within first.0 net.types) (place_within second.0 net.types) few

-- ---- crossings

crossings_room_added : (net : Net) (t u a b minutes : ℕ) → is_some (lookup (same_quadruple (t, u, a, b)) net.crossings) ≡ false → t < 1000 → u < 1000 → a < 16 → b < 16
    → crossings_room (record net { crossings = net.crossings ++ ((t, u, a, b), minutes) ∷ [] }) + 1 ≤ crossings_room net
unfolding crossings_room
crossings_room_added net t u a b minutes free lt lu la lb =
    let pair : a * 16 + b < 256 = omega arith in
    let inner : u * 256 + (a * 16 + b) < 256000 = omega arith in
    let at : (t * 256000 + (u * 256 + (a * 16 + b))) / 256000 ≡ t = div-mul-add t 256000 (u * 256 + (a * 16 + b)) inner in
    let rest : (t * 256000 + (u * 256 + (a * 16 + b))) % 256000 ≡ u * 256 + (a * 16 + b) = mod-mul-add t 256000 (u * 256 + (a * 16 + b)) inner in
    let across : (u * 256 + (a * 16 + b)) / 256 ≡ u = div-mul-add u 256 (a * 16 + b) pair in
    let first : (a * 16 + b) / 16 ≡ a = div-mul-add a 16 b lb in
    let by_pair : t * 256000 + (u * 256 + (a * 16 + b)) ≡ (t * 1000 + u) * 256 + (a * 16 + b) = omega arith in
    let kinds : (t * 256000 + (u * 256 + (a * 16 + b))) % 256 ≡ a * 16 + b = ap (λ (n : ℕ). n % 256) by_pair ∙ mod-mul-add (t * 1000 + u) 256 (a * 16 + b) pair in
    let flat : t * 256000 + (u * 256 + (a * 16 + b)) ≡ ((t * 1000 + u) * 16 + a) * 16 + b = omega arith in
    let second : (t * 256000 + (u * 256 + (a * 16 + b))) % 16 ≡ b = ap (λ (n : ℕ). n % 16) flat ∙ mod-mul-add ((t * 1000 + u) * 16 + a) 16 b lb in
    free_less
    (λ n. is_some (lookup (same_quadruple (quadruple_at n)) net.crossings))
    (λ n. is_some (lookup (same_quadruple (quadruple_at n)) (net.crossings ++ ((t, u, a, b), minutes) ∷ [])))
    256000000 (t * 256000 + (u * 256 + (a * 16 + b)))
    (λ n h. lookup_stays (same_quadruple (quadruple_at n)) ((t, u, a, b), minutes) net.crossings h)
    (omega arith)
    (rw (at, rest, across, kinds, first, second) free)
    (rw (at, rest, across, kinds, first, second) (lookup_added (same_quadruple (t, u, a, b)) ((t, u, a, b), minutes) net.crossings (quadruple_self (t, u, a, b))))

-- a crossing changes no running time and no headway
complete_stays : (net : Net) (t u a b minutes : ℕ) → HasAllHeadways net → HasAllHeadways (record net { crossings = net.crossings ++ ((t, u, a, b), minutes) ∷ [] })
complete_stays net t u a b minutes complete = complete

crossings_added : (net new : Net) (minutes : ℕ) (o p q r : Option ℕ)
    → (is_none (option_map track_of o) || is_none (option_map track_of p) || is_none (option_map kind_of q) || is_none (option_map kind_of r)) ≡ false
    → is_some (option_and_then (λ t. option_and_then (λ u. option_and_then (λ a. option_and_then (λ b. crossing_of net t u a b)
    (option_map kind_of r)) (option_map kind_of q)) (option_map track_of p)) (option_map track_of o)) ≡ false
    → unwrap_or (option_and_then (λ t. option_and_then (λ u. option_and_then (λ a. option_map (λ b. record net { crossings = net.crossings ++ ((t, u, a, b), minutes) ∷ [] }) r) q) p) o) net ≡ new
    → IfSome o (λ t. t < length net.track_names) → IfSome p (λ u. u < length net.track_names) → IfSome q (λ k. k < length net.types) → IfSome r (λ k. k < length net.types)
    → IsWhole net → IsWhole new × (crossings_room new + 1 ≤ crossings_room net)
crossings_added net new minutes None p q r there free same lt lu la lb whole = absurd (cc there)
crossings_added net new minutes (Some t) None q r there free same lt lu la lb whole = absurd (cc there)
crossings_added net new minutes (Some t) (Some u) None r there free same lt lu la lb whole = absurd (cc there)
crossings_added net new minutes (Some t) (Some u) (Some a) None there free same lt lu la lb whole = absurd (cc there)
crossings_added net new minutes (Some t) (Some u) (Some a) (Some b) there free same lt lu la lb whole =
    let tracks = whole.few.tracks in
    let named = whole.few.named in
    let types = whole.few.types in
    subst (λ (n : Net). IsWhole n × (crossings_room n + 1 ≤ crossings_room net)) same (
      record { few = record { tracks = tracks; named = named; types = types }; complete = complete_stays net t u a b minutes whole.complete },
      crossings_room_added net t u a b minutes free (omega (arith, lt, tracks, named)) (omega (arith, lu, tracks, named)) (omega (arith, la, types)) (omega (arith, lb, types)),
    )

-- a crossing that isn't refused names what is there, and isn't there
crossing_tests : (net : Net) (first_track second_track first second : List ℕ) (minutes : ℕ) → crossing_refusal net first_track second_track first second minutes ≡ None
    → ((is_none (track_named net first_track) || is_none (track_named net second_track) || is_none (type_named net first) || is_none (type_named net second)) ≡ false)
    × (is_some (crossing_named net first_track second_track first second) ≡ false)
crossing_tests net first_track second_track first second minutes e =
    let known = is_none (track_named net first_track) || is_none (track_named net second_track) || is_none (type_named net first) || is_none (type_named net second) in
    let same = same_place (place_of first_track net.track_names) (place_of second_track net.track_names) in
    let there = is_some (crossing_named net first_track second_track first second) in
    four_tests known same (not (is_from_to 1 120 minutes)) there e
  where
    four_tests : (known same range there : Bool) → first_of ((known, UnknownName) ∷ (same, SelfLoop) ∷ (range, Range) ∷ (there, Repeated) ∷ []) ≡ None → (known ≡ false) × (there ≡ false)
    four_tests known same range there e =
        let a = not_first known UnknownName (first_of ((same, SelfLoop) ∷ (range, Range) ∷ (there, Repeated) ∷ [])) e in
        let b = not_first same SelfLoop (first_of ((range, Range) ∷ (there, Repeated) ∷ [])) a.1 in
        let c = not_first range Range (first_of ((there, Repeated) ∷ [])) b.1 in
        let d = not_first there Repeated None c.1 in
        (a.0, d.0)

-- a crossing that is accepted takes a free quadruple
pub crossing_step : (net new : Net) (row : ℕ) (fields : Record) → crossing_row net row fields ≡ Ok new → IsWhole net → IsWhole new × (crossings_room new + 1 ≤ crossings_room net)
unfolding crossing_row
crossing_step net new row fields e whole =
    let form = from_bind (shaped Crossings row 5 fields) _ new e in
    let first_track = from_bind (name_at Crossings row fields 0) _ new form.2 in
    let second_track = from_bind (name_at Crossings row fields 1) _ new first_track.2 in
    let first = from_bind (name_at Crossings row fields 2) _ new second_track.2 in
    let second = from_bind (name_at Crossings row fields 3) _ new first.2 in
    let minutes = from_bind (number_at Crossings row fields 4) _ new second.2 in
    let c = from_outcome Crossings row (crossing_refusal net first_track.0 second_track.0 first.0 second.0 minutes.0) _ new minutes.2 in
    let tests = crossing_tests net first_track.0 second_track.0 first.0 second.0 minutes.0 c.0 in
    crossings_added net new minutes.0 (place_of first_track.0 net.track_names) (place_of second_track.0 net.track_names) (place_of first.0 net.types) (place_of second.0 net.types)
    tests.0 tests.1 c.1 (place_within first_track.0 net.track_names) (place_within second_track.0 net.track_names) (place_within first.0 net.types) (place_within second.0 net.types) whole

-- ---- how many rows there can be

pub station_rows_few : (net : Net) → stations_room net < 2 ^ 31
unfolding stations_room
station_rows_few net = omega arith

pub track_rows_few : (net : Net) → tracks_room net < 2 ^ 31
unfolding tracks_room
track_rows_few net = omega arith

pub type_rows_few : (net : Net) → types_room net < 2 ^ 31
unfolding types_room
type_rows_few net = omega arith

pub running_rows_few : (net : Net) → running_room net < 2 ^ 31
unfolding running_room
running_rows_few net = let within = free_within (λ n. is_some (lookup (same_pair (n / 16, n % 16)) net.running)) 16000 in omega (arith, within)

pub headway_rows_few : (net : Net) → headways_room net < 2 ^ 31
unfolding headways_room
headway_rows_few net =
    let within = free_within (λ n. is_some (lookup (same_triple (n / 256, n % 256 / 16, n % 16)) net.headways)) 256000 in omega (arith, within)

pub crossing_rows_few : (net : Net) → crossings_room net < 2 ^ 31
unfolding crossings_room
crossing_rows_few net =
    let within = free_within (λ n. is_some (lookup (same_quadruple (quadruple_at n)) net.crossings)) 256000000 in omega (arith, within)
