-- A network that is written as tables is read again as the same network.
use Rattle.std.proofs.Common.{◌≡◌, ◌≢◌, ◌+◌, ◌^◌, ◌<◌, ◌≤◌, ◌++◌, ℕ, suc, Bool, true, false, not, List, [], ◌∷◌, length, map, get_or, take, drop, None, Some, Ok, Err, is_ok, bytes_eq, ◌&&◌, refl, sym, ap, ◌∙◌, subst, inl, inr, arith, nat_le, nat_eq}
use Rattle.std.specs.Prelude.{IsTrue, All, codes, if◌then◌else◌}
use Rattle.optra_tables.specs.Outcomes.{fault}
use Rattle.optra_tables.specs.declared.Kind.TheVariants as kinds
use Rattle.std.specs.Cmp.Lexicographic.{pointwise}
use Rattle.std.specs.Fmt.{decimal}
use Rattle.std.specs.Map.{keys_of, lookup}
use Rattle.std.proofs.lemmas.Bool.{cases_Bool, le-leb, lt-leb, eqb-true, ne_eqb}
use Rattle.std.proofs.lemmas.List.{get_or-map, length-map, map-append, take-append-drop, drop_more, length-take-le, get_or_append_left}
use Rattle.std.proofs.lemmas.Option.{unwrap_or-slice_get}
use Rattle.optra_network.specs.Names.{AllDiffer, AreNames, is_name, place_of}
use Rattle.optra_network.specs.Net.{AreEnds, IsFromTo, IsHeadwayRow, IsProper, IsRunningRow, Net, empty_net, same_pair, same_triple}
use Rattle.optra_network.specs.Refusals.{is_from_to}
use Rattle.optra_network.specs.declared.Track.{Track}
use Rattle.optra_network.specs.declared.Times.{Times}
use Rattle.optra_records.specs.Reading.{Field, Record, table_records}
use Rattle.optra_records.specs.Texts.{AreShown, is_shown, records_text}
use Rattle.optra_records.specs.Tables.{and_then, is_row, rows_from, rows_under, table_of}
use Rattle.optra_tables.specs.Networks.{Files, after_stations, first_network_of, headway_row, limited_stations_header, version_of, headways_header, network_of, running_header, running_row, station_row, stations_header, track_row, tracks_header, type_row, types_header}
use Rattle.optra_tables.specs.Rows.{table_read}
use Rattle.optra_tables.specs.Written.{named}
use Rattle.optra_tables.specs.declared.Table.TheVariants.{Headways, Running, Stations, Tracks, Types}
use Rattle.optra_tables.proofs.CompleteLemmas.{complete_from}
use Rattle.optra_tables.proofs.WrittenLemmas.{at_middle, in_middle, decimal_utf8, differs_before, name_read, name_utf8, number_read, place_middle, place_none, rows_add, table_means}

-- a track and its name
abbrev pub NamedTrack : Type 0
NamedTrack = Field × Track

-- a network whose tracks have their names beside them
pub record Parts : Type 0 where
  pub stations : List Field
  pub tracks : List NamedTrack
  pub types : List Field
  pub running : List ((ℕ × ℕ) × Times)
  pub headways : List ((ℕ × ℕ × ℕ) × ℕ)

abbrev pub track_names : List NamedTrack → List Field
track_names tracks = map (λ t. t.0) tracks

abbrev pub ends_of : List NamedTrack → List Track
ends_of tracks = map (λ t. t.1) tracks

abbrev pub net_of : Parts → Net
net_of parts = record {
  stations = parts.stations;
  track_names = track_names parts.tracks;
  tracks = ends_of parts.tracks;
  types = parts.types;
  running = parts.running;
  headways = parts.headways;
  crossings = [];
  limits = [];
}

-- ---- its records

abbrev pub station_record : Field → Record
station_record name = name ∷ []

abbrev pub track_record : List Field → NamedTrack → Record
track_record stations t = t.0 ∷ named stations t.1.tail.0 ∷ named stations t.1.head.0 ∷ []

abbrev pub running_record : List Field → List Field → (ℕ × ℕ) × Times → Record
running_record tracks types row =
    named tracks row.0.0 ∷ named types row.0.1
    ∷ decimal row.1.pass_pass ∷ decimal row.1.pass_halt ∷ decimal row.1.halt_pass ∷ decimal row.1.halt_halt ∷ []

abbrev pub headway_record : List Field → List Field → (ℕ × ℕ × ℕ) × ℕ → Record
headway_record tracks types row = named tracks row.0.0 ∷ named types row.0.1 ∷ named types row.0.2 ∷ decimal row.1 ∷ []

abbrev pub tables_of : Parts → Files
tables_of parts = record {
  stations = records_text (stations_header ∷ map station_record parts.stations);
  tracks = records_text (tracks_header ∷ map (track_record parts.stations) parts.tracks);
  types = records_text (types_header ∷ map station_record parts.types);
  running = records_text (running_header ∷ map (running_record (track_names parts.tracks) parts.types) parts.running);
  headways = records_text (headways_header ∷ map (headway_record (track_names parts.tracks) parts.types) parts.headways);
  crossings = None;
}

-- ---- names

-- the name at a place of names that differ stands there
place_at : (names : List Field) (i : ℕ) → AllDiffer names → i < length names → place_of (named names i) names ≡ Some i
place_at names i differ l =
    let n : named names i ≡ get_or names i [] = unwrap_or-slice_get names i [] in
    let split : take i names ++ get_or names i [] ∷ drop (i + 1) names ≡ names =
    ap (λ (rest : List Field). take i names ++ rest) (sym (drop_more names i [] l)) ∙ take-append-drop i names in
    let len : length (take i names) ≡ i = length-take-le i names (omega arith) in
    let middle = place_middle (take i names) (drop (i + 1) names) (get_or names i []) (subst AllDiffer (sym split) differ) in
    ap (λ (x : Field). place_of x names) n ∙ ap (place_of (get_or names i [])) (sym split) ∙ middle ∙ ap Some len

name_at_place : (names : List Field) (i : ℕ) → AreNames names → i < length names → is_name (named names i) ≡ true
name_at_place names i are l = rw (unwrap_or-slice_get names i []) (are.each i [] l)

name_between : (all before after : List Field) (name : Field) → AreNames all → before ++ name ∷ after ≡ all → is_name name ≡ true
name_between all before after name are e =
    let l : length before < length all = subst (λ (xs : List Field). length before < length xs) e (in_middle before after name) in
    let m : get_or all (length before) [] ≡ name = ap (λ (xs : List Field). get_or xs (length before) []) (sym e) ∙ at_middle before after name [] in
    subst (λ (x : Field). is_name x ≡ true) m (are.each (length before) [] l)

new_between : (all before after : List Field) (name : Field) → AllDiffer all → before ++ name ∷ after ≡ all → place_of name before ≡ None
new_between all before after name differ e = place_none name before (differs_before before after name (subst AllDiffer (sym e) differ))

few_between : {X : Type 0} (all before after : List X) (x : X) (most : ℕ) → length all ≤ most → before ++ x ∷ after ≡ all → nat_le most (length before) ≡ false
few_between {X} all before after x most few e =
    let l : length before < length all = subst (λ (xs : List X). length before < length xs) e (in_middle before after x) in
    lt-leb most (length before) (omega arith)

-- ---- the steps

stations_seen : List Field → Net
stations_seen stations = record empty_net { stations = stations }

station_read : (all before after : List Field) (name : Field) (row : ℕ) → AreNames all → length all ≤ 300 → before ++ name ∷ after ≡ all
    → station_row (stations_seen before) row (station_record name) ≡ Ok (stations_seen (before ++ name ∷ []))
unfolding station_row stations_seen
station_read all before after name row are few e =
    let is = name_between all before after name are e in
    let form : is_row 1 (station_record name) ≡ true = rw (name_utf8 name is) refl in
    let read = name_read Stations row (station_record name) 0 name refl is in
    let room = few_between all before after name 300 few e in
    let new = new_between all before after name are.differ e in
    rw (form, read, room, new) refl

types_seen : Net → List Field → Net
types_seen net types = record net { types = types }

type_read : (net : Net) (all before after : List Field) (name : Field) (row : ℕ) → AreNames all → length all ≤ 16 → before ++ name ∷ after ≡ all
    → type_row (types_seen net before) row (station_record name) ≡ Ok (types_seen net (before ++ name ∷ []))
unfolding type_row types_seen
type_read net all before after name row are few e =
    let is = name_between all before after name are e in
    let form : is_row 1 (station_record name) ≡ true = rw (name_utf8 name is) refl in
    let read = name_read Types row (station_record name) 0 name refl is in
    let room = few_between all before after name 16 few e in
    let new = new_between all before after name are.differ e in
    rw (form, read, room, new) refl

-- a test that fails leaves the others
tracks_seen : List Field → List NamedTrack → Net
tracks_seen stations tracks = record empty_net { stations = stations; track_names = track_names tracks; tracks = ends_of tracks }

-- what is seen of a list holds of its parts
pub all_between : {X : Type 0} (P : X → Type 0) (all before after : List X) (x : X) → All P all → before ++ x ∷ after ≡ all → P x
all_between {X} P all before after x h e =
    let l : length before < length all = subst (λ (xs : List X). length before < length xs) e (in_middle before after x) in
    let m : get_or all (length before) x ≡ x = ap (λ (xs : List X). get_or xs (length before) x) (sym e) ∙ at_middle before after x x in
    subst P m (h (length before) x l)

mapped_between : {X Y : Type 0} (f : X → Y) (all before after : List X) (x : X) → before ++ x ∷ after ≡ all → map f before ++ f x ∷ map f after ≡ map f all
mapped_between f all before after x e = sym (map-append f before (x ∷ after)) ∙ ap (map f) e

other_place : (a b : ℕ) → (a ≡ b → ⊥) → nat_eq a b ≡ false
other_place a b f = ne_eqb a b f

track_read : (stations : List Field) (all before after : List NamedTrack) (t : NamedTrack) (row : ℕ) → AreNames stations → AreNames (track_names all) → All (AreEnds (length stations)) (ends_of all) → length (ends_of all) ≤ 1000
    → before ++ t ∷ after ≡ all → track_row (tracks_seen stations before) row (track_record stations t) ≡ Ok (tracks_seen stations (before ++ t ∷ []))
unfolding track_row tracks_seen
track_read stations all before after t row names are ends few e =
    let split = mapped_between (λ (u : NamedTrack). u.0) all before after t e in
    let split_ends = mapped_between (λ (u : NamedTrack). u.1) all before after t e in
    let is = name_between (track_names all) (track_names before) (track_names after) t.0 are split in
    let new = new_between (track_names all) (track_names before) (track_names after) t.0 are.differ split in
    let room = few_between (ends_of all) (ends_of before) (ends_of after) t.1 1000 few split_ends in
    let two : AreEnds (length stations) t.1 = all_between (AreEnds (length stations)) (ends_of all) (ends_of before) (ends_of after) t.1 ends split_ends in
    let from_is = name_at_place stations t.1.tail.0 names two.0 in
    let to_is = name_at_place stations t.1.head.0 names two.1 in
    let from = place_at stations t.1.tail.0 names.differ two.0 in
    let to = place_at stations t.1.head.0 names.differ two.1 in
    let apart = other_place t.1.tail.0 t.1.head.0 (λ s. two.2 (λ i. record { 0 = s i })) in
    let fields = track_record stations t in
    let form : is_row 3 (track_record stations t) ≡ true = rw (name_utf8 t.0 is, name_utf8 (named stations t.1.tail.0) from_is, name_utf8 (named stations t.1.head.0) to_is) refl in
    let read_name = name_read Tracks row (track_record stations t) 0 t.0 refl is in
    let read_from = name_read Tracks row (track_record stations t) 1 (named stations t.1.tail.0) refl from_is in
    let read_to = name_read Tracks row (track_record stations t) 2 (named stations t.1.head.0) refl to_is in
    let named_more : track_names before ++ t.0 ∷ [] ≡ track_names (before ++ t ∷ []) = sym (map-append (λ (u : NamedTrack). u.0) before (t ∷ [])) in
    let ends_more : ends_of before ++ t.1 ∷ [] ≡ ends_of (before ++ t ∷ []) = sym (map-append (λ (u : NamedTrack). u.1) before (t ∷ [])) in
    rw (form, read_name, read_from, read_to, room, new, from, to, apart, named_more, ends_more) refl

-- ---- running times and headways

row_between : {K X : Type 0} (all before after : List (K × X)) (row : K × X) → AllDiffer (keys_of all) → before ++ row ∷ after ≡ all → (k : ℕ) (d : K × X) → k < length before → (get_or before k d).0 ≢ row.0
row_between {K} {X} all before after row differ e k d l same =
    let keys : keys_of before ++ row.0 ∷ keys_of after ≡ keys_of all = mapped_between (λ (r : K × X). r.0) all before after row e in
    let len : length (keys_of before) ≡ length before = length-map before (λ (r : K × X). r.0) in
    let here : get_or (keys_of before) k row.0 ≡ (get_or before k d).0 = get_or-map (λ (r : K × X). r.0) before k d row.0 l in
    let there : get_or (keys_of before ++ row.0 ∷ keys_of after) k row.0 ≡ get_or (keys_of before) k row.0 = get_or_append_left (keys_of before) (row.0 ∷ keys_of after) row.0 k (omega arith) in
    let mine : get_or (keys_of before ++ row.0 ∷ keys_of after) (length (keys_of before)) row.0 ≡ row.0 = at_middle (keys_of before) (keys_of after) row.0 row.0 in
    let apart = subst AllDiffer (sym keys) differ in
    apart k (length (keys_of before)) row.0 (omega arith) (in_middle (keys_of before) (keys_of after) row.0) (there ∙ here ∙ same ∙ sym mine)

none_found : {K X : Type 0} (test : K → Bool) (rows : List (K × X)) → ((k : ℕ) (d : K × X) → k < length rows → test (get_or rows k d).0 ≡ false) → lookup test rows ≡ None
none_found test [] never = refl
none_found {K} {X} test (r ∷ rows) never =
    let first : test r.0 ≡ false = never 0 r (omega arith) in
    rw first (none_found test rows (λ k d l. never (suc k) d (omega arith)))

pair_apart : (a b : ℕ × ℕ) → (b ≡ a → ⊥) → same_pair a b ≡ false
pair_apart a b never = elim (cases_Bool (nat_eq a.0 b.0)) [
  | inl e ↦ elim (cases_Bool (nat_eq a.1 b.1)) [
    | inl f ↦ let p : a.0 ≡ b.0 = eqb-true a.0 b.0 e in let q : a.1 ≡ b.1 = eqb-true a.1 b.1 f in absurd (never (λ i. (sym p i, sym q i)))
    | inr f ↦ rw (e, f) refl
  ]
  | inr e ↦ rw e refl
]

triple_apart : (a b : ℕ × ℕ × ℕ) → (b ≡ a → ⊥) → same_triple a b ≡ false
triple_apart a b never = elim (cases_Bool (nat_eq a.0 b.0)) [
  | inl e ↦ elim (cases_Bool (nat_eq a.1 b.1)) [
    | inl f ↦ elim (cases_Bool (nat_eq a.2 b.2)) [
      | inl g ↦
          let p : a.0 ≡ b.0 = eqb-true a.0 b.0 e in
          let q : a.1 ≡ b.1 = eqb-true a.1 b.1 f in
          let r : a.2 ≡ b.2 = eqb-true a.2 b.2 g in
          absurd (never (λ i. (sym p i, sym q i, sym r i)))
      | inr g ↦ rw (e, f, g) refl
    ]
    | inr f ↦ rw (e, f) refl
  ]
  | inr e ↦ rw e refl
]

from_to_is : (low high n : ℕ) → IsFromTo low high n → is_from_to low high n ≡ true
from_to_is low high n h = rw (le-leb low n h.0, le-leb n high h.1) refl

running_seen : Net → List ((ℕ × ℕ) × Times) → Net
running_seen net rows = record net { running = rows }

running_read : (net : Net) (all before after : List ((ℕ × ℕ) × Times)) (r : (ℕ × ℕ) × Times) (row : ℕ) → AreNames net.track_names → AreNames net.types
    → All (IsRunningRow (length net.track_names) (length net.types)) all → AllDiffer (keys_of all) → before ++ r ∷ after ≡ all
    → running_row (running_seen net before) row (running_record net.track_names net.types r) ≡ Ok (running_seen net (before ++ r ∷ []))
unfolding running_row running_seen
running_read net all before after r row tracks types rows differ e =
    let is : IsRunningRow (length net.track_names) (length net.types) r = all_between (IsRunningRow (length net.track_names) (length net.types)) all before after r rows e in
    let track_is = name_at_place net.track_names r.0.0 tracks is.0 in
    let kind_is = name_at_place net.types r.0.1 types is.1 in
    let track = place_at net.track_names r.0.0 tracks.differ is.0 in
    let kind = place_at net.types r.0.1 types.differ is.1 in
    let a = from_to_is 1 240 r.1.pass_pass is.2.pass_pass in
    let b = from_to_is 1 240 r.1.pass_halt is.2.pass_halt in
    let c = from_to_is 1 240 r.1.halt_pass is.2.halt_pass in
    let d = from_to_is 1 240 r.1.halt_halt is.2.halt_halt in
    let al = is.2.pass_pass.1 in
    let bl = is.2.pass_halt.1 in
    let cl = is.2.halt_pass.1 in
    let dl = is.2.halt_halt.1 in
    let small_a : r.1.pass_pass < 10 ^ 10 = omega arith in
    let small_b : r.1.pass_halt < 10 ^ 10 = omega arith in
    let small_c : r.1.halt_pass < 10 ^ 10 = omega arith in
    let small_d : r.1.halt_halt < 10 ^ 10 = omega arith in
    let new : lookup (same_pair (r.0.0, r.0.1)) before ≡ None = none_found (same_pair r.0) before (λ k d l. pair_apart r.0 (get_or before k d).0 (row_between all before after r differ e k d l)) in
    let form : is_row 6 (running_record net.track_names net.types r) ≡ true =
    rw (name_utf8 (named net.track_names r.0.0) track_is, name_utf8 (named net.types r.0.1) kind_is, decimal_utf8 r.1.pass_pass small_a, decimal_utf8 r.1.pass_halt small_b, decimal_utf8 r.1.halt_pass small_c, decimal_utf8 r.1.halt_halt small_d) refl in
    let read_track = name_read Running row (running_record net.track_names net.types r) 0 (named net.track_names r.0.0) refl track_is in
    let read_kind = name_read Running row (running_record net.track_names net.types r) 1 (named net.types r.0.1) refl kind_is in
    let read_a = number_read Running row (running_record net.track_names net.types r) 2 r.1.pass_pass refl small_a in
    let read_b = number_read Running row (running_record net.track_names net.types r) 3 r.1.pass_halt refl small_b in
    let read_c = number_read Running row (running_record net.track_names net.types r) 4 r.1.halt_pass refl small_c in
    let read_d = number_read Running row (running_record net.track_names net.types r) 5 r.1.halt_halt refl small_d in
    rw (form, read_track, read_kind, read_a, read_b, read_c, read_d, track, kind, a, b, c, d, new) refl

headways_seen : Net → List ((ℕ × ℕ × ℕ) × ℕ) → Net
headways_seen net rows = record net { headways = rows }

headway_read : (net : Net) (all before after : List ((ℕ × ℕ × ℕ) × ℕ)) (r : (ℕ × ℕ × ℕ) × ℕ) (row : ℕ) → AreNames net.track_names → AreNames net.types
    → All (IsHeadwayRow (length net.track_names) (length net.types)) all → AllDiffer (keys_of all) → before ++ r ∷ after ≡ all
    → headway_row (headways_seen net before) row (headway_record net.track_names net.types r) ≡ Ok (headways_seen net (before ++ r ∷ []))
unfolding headway_row headways_seen
headway_read net all before after r row tracks types rows differ e =
    let is : IsHeadwayRow (length net.track_names) (length net.types) r = all_between (IsHeadwayRow (length net.track_names) (length net.types)) all before after r rows e in
    let track_is = name_at_place net.track_names r.0.0 tracks is.0 in
    let first_is = name_at_place net.types r.0.1 types is.1 in
    let second_is = name_at_place net.types r.0.2 types is.2 in
    let track = place_at net.track_names r.0.0 tracks.differ is.0 in
    let first = place_at net.types r.0.1 types.differ is.1 in
    let second = place_at net.types r.0.2 types.differ is.2 in
    let range = from_to_is 1 120 r.1 is.3 in
    let most = is.3.1 in
    let small : r.1 < 10 ^ 10 = omega arith in
    let new : lookup (same_triple (r.0.0, r.0.1, r.0.2)) before ≡ None = none_found (same_triple r.0) before (λ k d l. triple_apart r.0 (get_or before k d).0 (row_between all before after r differ e k d l)) in
    let form : is_row 4 (headway_record net.track_names net.types r) ≡ true =
    rw (name_utf8 (named net.track_names r.0.0) track_is, name_utf8 (named net.types r.0.1) first_is, name_utf8 (named net.types r.0.2) second_is, decimal_utf8 r.1 small) refl in
    let read_track = name_read Headways row (headway_record net.track_names net.types r) 0 (named net.track_names r.0.0) refl track_is in
    let read_first = name_read Headways row (headway_record net.track_names net.types r) 1 (named net.types r.0.1) refl first_is in
    let read_second = name_read Headways row (headway_record net.track_names net.types r) 2 (named net.types r.0.2) refl second_is in
    let read = number_read Headways row (headway_record net.track_names net.types r) 3 r.1 refl small in
    rw (form, read_track, read_first, read_second, read, track, first, second, range, new) refl

-- ---- the tables

name_shown : (name : Field) → is_name name ≡ true → is_shown (name ∷ []) ≡ true
name_shown [] is = absurd (cc is)
name_shown (b ∷ name) is = ap not (ne_eqb (suc (length name)) 0 (λ e. let f : suc (length name) ≡ 0 = e in absurd (omega arith)))

names_shown : (names : List Field) → All (λ name. IsTrue (is_name name)) names → AreShown (map station_record names)
names_shown [] all = tt
names_shown (name ∷ names) all = (name_shown name (all 0 name (omega arith)), names_shown names (λ k d l. all (suc k) d (omega arith)))

tracks_shown : (stations : List Field) (tracks : List NamedTrack) → AreShown (map (track_record stations) tracks)
tracks_shown stations [] = tt
tracks_shown stations (t ∷ tracks) = (refl, tracks_shown stations tracks)

running_shown : (tracks types : List Field) (rows : List ((ℕ × ℕ) × Times)) → AreShown (map (running_record tracks types) rows)
running_shown tracks types [] = tt
running_shown tracks types (r ∷ rows) = (refl, running_shown tracks types rows)

headways_shown : (tracks types : List Field) (rows : List ((ℕ × ℕ × ℕ) × ℕ)) → AreShown (map (headway_record tracks types) rows)
headways_shown tracks types [] = tt
headways_shown tracks types (r ∷ rows) = (refl, headways_shown tracks types rows)

stations_back : (all : List Field) → AreNames all → length all ≤ 300 → table_read station_row Stations stations_header empty_net (records_text (stations_header ∷ map station_record all)) ≡ Ok (stations_seen all)
unfolding stations_seen
stations_back all are few =
    table_means station_row Stations stations_header empty_net (map station_record all) (refl, names_shown all are.each) (λ e. absurd (omega (arith, e)))
    ∙ rows_add station_row station_record stations_seen all (λ before after name row e. station_read all before after name row are few e) [] all 2 refl

tracks_back : (stations : List Field) (all : List NamedTrack) → AreNames stations → AreNames (track_names all) → All (AreEnds (length stations)) (ends_of all) → length (ends_of all) ≤ 1000
    → table_read track_row Tracks tracks_header (stations_seen stations) (records_text (tracks_header ∷ map (track_record stations) all)) ≡ Ok (tracks_seen stations all)
unfolding stations_seen tracks_seen
tracks_back stations all names are ends few =
    table_means track_row Tracks tracks_header (stations_seen stations) (map (track_record stations) all) (refl, tracks_shown stations all) (λ e. absurd (omega (arith, e)))
    ∙ rows_add track_row (track_record stations) (tracks_seen stations) all (λ before after t row e. track_read stations all before after t row names are ends few e) [] all 2 refl

types_back : (net : Net) (all : List Field) → net.types ≡ [] → AreNames all → length all ≤ 16 → table_read type_row Types types_header net (records_text (types_header ∷ map station_record all)) ≡ Ok (types_seen net all)
unfolding types_seen
types_back net all none are few =
    table_means type_row Types types_header net (map station_record all) (refl, names_shown all are.each) (λ e. absurd (omega (arith, e)))
    ∙ subst (λ (start : Net). rows_from type_row start 2 (map station_record all) ≡ Ok (types_seen net all)) start
    (rows_add type_row station_record (types_seen net) all (λ before after name row e. type_read net all before after name row are few e) [] all 2 refl)
  where
    start : types_seen net [] ≡ net
    start i = record net { types = sym none i }

running_back : (net : Net) (all : List ((ℕ × ℕ) × Times)) → net.running ≡ [] → AreNames net.track_names → AreNames net.types → All (IsRunningRow (length net.track_names) (length net.types)) all → AllDiffer (keys_of all)
    → table_read running_row Running running_header net (records_text (running_header ∷ map (running_record net.track_names net.types) all)) ≡ Ok (running_seen net all)
unfolding running_seen
running_back net all none tracks types rows differ =
    table_means running_row Running running_header net (map (running_record net.track_names net.types) all) (refl, running_shown net.track_names net.types all) (λ e. absurd (omega (arith, e)))
    ∙ subst (λ (start : Net). rows_from running_row start 2 (map (running_record net.track_names net.types) all) ≡ Ok (running_seen net all)) start
    (rows_add running_row (running_record net.track_names net.types) (running_seen net) all (λ before after r row e. running_read net all before after r row tracks types rows differ e) [] all 2 refl)
  where
    start : running_seen net [] ≡ net
    start i = record net { running = sym none i }

headways_back : (net : Net) (all : List ((ℕ × ℕ × ℕ) × ℕ)) → net.headways ≡ [] → AreNames net.track_names → AreNames net.types → All (IsHeadwayRow (length net.track_names) (length net.types)) all → AllDiffer (keys_of all)
    → table_read headway_row Headways headways_header net (records_text (headways_header ∷ map (headway_record net.track_names net.types) all)) ≡ Ok (headways_seen net all)
unfolding headways_seen
headways_back net all none tracks types rows differ =
    table_means headway_row Headways headways_header net (map (headway_record net.track_names net.types) all) (refl, headways_shown net.track_names net.types all) (λ e. absurd (omega (arith, e)))
    ∙ subst (λ (start : Net). rows_from headway_row start 2 (map (headway_record net.track_names net.types) all) ≡ Ok (headways_seen net all)) start
    (rows_add headway_row (headway_record net.track_names net.types) (headways_seen net) all (λ before after r row e. headway_read net all before after r row tracks types rows differ e) [] all 2 refl)
  where
    start : headways_seen net [] ≡ net
    start i = record net { headways = sym none i }

-- the tables that are written of a network mean it
pub network_means : (parts : Parts) → IsProper (net_of parts) → network_of (tables_of parts) ≡ Ok (net_of parts)
unfolding first_network_of after_stations stations_seen tracks_seen types_seen running_seen headways_seen
network_means parts proper =
    let built = proper.built in
    let names = built.names.names_of_tracks in
    let lengths : length (ends_of parts.tracks) ≡ length (track_names parts.tracks) = sym built.named in
    let one = stations_back parts.stations built.names.station_names built.counts.few_stations in
    let two = tracks_back parts.stations parts.tracks built.names.station_names names built.ends built.counts.few_tracks in
    let three = types_back (tracks_seen parts.stations parts.tracks) parts.types refl built.names.type_names built.counts.few_types in
    let running = subst (λ (n : ℕ). All (IsRunningRow n (length parts.types)) parts.running) lengths built.running.each in
    let headways = subst (λ (n : ℕ). All (IsHeadwayRow n (length parts.types)) parts.headways) lengths built.headways.each in
    let four = running_back (types_seen (tracks_seen parts.stations parts.tracks) parts.types) parts.running refl names built.names.type_names running built.running.once in
    let five = headways_back (running_seen (types_seen (tracks_seen parts.stations parts.tracks) parts.types) parts.running) parts.headways refl names built.names.type_names headways built.headways.once in
    let whole = complete_from (net_of parts) proper.complete in
    rw (one, two, three, four, five, whole) refl

-- ---- its version

-- the header of version 1 isn't that of version 2
one_field : (first : Record) → pointwise bytes_eq first stations_header ≡ true → pointwise bytes_eq first limited_stations_header ≡ false
one_field [] e = refl
one_field (x ∷ []) e = short (bytes_eq x (codes "station"))
  where
    short : (b : Bool) → (b && false) ≡ false
    short true = refl
    short false = refl
one_field (x ∷ y ∷ more) e = long (bytes_eq x (codes "station")) e
  where
    long : {X : Type 0} (b : Bool) → (b && false) ≡ true → X
    long true h = absurd (cc h)
    long false h = absurd (cc h)

-- stations that are read under the header of version 1 are of version 1
first_version : (bytes : List ℕ) (known net : Net) → table_read station_row Stations stations_header known bytes ≡ Ok net → version_of bytes ≡ 1
unfolding table_of rows_under
first_version bytes known net is = go (table_records bytes) is
  where
    go : (rows : List Record) → and_then (rows_under (fault Stations 1 kinds.Header) stations_header rows) (λ rest. rows_from station_row known 2 rest) ≡ Ok net
        → ◌≡◌ {A = ℕ} (if is_ok (rows_under (tt {0}) limited_stations_header rows) then 2 else 1) 1
    go [] e = refl
    go (first ∷ rest) e = by (pointwise bytes_eq first stations_header) refl e
      where
        by : (b : Bool) → pointwise bytes_eq first stations_header ≡ b
            → and_then (if b then Ok rest else Err (fault Stations 1 kinds.Header)) (λ rest. rows_from station_row known 2 rest) ≡ Ok net
            → ◌≡◌ {A = ℕ} (if is_ok (rows_under (tt {0}) limited_stations_header (first ∷ rest)) then 2 else 1) 1
        by true is e = rw (one_field first is) refl
        by false is e = absurd (cc e)

pub tables_version : (parts : Parts) → IsProper (net_of parts) → version_of (tables_of parts).stations ≡ 1
tables_version parts proper =
    first_version (tables_of parts).stations empty_net (stations_seen parts.stations)
    (stations_back parts.stations proper.built.names.station_names proper.built.counts.few_stations)
