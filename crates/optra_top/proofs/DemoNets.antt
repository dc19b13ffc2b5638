-- The network of a demo, and that its tables are those that are written of it.
use Rattle.std.proofs.Common.{◌≡◌, ◌≢◌, ℕ, zero, suc, ◌+◌, ◌-◌, ◌*◌, ◌<◌, ◌≤◌, ◌^◌, ◌++◌, Bool, true, false, cond, List, [], ◌∷◌, map, length, get_or, Option, None, Some, IsSome, IfSome, is_some, slice_index, nat_eq, if◌then◌else◌, refl, sym, ap, ◌∙◌, subst, arith, length-append}
use Rattle.std.specs.Prelude.{All, IsTrue, codes}
use Rattle.std.specs.List.{flat_map, range_with_len}
use Rattle.std.specs.Map.{keys_of, lookup}
use Rattle.std.proofs.lemmas.Bool.{eq-eqb}
use Rattle.std.proofs.lemmas.List.{get_or-map, length-map, map-append}
use Rattle.std.proofs.lemmas.List.Elements.{All-append, All-cons, All-map, All-nil}
use Rattle.std.proofs.lemmas.List.FromFn.{get_or-map-range_with_len, get_or-range_with_len, length-map-range_with_len, length-range_with_len}
use Rattle.std.proofs.lemmas.Option.{unwrap_or-slice_get}
use Rattle.std.proofs.lemmas.Str.Ascii.{IsAscii-cons, IsAscii-nil}
use Rattle.optra_network.specs.Names.{AllDiffer, AreNames, is_name}
use Rattle.optra_network.specs.Net.{AreEnds, AreTimes, HasAllHeadways, IsBuilt, IsCrossingRow, IsFromTo, IsHeadwayRow, IsLimitRow, IsProper, IsRunningRow, MayUse, same_triple, times_of}
use Rattle.optra_network.specs.declared.StationId.{StationId}
use Rattle.optra_network.specs.declared.Times.{Times}
use Rattle.optra_network.specs.declared.TrackId.{TrackId}
use Rattle.optra_network.specs.declared.TypeId.{TypeId}
use Rattle.optra_network.proofs.CrossingLemmas.{no_crossings}
use Rattle.optra_network.proofs.NetLemmas.{AreRowsOf-none, times_built}
use Rattle.optra_records.specs.Reading.{Field, Record}
use Rattle.optra_tables.specs.Written.{named as place_named}
use Rattle.optra_demo.specs.Kinds.{all_kinds, extra_of, kind_name}
use Rattle.optra_demo.specs.Names.{back_name, onward_name, station_name}
use Rattle.optra_demo.specs.Networks.{headway_minutes, headway_rows, running_rows, segments, station_rows, track_rows}
use Rattle.optra_demo.specs.declared.kinds.Kind.{Kind}
use Rattle.optra_demo.specs.declared.kinds.Kind.TheVariants.{Ic, Re, Fr}
use Rattle.optra_top.proofs.DemoNames.{ascii_name, back_is, letter_once, onward_is, station_is, track_code, track_code_back, track_code_onward}
use Rattle.optra_top.proofs.NetsWritten.{NamedTrack, Parts, ends_of, headway_record, net_of, running_record, station_record, track_names, track_record}

-- ---- the network

abbrev pub kind_place : Kind → ℕ
kind_place Ic = 0
kind_place Re = 1
kind_place Fr = 2

abbrev pub onward_track : ℕ → NamedTrack
onward_track i = (onward_name i, record { tail = record { 0 = i - 1 }; head = record { 0 = i } })

abbrev pub back_track : ℕ → NamedTrack
back_track i = (back_name i, record { tail = record { 0 = i }; head = record { 0 = i - 1 } })

-- the two tracks of a segment
abbrev pub track_pair : ℕ → List NamedTrack
track_pair i = onward_track i ∷ back_track i ∷ []

abbrev pub times_with : ℕ → Kind → Times
times_with minutes kind = record {
  pass_pass = minutes + extra_of kind;
  pass_halt = minutes + extra_of kind + 1;
  halt_pass = minutes + extra_of kind + 1;
  halt_halt = minutes + extra_of kind + 2;
}

abbrev pub running_of : ℕ → ℕ → List ((ℕ × ℕ) × Times)
running_of track minutes = map (λ kind. ((track, kind_place kind), times_with minutes kind)) all_kinds

abbrev pub running_pair : List ℕ → ℕ → List ((ℕ × ℕ) × Times)
running_pair minutes i = running_of (2 * i - 2) (slice_index minutes (i - 1)) ++ running_of (2 * i - 1) (slice_index minutes (i - 1))

abbrev pub headways_of : ℕ → List ((ℕ × ℕ × ℕ) × ℕ)
headways_of track = flat_map (λ first. map (λ second. ((track, kind_place first, kind_place second), headway_minutes first second)) all_kinds) all_kinds

abbrev pub headway_pair : ℕ → List ((ℕ × ℕ × ℕ) × ℕ)
headway_pair i = headways_of (2 * i - 2) ++ headways_of (2 * i - 1)

pub record Fits (minutes : List ℕ) : Type 0 where
  pub some : 1 ≤ length minutes
  pub few : length minutes ≤ 35
  pub each : All (λ d. (1 ≤ d) × (d ≤ 8)) minutes

abbrev pub demo_parts : List ℕ → Parts
demo_parts minutes = record {
  stations = map station_name (range_with_len 1 (length minutes + 1));
  tracks = flat_map track_pair (segments (length minutes));
  types = map kind_name all_kinds;
  running = flat_map (running_pair minutes) (segments (length minutes));
  headways = flat_map headway_pair (segments (length minutes));
}

-- ---- lists that are made of a range

all_flat : {X : Type 0} (P : X → Type 0) (f : ℕ → List X) (a c : ℕ) → ((i : ℕ) → a ≤ i → i < a + c → All P (f i)) → All P (flat_map f (range_with_len a c))
all_flat P f a zero h = All-nil P
all_flat P f a (suc c) h = All-append P (f a) (flat_map f (range_with_len (a + 1) c)) (h a (omega arith) (omega arith)) (all_flat P f (a + 1) c (λ i l m. h i (omega arith) (omega arith)))

length_flat : {X : Type 0} (f : ℕ → List X) (m a c : ℕ) → ((i : ℕ) → length (f i) ≡ m) → length (flat_map f (range_with_len a c)) ≡ c * m
length_flat f m a zero h = omega arith
length_flat f m a (suc c) h =
    let l = length-append (f a) (flat_map f (range_with_len (a + 1) c)) in
    let r = length_flat f m (a + 1) c h in
    let e = h a in
    omega arith

-- rows by groups, written group by group
grouped : {P : Type 0} (w : P → Record) (f : ℕ → List Record) (g : ℕ → List P) (a c : ℕ) → ((i : ℕ) → a ≤ i → i < a + c → f i ≡ map w (g i)) → flat_map f (range_with_len a c) ≡ map w (flat_map g (range_with_len a c))
grouped w f g a zero h = refl
grouped w f g a (suc c) h =
    let rest = grouped w f g (a + 1) c (λ i l m. h i (omega arith) (omega arith)) in
    let first = h a (omega arith) (omega arith) in
    let joined = map-append w (g a) (flat_map g (range_with_len (a + 1) c)) in
    ap (λ (rows : List Record). rows ++ flat_map f (range_with_len (a + 1) c)) first ∙ ap (λ (rows : List Record). map w (g a) ++ rows) rest ∙ sym joined

module _ {X : Type 0} (code : X → ℕ) where
  -- each element's code is its place
  pub AtPlaces : ℕ → List X → Type 0
  AtPlaces s xs = (k : ℕ) (d : X) → k < length xs → code (get_or xs k d) ≡ s + k

  places_append : (s t : ℕ) (xs ys : List X) → AtPlaces s xs → t ≡ s + length xs → AtPlaces t ys → AtPlaces s (xs ++ ys)
  unfolding AtPlaces
  places_append s t [] ys first e rest k d l = let r = rest k d l in omega (arith, e)
  places_append s t (x ∷ xs) ys first e rest zero d l = first 0 d (omega arith)
  places_append s t (x ∷ xs) ys first e rest (suc k) d l =
      let r = places_append (s + 1) t xs ys (λ j f m. let h = first (suc j) f (omega arith) in omega arith) (omega (arith, e)) rest k d (omega arith) in
      omega arith

  places_flat : (f : ℕ → List X) (m a c s : ℕ) → ((i : ℕ) → length (f i) ≡ m) → ((i : ℕ) → a ≤ i → AtPlaces (s + (i - a) * m) (f i)) → AtPlaces s (flat_map f (range_with_len a c))
  unfolding AtPlaces
  places_flat f m a zero s len h = λ k d l. absurd (omega arith)
  places_flat f m a (suc c) s len h =
      let e = len a in
      let zero_first : s + (a - a) * m ≡ s = ap (λ (n : ℕ). s + n * m) (zero_of a) ∙ omega arith in
      places_append s (s + m) (f a) (flat_map f (range_with_len (a + 1) c)) (subst (λ (n : ℕ). AtPlaces n (f a)) zero_first (h a (omega arith))) (omega arith)
      (places_flat f m (a + 1) c (s + m) len (λ i l. subst (λ (n : ℕ). AtPlaces n (f i)) (next i l) (h i (omega arith))))
    where
      zero_of : (n : ℕ) → n - n ≡ 0
      zero_of n = omega arith

      next : (i : ℕ) → a + 1 ≤ i → s + (i - a) * m ≡ s + m + (i - (a + 1)) * m
      next i l = let e : i - a ≡ suc (i - (a + 1)) = omega arith in ap (λ (n : ℕ). s + n * m) e ∙ omega arith

  places_differ : (s : ℕ) (xs : List X) → AtPlaces s xs → AllDiffer xs
  unfolding AtPlaces
  places_differ s xs h i j d l m e =
      let a = h i d (omega arith) in
      let b = h j d m in
      let c = ap code e in
      omega arith

-- ---- names and places

segment_small : (c i : ℕ) → c ≤ 35 → i < 1 + c → i < 10 ^ 10
segment_small c i few l = omega arith

-- the name of a station at its place
pub station_at : (n i : ℕ) → i < n → place_named (map station_name (range_with_len 1 n)) i ≡ station_name (1 + i)
station_at n i l = unwrap_or-slice_get (map station_name (range_with_len 1 n)) i [] ∙ get_or-map-range_with_len station_name 1 n i (1 + i) [] l refl

stations_are : (n : ℕ) → n ≤ 36 → AreNames (map station_name (range_with_len 1 n))
stations_are n few = record {
  each = All-map (λ (name : Field). IsTrue (is_name name)) station_name (range_with_len 1 n) (λ k d l.
      let len = length-range_with_len 1 n in
      let at : get_or (range_with_len 1 n) k d ≡ 1 + k = get_or-range_with_len 1 n k d (omega arith) in
      station_is (get_or (range_with_len 1 n) k d) (omega arith));
  differ = λ i j d l m e.
      let len = length-map-range_with_len station_name 1 n in
      let a : get_or (map station_name (range_with_len 1 n)) i d ≡ station_name (1 + i) = get_or-map-range_with_len station_name 1 n i (1 + i) d (omega arith) refl in
      let b : get_or (map station_name (range_with_len 1 n)) j d ≡ station_name (1 + j) = get_or-map-range_with_len station_name 1 n j (1 + j) d (omega arith) refl in
      let same : 1 + i ≡ 1 + j = letter_once 83 (1 + i) (1 + j) (omega arith) (omega arith) (sym a ∙ e ∙ b) in
      omega arith;
}

names-flat : (f : ℕ → List NamedTrack) (a c : ℕ) → track_names (flat_map f (range_with_len a c)) ≡ flat_map (λ i. track_names (f i)) (range_with_len a c)
names-flat f a zero = refl
names-flat f a (suc c) = map-append (λ (t : NamedTrack). t.0) (f a) (flat_map f (range_with_len (a + 1) c)) ∙ ap (λ (names : List Field). track_names (f a) ++ names) (names-flat f (a + 1) c)

pair_names : ℕ → List Field
pair_names i = onward_name i ∷ back_name i ∷ []

all_names : ℕ → List Field
all_names c = flat_map pair_names (range_with_len 1 c)

all_names_are : (c : ℕ) → track_names (flat_map track_pair (segments c)) ≡ all_names c
unfolding all_names pair_names
all_names_are c = names-flat track_pair 1 c

names_few : (a c : ℕ) (f : ℕ → List Field) (g : ℕ → List Field) → ((i : ℕ) → a ≤ i → i < a + c → f i ≡ g i) → flat_map f (range_with_len a c) ≡ flat_map g (range_with_len a c)
names_few a zero f g h = refl
names_few a (suc c) f g h =
    ap (λ (xs : List Field). xs ++ flat_map f (range_with_len (a + 1) c)) (h a (omega arith) (omega arith))
    ∙ ap (λ (xs : List Field). g a ++ xs) (names_few (a + 1) c f g (λ i l m. h i (omega arith) (omega arith)))

-- each name's code is its place, as far as numbers are small
names_at : (a c s : ℕ) → 1 ≤ a → a + c ≤ 100 → s ≡ 2 * a - 2 → AtPlaces track_code s (flat_map pair_names (range_with_len a c))
unfolding pair_names AtPlaces
names_at a zero s some few e k d l = absurd (omega arith)
names_at a (suc c) s some few e zero d l = track_code_onward a (omega arith) ∙ omega (arith, e)
names_at a (suc c) s some few e (suc zero) d l = let b = track_code_back a (omega arith) in b ∙ omega (arith, e)
names_at a (suc c) s some few e (suc (suc k)) d l = let r = names_at (a + 1) c (s + 2) (omega arith) (omega arith) (omega (arith, e)) k d (omega arith) in r ∙ omega arith

names_length : (a c : ℕ) → length (flat_map pair_names (range_with_len a c)) ≡ 2 * c
unfolding pair_names
names_length a c = length_flat (λ i. onward_name i ∷ back_name i ∷ []) 2 a c (λ i. refl) ∙ omega arith

names_each : (a c : ℕ) → a + c ≤ 100 → All (λ name. IsTrue (is_name name)) (flat_map pair_names (range_with_len a c))
unfolding pair_names
names_each a c few = all_flat (λ (name : Field). IsTrue (is_name name)) (λ i. onward_name i ∷ back_name i ∷ []) a c (λ i l m.
    All-cons (λ (name : Field). IsTrue (is_name name)) (onward_name i) (back_name i ∷ []) (onward_is i (omega arith))
    (All-cons (λ (name : Field). IsTrue (is_name name)) (back_name i) [] (back_is i (omega arith)) (All-nil (λ (name : Field). IsTrue (is_name name)))))

tracks_are : (c : ℕ) → c ≤ 35 → AreNames (all_names c)
unfolding all_names
tracks_are c few = record {
  each = names_each 1 c (omega arith);
  differ = places_differ track_code 0 (flat_map pair_names (range_with_len 1 c)) (names_at 1 c 0 (omega arith) (omega arith) (omega arith));
}

-- the names of the tracks at their places
names_pair : (a c i : ℕ) (d : Field) → i < c → (get_or (flat_map pair_names (range_with_len a c)) (2 * i) d ≡ onward_name (a + i)) × (get_or (flat_map pair_names (range_with_len a c)) (2 * i + 1) d ≡ back_name (a + i))
unfolding pair_names
names_pair a zero i d l = absurd (omega arith)
names_pair a (suc c) zero d l = let e : a ≡ a + 0 = omega arith in (ap onward_name e, ap back_name e)
names_pair a (suc c) (suc i) d l =
    let rest = names_pair (a + 1) c i d (omega arith) in
    let e : a + 1 + i ≡ a + suc i = omega arith in
    let x : 2 * suc i ≡ suc (suc (2 * i)) = omega arith in
    let y : 2 * suc i + 1 ≡ suc (suc (2 * i + 1)) = omega arith in (
      ap (λ (k : ℕ). get_or (flat_map (λ n. onward_name n ∷ back_name n ∷ []) (range_with_len a (suc c))) k d) x ∙ rest.0 ∙ ap onward_name e,
      ap (λ (k : ℕ). get_or (flat_map (λ n. onward_name n ∷ back_name n ∷ []) (range_with_len a (suc c))) k d) y ∙ rest.1 ∙ ap back_name e,
    )

onward_at : (c i : ℕ) → 1 ≤ i → i < 1 + c → place_named (all_names c) (2 * i - 2) ≡ onward_name i
unfolding all_names
onward_at c i some l =
    let p = (names_pair 1 c (i - 1) [] (omega arith)).0 in
    let x : 2 * i - 2 ≡ 2 * (i - 1) = omega arith in
    let y : 1 + (i - 1) ≡ i = omega arith in
    unwrap_or-slice_get (flat_map pair_names (range_with_len 1 c)) (2 * i - 2) [] ∙ ap (λ (k : ℕ). get_or (flat_map pair_names (range_with_len 1 c)) k []) x ∙ p ∙ ap onward_name y

back_at : (c i : ℕ) → 1 ≤ i → i < 1 + c → place_named (all_names c) (2 * i - 1) ≡ back_name i
unfolding all_names
back_at c i some l =
    let p = (names_pair 1 c (i - 1) [] (omega arith)).1 in
    let x : 2 * i - 1 ≡ 2 * (i - 1) + 1 = omega arith in
    let y : 1 + (i - 1) ≡ i = omega arith in
    unwrap_or-slice_get (flat_map pair_names (range_with_len 1 c)) (2 * i - 1) [] ∙ ap (λ (k : ℕ). get_or (flat_map pair_names (range_with_len 1 c)) k []) x ∙ p ∙ ap back_name y

kind_text : (kind : Kind) → is_name (kind_name kind) ≡ true
kind_text Ic = ascii_name (codes "ic") (IsAscii-cons 105 (99 ∷ []) (omega arith) (IsAscii-cons 99 [] (omega arith) IsAscii-nil)) (omega arith) (omega arith) refl
kind_text Re = ascii_name (codes "re") (IsAscii-cons 114 (101 ∷ []) (omega arith) (IsAscii-cons 101 [] (omega arith) IsAscii-nil)) (omega arith) (omega arith) refl
kind_text Fr = ascii_name (codes "fr") (IsAscii-cons 102 (114 ∷ []) (omega arith) (IsAscii-cons 114 [] (omega arith) IsAscii-nil)) (omega arith) (omega arith) refl

kind_code : Field → ℕ
kind_code [] = 0
kind_code (b ∷ text) = if nat_eq b 105 then 0 else (if nat_eq b 114 then 1 else 2)

kinds_are : AreNames (map kind_name all_kinds)
unfolding AtPlaces kind_code
kinds_are = record {
  each = All-map (λ (name : Field). IsTrue (is_name name)) kind_name all_kinds (λ k d l. kind_text (get_or all_kinds k d));
  differ = places_differ kind_code 0 (map kind_name all_kinds) places;
}
  where
    places : (k : ℕ) (d : Field) → k < 3 → kind_code (get_or (map kind_name all_kinds) k d) ≡ 0 + k
    places zero d l = refl
    places (suc zero) d l = refl
    places (suc (suc zero)) d l = refl
    places (suc (suc (suc k))) d l = absurd (omega arith)

-- ---- running times and headways

running_code : ℕ × ℕ → ℕ
running_code key = 3 * key.0 + key.1

headway_code : ℕ × ℕ × ℕ → ℕ
headway_code key = 9 * key.0 + 3 * key.1 + key.2

keys-flat : {K V : Type 0} (f : ℕ → List (K × V)) (a c : ℕ) → keys_of (flat_map f (range_with_len a c)) ≡ flat_map (λ i. keys_of (f i)) (range_with_len a c)
keys-flat f a zero = refl
keys-flat {K} {V} f a (suc c) = map-append (λ (r : K × V). r.0) (f a) (flat_map f (range_with_len (a + 1) c)) ∙ ap (λ (keys : List K). keys_of (f a) ++ keys) (keys-flat f (a + 1) c)

running_places : (minutes : List ℕ) (c : ℕ) → AtPlaces running_code 0 (keys_of (flat_map (running_pair minutes) (segments c)))
unfolding AtPlaces running_code
running_places minutes c = subst (AtPlaces running_code 0) (sym (keys-flat (running_pair minutes) 1 c)) (places_flat running_code (λ i. keys_of (running_pair minutes i)) 6 1 c 0 (λ i. refl) each)
  where
    each : (i : ℕ) → 1 ≤ i → AtPlaces running_code (0 + (i - 1) * 6) (keys_of (running_pair minutes i))
    each i l zero d m = omega arith
    each i l (suc zero) d m = omega arith
    each i l (suc (suc zero)) d m = omega arith
    each i l (suc (suc (suc zero))) d m = omega arith
    each i l (suc (suc (suc (suc zero)))) d m = omega arith
    each i l (suc (suc (suc (suc (suc zero))))) d m = omega arith
    each i l (suc (suc (suc (suc (suc (suc k)))))) d m = absurd (omega arith)

track_places : (t : ℕ) → AtPlaces headway_code (9 * t) (keys_of (headways_of t))
unfolding AtPlaces headway_code
track_places t zero d m = omega arith
track_places t (suc zero) d m = omega arith
track_places t (suc (suc zero)) d m = omega arith
track_places t (suc (suc (suc zero))) d m = omega arith
track_places t (suc (suc (suc (suc zero)))) d m = omega arith
track_places t (suc (suc (suc (suc (suc zero))))) d m = omega arith
track_places t (suc (suc (suc (suc (suc (suc zero)))))) d m = omega arith
track_places t (suc (suc (suc (suc (suc (suc (suc zero))))))) d m = omega arith
track_places t (suc (suc (suc (suc (suc (suc (suc (suc zero)))))))) d m = omega arith
track_places t (suc (suc (suc (suc (suc (suc (suc (suc (suc k))))))))) d m = absurd (omega arith)

headway_places : (c : ℕ) → AtPlaces headway_code 0 (keys_of (flat_map headway_pair (segments c)))
headway_places c = subst (AtPlaces headway_code 0) (sym (keys-flat headway_pair 1 c)) (places_flat headway_code (λ i. keys_of (headway_pair i)) 18 1 c 0 (λ i. refl) each)
  where
    each : (i : ℕ) → 1 ≤ i → AtPlaces headway_code (0 + (i - 1) * 18) (keys_of (headway_pair i))
    each i l =
        let first : 9 * (2 * i - 2) ≡ 0 + (i - 1) * 18 = omega arith in
        places_append headway_code (0 + (i - 1) * 18) (9 * (2 * i - 1)) (keys_of (headways_of (2 * i - 2))) (keys_of (headways_of (2 * i - 1)))
        (subst (λ (n : ℕ). AtPlaces headway_code n (keys_of (headways_of (2 * i - 2)))) first (track_places (2 * i - 2))) (omega arith) (track_places (2 * i - 1))

-- ---- what the network keeps

three_kinds : {X : Type 0} (P : X → Type 0) (f : Kind → X) → ((kind : Kind) → P (f kind)) → All P (map f all_kinds)
three_kinds P f h = All-map P f all_kinds (λ k d l. h (get_or all_kinds k d))

kind_small : (kind : Kind) → kind_place kind < 3
kind_small Ic = omega arith
kind_small Re = omega arith
kind_small Fr = omega arith

extra_small : (kind : Kind) → extra_of kind ≤ 4
extra_small Ic = omega arith
extra_small Re = omega arith
extra_small Fr = omega arith

times_are : (minutes : ℕ) (kind : Kind) → 1 ≤ minutes → minutes ≤ 8 → AreTimes (times_with minutes kind)
times_are minutes kind low high =
    let e = extra_small kind in
    record { pass_pass = (omega arith, omega arith); pass_halt = (omega arith, omega arith); halt_pass = (omega arith, omega arith); halt_halt = (omega arith, omega arith) }

running_rows_are : (c tracks track minutes : ℕ) → track < tracks → 1 ≤ minutes → minutes ≤ 8 → All (IsRunningRow tracks 3) (running_of track minutes)
running_rows_are c tracks track minutes l low high =
    three_kinds (IsRunningRow tracks 3) (λ kind. ((track, kind_place kind), times_with minutes kind)) (λ kind. (l, kind_small kind, times_are minutes kind low high))

headway_small : (first second : Kind) → IsFromTo 1 120 (headway_minutes first second)
headway_small first second = let e = extra_small first in (omega arith, omega arith)

headways_behind : ℕ → Kind → List ((ℕ × ℕ × ℕ) × ℕ)
headways_behind track first = map (λ second. ((track, kind_place first, kind_place second), headway_minutes first second)) all_kinds

headway_rows_are : (tracks track : ℕ) → track < tracks → All (IsHeadwayRow tracks 3) (headways_of track)
unfolding headways_behind
headway_rows_are tracks track l =
    All-append (IsHeadwayRow tracks 3) (headways_behind track Ic) (headways_behind track Re ++ (headways_behind track Fr ++ [])) (behind Ic)
    (All-append (IsHeadwayRow tracks 3) (headways_behind track Re) (headways_behind track Fr ++ []) (behind Re)
    (All-append (IsHeadwayRow tracks 3) (headways_behind track Fr) [] (behind Fr) (All-nil (IsHeadwayRow tracks 3))))
  where
    behind : (first : Kind) → All (IsHeadwayRow tracks 3) (headways_behind track first)
    behind first = three_kinds (IsHeadwayRow tracks 3) (λ second. ((track, kind_place first, kind_place second), headway_minutes first second)) (λ second. (l, kind_small first, kind_small second, headway_small first second))

-- a row whose key passes the test is found
row_there : {K X : Type 0} (test : K → Bool) (rows : List (K × X)) (k : ℕ) (d : K × X) → k < length rows → test (get_or rows k d).0 ≡ true → is_some (lookup test rows) ≡ true
row_there test [] k d l e = absurd (omega arith)
row_there {K} {X} test (r ∷ rows) zero d l e = rw e refl
row_there {K} {X} test (r ∷ rows) (suc k) d l e = by (test r.0) (row_there test rows k d (omega arith) e)
  where
    by : (b : Bool) → is_some (lookup test rows) ≡ true → is_some (cond b (Some r.1) (lookup test rows)) ≡ true
    by true h = refl
    by false h = h

same_key : (a b : ℕ × ℕ × ℕ) → a.0 ≡ b.0 → a.1 ≡ b.1 → a.2 ≡ b.2 → same_triple a b ≡ true
same_key a b x y z = rw (eq-eqb a.0 b.0 x, eq-eqb a.1 b.1 y, eq-eqb a.2 b.2 z) refl

module _ (minutes : List ℕ) (fits : Fits minutes) where
  tracks_length : length (ends_of (flat_map track_pair (segments (length minutes)))) ≡ 2 * length minutes
  tracks_length = length-map (flat_map track_pair (segments (length minutes))) (λ (t : NamedTrack). t.1) ∙ length_flat track_pair 2 1 (length minutes) (λ i. refl) ∙ omega arith

  names_count : length (track_names (flat_map track_pair (segments (length minutes)))) ≡ 2 * length minutes
  names_count = length-map (flat_map track_pair (segments (length minutes))) (λ (t : NamedTrack). t.0) ∙ length_flat track_pair 2 1 (length minutes) (λ i. refl) ∙ omega arith

  ends_are : (stations : ℕ) → stations ≡ length minutes + 1 → All (AreEnds stations) (ends_of (flat_map track_pair (segments (length minutes))))
  ends_are stations e = All-map (AreEnds stations) (λ (t : NamedTrack). t.1) (flat_map track_pair (segments (length minutes)))
      (all_flat (λ (t : NamedTrack). AreEnds stations t.1) track_pair 1 (length minutes) (λ i l m.
      All-cons (λ (t : NamedTrack). AreEnds stations t.1) (onward_track i) (back_track i ∷ []) (omega (arith, e), omega (arith, e), apart (i - 1) i (omega arith))
      (All-cons (λ (t : NamedTrack). AreEnds stations t.1) (back_track i) [] (omega (arith, e), omega (arith, e), apart i (i - 1) (omega arith)) (All-nil (λ (t : NamedTrack). AreEnds stations t.1)))))
    where
      apart : (a b : ℕ) → a ≢ b → (let s : StationId = record { 0 = a } in s ≢ record { 0 = b })
      apart a b never e = never (ap (λ (s : StationId). s.0) e)

  minutes_at : (i : ℕ) → 1 ≤ i → i < 1 + length minutes → (1 ≤ slice_index minutes (i - 1)) × (slice_index minutes (i - 1) ≤ 8)
  minutes_at i l m = fits.each (i - 1) 0 (omega arith)

  running_all : (tracks : ℕ) → tracks ≡ 2 * length minutes → All (IsRunningRow tracks 3) (flat_map (running_pair minutes) (segments (length minutes)))
  running_all tracks e = all_flat (IsRunningRow tracks 3) (running_pair minutes) 1 (length minutes) (λ i l m.
      let at = minutes_at i l m in
      All-append (IsRunningRow tracks 3) (running_of (2 * i - 2) (slice_index minutes (i - 1))) (running_of (2 * i - 1) (slice_index minutes (i - 1)))
      (running_rows_are 0 tracks (2 * i - 2) (slice_index minutes (i - 1)) (omega (arith, e)) at.0 at.1) (running_rows_are 0 tracks (2 * i - 1) (slice_index minutes (i - 1)) (omega (arith, e)) at.0 at.1))

  headways_all : (tracks : ℕ) → tracks ≡ 2 * length minutes → All (IsHeadwayRow tracks 3) (flat_map headway_pair (segments (length minutes)))
  headways_all tracks e = all_flat (IsHeadwayRow tracks 3) headway_pair 1 (length minutes) (λ i l m.
      All-append (IsHeadwayRow tracks 3) (headways_of (2 * i - 2)) (headways_of (2 * i - 1)) (headway_rows_are tracks (2 * i - 2) (omega (arith, e))) (headway_rows_are tracks (2 * i - 1) (omega (arith, e))))

  built : IsBuilt (net_of (demo_parts minutes))
  built = record {
    counts = record {
      few_stations = let l = length-map-range_with_len station_name 1 (length minutes + 1) in let few = fits.few in omega arith;
      few_tracks = let l = tracks_length in let few = fits.few in omega arith;
      few_types = omega arith;
    };
    names = record {
      station_names = let few = fits.few in stations_are (length minutes + 1) (omega arith);
      names_of_tracks = subst AreNames (sym (all_names_are (length minutes))) (tracks_are (length minutes) fits.few);
      type_names = kinds_are;
    };
    named = names_count ∙ sym tracks_length;
    ends = ends_are (length (map station_name (range_with_len 1 (length minutes + 1)))) (length-map-range_with_len station_name 1 (length minutes + 1));
    running = record {
      each = running_all (length (ends_of (flat_map track_pair (segments (length minutes))))) tracks_length;
      once = places_differ running_code 0 (keys_of (flat_map (running_pair minutes) (segments (length minutes)))) (running_places minutes (length minutes));
    };
    headways = record {
      each = headways_all (length (ends_of (flat_map track_pair (segments (length minutes))))) tracks_length;
      once = places_differ headway_code 0 (keys_of (flat_map headway_pair (segments (length minutes)))) (headway_places (length minutes));
    };
    crossings = AreRowsOf-none (IsCrossingRow (length (ends_of (flat_map track_pair (segments (length minutes))))) 3);
    limits = AreRowsOf-none (IsLimitRow (length (map station_name (range_with_len 1 (length minutes + 1)))));
  }

  headways_length : length (flat_map headway_pair (segments (length minutes))) ≡ 18 * length minutes
  headways_length = length_flat headway_pair 18 1 (length minutes) (λ i. refl) ∙ omega arith

  -- each headway of two types on a track stands at its place
  found : (t a b : ℕ) → t < 2 * length minutes → a < 3 → b < 3 → is_some (lookup (same_triple (t, a, b)) (flat_map headway_pair (segments (length minutes)))) ≡ true
  unfolding AtPlaces headway_code
  found t a b lt la lb =
      let rows = flat_map headway_pair (segments (length minutes)) in
      let len = headways_length in
      let keys = length-map (flat_map headway_pair (segments (length minutes))) (λ (r : (ℕ × ℕ × ℕ) × ℕ). r.0) in
      let place : 9 * t + 3 * a + b < length (flat_map headway_pair (segments (length minutes))) = omega arith in
      let key : get_or (keys_of (flat_map headway_pair (segments (length minutes)))) (9 * t + 3 * a + b) (0, 0, 0) ≡ (get_or (flat_map headway_pair (segments (length minutes))) (9 * t + 3 * a + b) ((0, 0, 0), 0)).0 =
      get_or-map (λ (r : (ℕ × ℕ × ℕ) × ℕ). r.0) (flat_map headway_pair (segments (length minutes))) (9 * t + 3 * a + b) ((0, 0, 0), 0) (0, 0, 0) place in
      let code = headway_places (length minutes) (9 * t + 3 * a + b) (0, 0, 0) (omega arith) in
      let is = headways_all (2 * length minutes) refl (9 * t + 3 * a + b) ((0, 0, 0), 0) place in
      let x = ap (λ (k : ℕ × ℕ × ℕ). k.0) key in
      let y = ap (λ (k : ℕ × ℕ × ℕ). k.1) key in
      let z = ap (λ (k : ℕ × ℕ × ℕ). k.2) key in
      let small_a = is.1 in
      let small_b = is.2 in
      row_there (same_triple (t, a, b)) (flat_map headway_pair (segments (length minutes))) (9 * t + 3 * a + b) ((0, 0, 0), 0) place
      (same_key (t, a, b) (get_or (flat_map headway_pair (segments (length minutes))) (9 * t + 3 * a + b) ((0, 0, 0), 0)).0 (omega arith) (omega arith) (omega arith))

  used : (t : TrackId) (k : TypeId) → MayUse (net_of (demo_parts minutes)) t k → (t.0 < 2 * length minutes) × (k.0 < 3)
  used t k may = by (times_of (net_of (demo_parts minutes)) t k) may (times_built (net_of (demo_parts minutes)) t k built)
    where
      by : (o : Option Times) → IsSome o → IfSome o (λ times. IsRunningRow (length (ends_of (flat_map track_pair (segments (length minutes))))) 3 ((t.0, k.0), times)) → (t.0 < 2 * length minutes) × (k.0 < 3)
      by None s h = absurd (grind arith)
      by (Some times) s h = let l = tracks_length in let r = h.0 in (omega arith, h.1)

  complete : HasAllHeadways (net_of (demo_parts minutes))
  complete t a b first second = found t.0 a.0 b.0 (used t a first).0 (used t a first).1 (used t b second).1

  pub demo_proper : IsProper (net_of (demo_parts minutes))
  demo_proper = let crossings = no_crossings (net_of (demo_parts minutes)) refl in record { built = built; complete = complete; both_ways = crossings.0; within_reach = crossings.1 }

-- ---- its tables are those of the demo

pub stations_written : (xs : List ℕ) → flat_map station_rows xs ≡ map station_record (map station_name xs)
stations_written [] = refl
stations_written (x ∷ xs) = ap (λ (rows : List Record). (station_name x ∷ []) ∷ rows) (stations_written xs)

pub tracks_written : (c : ℕ) → flat_map track_rows (segments c) ≡ map (track_record (map station_name (range_with_len 1 (c + 1)))) (flat_map track_pair (segments c))
tracks_written c = grouped (track_record (map station_name (range_with_len 1 (c + 1)))) track_rows track_pair 1 c (λ i l m.
    let near : place_named (map station_name (range_with_len 1 (c + 1))) (i - 1) ≡ station_name i = station_at (c + 1) (i - 1) (omega arith) ∙ ap station_name (omega arith) in
    let far : place_named (map station_name (range_with_len 1 (c + 1))) i ≡ station_name (i + 1) = station_at (c + 1) i (omega arith) ∙ ap station_name (omega arith) in
    rw (near, far) refl)

pub running_written : (minutes : List ℕ) → flat_map (running_rows minutes) (segments (length minutes))
    ≡ map (running_record (track_names (flat_map track_pair (segments (length minutes)))) (map kind_name all_kinds)) (flat_map (running_pair minutes) (segments (length minutes)))
running_written minutes =
    whole ∙ ap (λ (names : List Field). map (running_record names (map kind_name all_kinds)) (flat_map (running_pair minutes) (segments (length minutes)))) (sym (all_names_are (length minutes)))
  where
    whole : flat_map (running_rows minutes) (segments (length minutes)) ≡ map (running_record (all_names (length minutes)) (map kind_name all_kinds)) (flat_map (running_pair minutes) (segments (length minutes)))
    whole = grouped (running_record (all_names (length minutes)) (map kind_name all_kinds)) (running_rows minutes) (running_pair minutes) 1 (length minutes) (λ i l m.
        rw (onward_at (length minutes) i l m, back_at (length minutes) i l m) refl)

pub headways_written : (c : ℕ) → flat_map headway_rows (segments c)
    ≡ map (headway_record (track_names (flat_map track_pair (segments c))) (map kind_name all_kinds)) (flat_map headway_pair (segments c))
headways_written c =
    whole ∙ ap (λ (names : List Field). map (headway_record names (map kind_name all_kinds)) (flat_map headway_pair (segments c))) (sym (all_names_are c))
  where
    whole : flat_map headway_rows (segments c) ≡ map (headway_record (all_names c) (map kind_name all_kinds)) (flat_map headway_pair (segments c))
    whole = grouped (headway_record (all_names c) (map kind_name all_kinds)) headway_rows headway_pair 1 c (λ i l m.
        rw (onward_at c i l m, back_at c i l m) refl)
