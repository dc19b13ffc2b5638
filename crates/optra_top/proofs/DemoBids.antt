-- The bids of a demo, and that its tables are those that are written of them.
use Rattle.std.proofs.Common.{◌≡◌, ◌≢◌, ℕ, suc, ◌+◌, ◌-◌, ◌*◌, ◌/◌, ◌<◌, ◌≤◌, ◌^◌, ◌++◌, Bool, true, false, cond, List, [], ◌∷◌, map, length, get_or, take, drop, sum_by, refl, sym, ap, ◌∙◌, subst, arith, nat_le}
use Rattle.std.specs.Prelude.{All, pos, if◌then◌else◌}
use Rattle.std.specs.Fmt.{decimal}
use Rattle.std.specs.List.{flat_map, range_with_len}
use Rattle.std.proofs.lemmas.Int.{ints}
use Rattle.std.proofs.lemmas.List.{get_or-map, length-map, length-take, length-drop}
use Rattle.std.proofs.lemmas.List.Elements.{All-cons, All-drop, All-head, All-map, All-nil, All-tail, All-take}
use Rattle.std.proofs.lemmas.List.FromFn.{get_or-map-range_with_len, length-map-range_with_len}
use Rattle.std.proofs.lemmas.List.Sums.{sum_by-cons}
use Rattle.optra_network.specs.Names.{AllDiffer}
use Rattle.optra_network.specs.declared.StationId.{StationId}
use Rattle.optra_bid.specs.Specs.{AreBounds, IsMoney, IsPathOn, IsRate, IsStop, Path}
use Rattle.optra_bid.specs.declared.Money.{Money}
use Rattle.optra_bid.specs.declared.Stop.{Stop}
use Rattle.optra_bid.specs.declared.Window.{Window}
use Rattle.optra_records.specs.Reading.{Field}
use Rattle.optra_tables.specs.Bids as tables
use Rattle.optra_tables.specs.Written.{IsSound, bid_record, stop_record, stop_records, named as place_named}
use Rattle.optra_tables.proofs.WrittenBids.{AreWritten}
use Rattle.optra_demo.specs.Bids.{bid_at, bid_from, bid_row, bids_from, far_end, ideal_arrival, near_end, stop_rows, way_minutes}
use Rattle.optra_demo.specs.Draws.{after, draw, given}
use Rattle.optra_demo.specs.Kinds.{all_kinds, extra_of, kind_name}
use Rattle.optra_demo.specs.Names.{bid_name, station_name}
use Rattle.optra_demo.specs.Names as names
use Rattle.optra_demo.specs.Networks.{segment_minutes}
use Rattle.optra_demo.specs.Ranges.{IsInRange}
use Rattle.optra_demo.specs.declared.demo_bid.DemoBid.{DemoBid}
use Rattle.optra_demo.specs.declared.kinds.Kind.{Kind}
use Rattle.optra_demo.specs.declared.kinds.Kind.TheVariants.{Ic, Re, Fr}
use Rattle.optra_top.proofs.DemoNames.{bid_is, bidder_is, letter_once}
use Rattle.optra_top.proofs.DemoNets.{Fits, demo_parts, kind_place, station_at}
use Rattle.optra_top.proofs.NetsWritten.{all_between, net_of}

-- ---- the draws

given_below : (x m : ℕ) → 0 < m → given x m < m
unfolding given
given_below x m some = omega arith

-- what is drawn is in its range
bid_in_range : (stations number x : ℕ) → 4 ≤ stations → stations ≤ 36 → IsInRange stations (bid_from stations number x)
unfolding bid_from
bid_in_range stations number x some few =
    let a = given_below (after x 1) 5 (omega arith) in
    let l = given_below (after x 4) (stations - 2) (omega arith) in
    let o = given_below (after x 5) (stations - (2 + draw x 3 (stations - 2))) (omega arith) in
    let p = given_below (after x 6) 180 (omega arith) in
    let b = given_below (after x 7) 2000 (omega arith) in
    record { some = omega arith; way = omega arith; bidder = omega arith; early = omega arith; late = omega arith; base = omega arith }

-- and segments take 4 to 8 minutes
pub minutes_fit : (x count : ℕ) → 1 ≤ count → count ≤ 35 → Fits (segment_minutes x count)
minutes_fit x count some few =
    let len = length-map-range_with_len (λ (k : ℕ). 4 + draw x k 5) 0 count in
    record {
      some = omega arith;
      few = omega arith;
      each = λ k d l.
          let at : get_or (segment_minutes x count) k d ≡ 4 + draw x (0 + k) 5 = get_or-map-range_with_len (λ (n : ℕ). 4 + draw x n 5) 0 count k (0 + k) d (omega arith) refl in
          let low = given_below (after x (suc (0 + k))) 5 (omega arith) in
          (omega arith, omega arith);
    }

-- ---- the bids

abbrev pub window_round : ℕ → ℕ → ℕ → Window
window_round early ideal late = record { from = ideal - early; ideal = ideal; to = ideal + late }

abbrev pub halfway : DemoBid → Stop
halfway bid = record { station = record { 0 = bid.offset + bid.tracks / 2 }; min_dwell = 1; max_dwell = 3; arrive = record { from = 0; to = 2879 } }

abbrev pub stops_of : DemoBid → List Stop
stops_of bid = if nat_le 4 bid.tracks then halfway bid ∷ [] else []

abbrev pub from_of : DemoBid → ℕ
from_of bid = (if bid.is_back then far_end bid else near_end bid) - 1

abbrev pub to_of : DemoBid → ℕ
to_of bid = (if bid.is_back then near_end bid else far_end bid) - 1

abbrev pub path_of : List ℕ → DemoBid → Path
path_of minutes bid = record {
  kind = record { 0 = kind_place bid.kind };
  origin = record { 0 = from_of bid };
  destination = record { 0 = to_of bid };
  depart = window_round 10 bid.depart 10;
  arrive = window_round 10 (ideal_arrival minutes bid) 20;
  wait_max = 3;
  stops = stops_of bid;
}

abbrev pub money_of : DemoBid → Money
money_of bid = record { base = pos bid.base; early_depart = pos 20; late_depart = pos 30; early_arrive = pos 10; late_arrive = pos 40; travel = pos 5; wait = pos 15 }

abbrev pub parts_of : List ℕ → DemoBid → tables.Parts
parts_of minutes bid = record { name = bid_name bid.number; bidder = names.bidder_name bid.bidder; path = path_of minutes bid; money = money_of bid }

-- ---- what each keeps

sum_small : (e : ℕ) (xs : List ℕ) → e ≤ 4 → All (λ d. (1 ≤ d) × (d ≤ 8)) xs → sum_by (λ d. d + e) xs ≤ 12 * length xs
sum_small e [] small all = omega arith
sum_small e (x ∷ xs) small all =
    let rest = sum_small e xs small (All-tail (λ (d : ℕ). (1 ≤ d) × (d ≤ 8)) x xs all) in
    let first = (All-head (λ (d : ℕ). (1 ≤ d) × (d ≤ 8)) x xs all).1 in
    let s = sum_by-cons (λ (d : ℕ). d + e) x xs in
    omega arith

extra_small : (kind : Kind) → extra_of kind ≤ 4
extra_small Ic = omega arith
extra_small Re = omega arith
extra_small Fr = omega arith

kind_small : (kind : Kind) → kind_place kind < 3
kind_small Ic = omega arith
kind_small Re = omega arith
kind_small Fr = omega arith

kind_there : (kind : Kind) → place_named (map kind_name all_kinds) (kind_place kind) ≡ kind_name kind
kind_there Ic = refl
kind_there Re = refl
kind_there Fr = refl

way_small : (minutes : List ℕ) (bid : DemoBid) → Fits minutes → way_minutes minutes bid ≤ 420
way_small minutes bid fits =
    let way = take bid.tracks (drop bid.offset minutes) in
    let s = sum_small (extra_of bid.kind) (take bid.tracks (drop bid.offset minutes)) (extra_small bid.kind) (All-take (λ (d : ℕ). (1 ≤ d) × (d ≤ 8)) bid.tracks (drop bid.offset minutes) (All-drop (λ (d : ℕ). (1 ≤ d) × (d ≤ 8)) bid.offset minutes fits.each)) in
    let a = length-take bid.tracks (drop bid.offset minutes) in
    let b = length-drop bid.offset minutes in
    let c = fits.few in
    omega arith

rate : (n : ℕ) → n ≤ 1000000 → IsRate (pos n)
rate n l = (omega (arith, ints), omega (arith, ints))

money_is : (bid : DemoBid) → bid.base < 22000 → IsMoney (money_of bid)
money_is bid small = record {
  base = (omega (arith, ints), omega (arith, ints));
  early_depart = rate 20 (omega arith);
  late_depart = rate 30 (omega arith);
  early_arrive = rate 10 (omega arith);
  late_arrive = rate 40 (omega arith);
  travel = rate 5 (omega arith);
  wait = rate 15 (omega arith);
}

ends_apart : (near far : ℕ) (back : Bool) → near < far → 1 ≤ near → (if back then far else near) - 1 ≢ (if back then near else far) - 1
ends_apart near far true l m e = omega (arith, e)
ends_apart near far false l m e = omega (arith, e)

end_within : (near far n : ℕ) (back : Bool) → near < far → far ≤ n → 1 ≤ near → ((if back then far else near) - 1 < n) × ((if back then near else far) - 1 < n)
end_within near far n true l m s = (omega arith, omega arith)
end_within near far n false l m s = (omega arith, omega arith)

halfway_is : (bid : DemoBid) → IsStop (halfway bid)
halfway_is bid = record { arrive = omega arith; day = omega arith; dwell = omega arith; dwell_max = omega arith; spread = omega arith }

module _ (minutes : List ℕ) (fits : Fits minutes) (bid : DemoBid) (range : IsInRange (length minutes + 1) bid) where
  stops_are : (b : Bool) (P : Stop → Type 0) → P (halfway bid) → All P (if b then halfway bid ∷ [] else [])
  stops_are true P h = All-cons P (halfway bid) [] h (All-nil P)
  stops_are false P h = All-nil P

  stops_few : (b : Bool) → length (cond b (halfway bid ∷ []) []) ≤ 8
  stops_few true = omega arith
  stops_few false = omega arith

  bounds : AreBounds (path_of minutes bid) (money_of bid)
  bounds =
      let w = way_small minutes bid fits in
      let some = range.some in
      let late = range.late in
      record {
        ends = λ e. ends_apart (near_end bid) (far_end bid) bid.is_back (omega arith) (omega arith) (ap (λ (s : StationId). s.0) e);
        depart = record { early = omega arith; late = omega arith; day = omega arith };
        arrive = record { early = omega arith; late = omega arith; day = omega arith };
        wait_max = omega arith;
        few = stops_few (nat_le 4 bid.tracks);
        stops = stops_are (nat_le 4 bid.tracks) IsStop (halfway_is bid);
        amounts = money_is bid range.base;
      }

  sound : bid.number < 10 ^ 10 → IsSound (parts_of minutes bid)
  sound small = let b = range.bidder in record { name = bid_is bid.number small; bidder = bidder_is bid.bidder (omega arith); bounds = bounds }

  path_on : IsPathOn (net_of (demo_parts minutes)) (path_of minutes bid)
  path_on =
      let n = length-map-range_with_len station_name 1 (length minutes + 1) in
      let way = range.way in
      let some = range.some in
      let two = end_within (near_end bid) (far_end bid) (length minutes + 1) bid.is_back (omega arith) (omega arith) (omega arith) in
      let a = two.0 in
      let b = two.1 in
      record {
        kind = kind_small bid.kind;
        origin = omega arith;
        destination = omega arith;
        stops = stops_are (nat_le 4 bid.tracks) (λ stop. stop.station.0 < length (map station_name (range_with_len 1 (length minutes + 1)))) (omega arith);
      }

-- ---- the tables

module _ (minutes : List ℕ) (bid : DemoBid) (range : IsInRange (length minutes + 1) bid) where
  station_there : (i : ℕ) → 1 ≤ i → i ≤ length minutes + 1 → place_named (map station_name (range_with_len 1 (length minutes + 1))) (i - 1) ≡ station_name i
  station_there i some few = let e : 1 + (i - 1) ≡ i = omega arith in station_at (length minutes + 1) (i - 1) (omega arith) ∙ ap station_name e

  end_there : (near far : ℕ) (back : Bool) → 1 ≤ near → near ≤ far → far ≤ length minutes + 1
      → place_named (map station_name (range_with_len 1 (length minutes + 1))) ((if back then far else near) - 1) ≡ station_name (if back then far else near)
  end_there near far true some l few = station_there far (omega arith) few
  end_there near far false some l few = station_there near some (omega arith)

  other_there : (near far : ℕ) (back : Bool) → 1 ≤ near → near ≤ far → far ≤ length minutes + 1
      → place_named (map station_name (range_with_len 1 (length minutes + 1))) ((if back then near else far) - 1) ≡ station_name (if back then near else far)
  other_there near far true some l few = station_there near some (omega arith)
  other_there near far false some l few = station_there far (omega arith) few

  bid_written : bid_row minutes bid ≡ bid_record (net_of (demo_parts minutes)) (parts_of minutes bid)
  unfolding bid_record
  bid_written =
      let way = range.way in
      let kind = kind_there bid.kind in
      let origin = end_there (near_end bid) (far_end bid) bid.is_back (omega arith) (omega arith) (omega arith) in
      let destination = other_there (near_end bid) (far_end bid) bid.is_back (omega arith) (omega arith) (omega arith) in
      rw (kind, origin, destination) refl

  stops_written : stop_rows bid ≡ stop_records (net_of (demo_parts minutes)) (parts_of minutes bid)
  unfolding stop_record
  stops_written = by (nat_le 4 bid.tracks)
    where
      by : (b : Bool) → (if b then (bid_name bid.number ∷ station_name (bid.offset + 1 + bid.tracks / 2) ∷ map decimal (1 ∷ 3 ∷ 0 ∷ 2879 ∷ [])) ∷ [] else [])
          ≡ map (stop_record (net_of (demo_parts minutes)) (bid_name bid.number)) (if b then halfway bid ∷ [] else [])
      by false = refl
      by true =
          let way = range.way in
          let e : 1 + (bid.offset + bid.tracks / 2) ≡ bid.offset + 1 + bid.tracks / 2 = omega arith in
          let there : place_named (map station_name (range_with_len 1 (length minutes + 1))) (bid.offset + bid.tracks / 2) ≡ station_name (bid.offset + 1 + bid.tracks / 2) =
          station_at (length minutes + 1) (bid.offset + bid.tracks / 2) (omega arith) ∙ ap station_name e in
          rw there refl

bids_rows : (minutes : List ℕ) (bids : List DemoBid) → All (IsInRange (length minutes + 1)) bids → map (bid_row minutes) bids ≡ map (bid_record (net_of (demo_parts minutes))) (map (parts_of minutes) bids)
bids_rows minutes [] all = refl
bids_rows minutes (bid ∷ bids) all =
    let first = bid_written minutes bid (All-head (IsInRange (length minutes + 1)) bid bids all) in
    let rest = bids_rows minutes bids (All-tail (IsInRange (length minutes + 1)) bid bids all) in
    λ i. first i ∷ rest i

stops_rows : (minutes : List ℕ) (bids : List DemoBid) → All (IsInRange (length minutes + 1)) bids → flat_map stop_rows bids ≡ flat_map (stop_records (net_of (demo_parts minutes))) (map (parts_of minutes) bids)
stops_rows minutes [] all = refl
stops_rows minutes (bid ∷ bids) all =
    let first = stops_written minutes bid (All-head (IsInRange (length minutes + 1)) bid bids all) in
    let rest = stops_rows minutes bids (All-tail (IsInRange (length minutes + 1)) bid bids all) in
    λ i. first i ++ rest i

-- ---- what is known of the bids together

bid_number : (stations number x : ℕ) → (bid_from stations number x).number ≡ number
unfolding bid_from
bid_number stations number x = refl

module _ (minutes : List ℕ) (fits : Fits minutes) (some : 3 ≤ length minutes) (x count : ℕ) (few : count ≤ 180) where
  drawn : List DemoBid
  drawn = bids_from (length minutes + 1) x count

  drawn_at : (k : ℕ) (d : DemoBid) → k < length drawn → get_or drawn k d ≡ bid_at (length minutes + 1) x (1 + k)
  unfolding drawn
  drawn_at k d l =
      let len = length-map-range_with_len (bid_at (length minutes + 1) x) 1 count in
      get_or-map-range_with_len (bid_at (length minutes + 1) x) 1 count k (1 + k) d (omega arith) refl

  drawn_length : length drawn ≡ count
  unfolding drawn
  drawn_length = length-map-range_with_len (bid_at (length minutes + 1) x) 1 count

  drawn_ranges : All (IsInRange (length minutes + 1)) drawn
  drawn_ranges k d l =
      let c = fits.few in
      subst (IsInRange (length minutes + 1)) (sym (drawn_at k d l)) (bid_in_range (length minutes + 1) (1 + k) (after x (7 * (1 + k - 1))) (omega arith) (omega arith))

  drawn_number : (k : ℕ) (d : DemoBid) → k < length drawn → (get_or drawn k d).number ≡ 1 + k
  drawn_number k d l = ap (λ (b : DemoBid). b.number) (drawn_at k d l) ∙ bid_number (length minutes + 1) (1 + k) (after x (7 * (1 + k - 1)))

  all_sound : All (λ bid. IsSound bid × IsPathOn (net_of (demo_parts minutes)) bid.path) (map (parts_of minutes) drawn)
  all_sound = All-map (λ bid. IsSound bid × IsPathOn (net_of (demo_parts minutes)) bid.path) (parts_of minutes) drawn (λ k d l.
      let n = drawn_number k d l in
      let len = drawn_length in
      let is = drawn_ranges k d l in
      (sound minutes fits (get_or drawn k d) is (omega arith), path_on minutes fits (get_or drawn k d) is))

  names_differ : AllDiffer (tables.names_of (map (parts_of minutes) drawn))
  names_differ i j d l m e =
      let lp = length-map drawn (parts_of minutes) in
      let ln = length-map (map (parts_of minutes) drawn) (λ (b : tables.Parts). b.name) in
      let len = drawn_length in
      let bid : DemoBid = bid_at (length minutes + 1) x 0 in
      let a = drawn_number i bid (omega arith) in
      let b = drawn_number j bid (omega arith) in
      let at_i : get_or (tables.names_of (map (parts_of minutes) drawn)) i d ≡ bid_name (get_or drawn i bid).number = name_at i bid (omega arith) d in
      let at_j : get_or (tables.names_of (map (parts_of minutes) drawn)) j d ≡ bid_name (get_or drawn j bid).number = name_at j bid (omega arith) d in
      let same = letter_once 98 (get_or drawn i bid).number (get_or drawn j bid).number (omega arith) (omega arith) (sym at_i ∙ e ∙ at_j) in
      omega arith
    where
      name_at : (k : ℕ) (bid : DemoBid) → k < length drawn → (d : Field) → get_or (tables.names_of (map (parts_of minutes) drawn)) k d ≡ bid_name (get_or drawn k bid).number
      name_at k bid l d =
          let lp = length-map drawn (parts_of minutes) in
          get_or-map (λ (b : tables.Parts). b.name) (map (parts_of minutes) drawn) k (parts_of minutes bid) d (omega arith)
          ∙ ap (λ (b : tables.Parts). b.name) (get_or-map (parts_of minutes) drawn k bid (parts_of minutes bid) l)

  pub are_written : AreWritten (net_of (demo_parts minutes)) (map (parts_of minutes) (bids_from (length minutes + 1) x count))
  unfolding drawn
  are_written = record {
    few = let lp = length-map drawn (parts_of minutes) in let len = drawn_length in omega arith;
    sound = λ before after bid e. all_between (λ bid. IsSound bid × IsPathOn (net_of (demo_parts minutes)) bid.path) (map (parts_of minutes) drawn) before after bid all_sound e;
    differ = names_differ;
  }

  pub bids_table_is : map (bid_row minutes) (bids_from (length minutes + 1) x count) ≡ map (bid_record (net_of (demo_parts minutes))) (map (parts_of minutes) (bids_from (length minutes + 1) x count))
  unfolding drawn
  bids_table_is = bids_rows minutes drawn drawn_ranges

  pub stops_table_is : flat_map stop_rows (bids_from (length minutes + 1) x count) ≡ flat_map (stop_records (net_of (demo_parts minutes))) (map (parts_of minutes) (bids_from (length minutes + 1) x count))
  unfolding drawn
  stops_table_is = stops_rows minutes drawn drawn_ranges
