-- The table of stops that is written gives each bid its own stops again, in order.
use Rattle.std.proofs.Common.{◌≡◌, ◌+◌, ◌-◌, ◌^◌, ◌<◌, ◌≤◌, ◌++◌, ℕ, true, List, [], ◌∷◌, length, map, get_or, slice_get, Some, None, Ok, refl, sym, ap, ◌∙◌, subst, arith, append_assoc, length-append}
use Rattle.std.proofs.Math.Seq.{set-append_seam}
use Rattle.std.proofs.lemmas.Bool.{le-leb, le-ltb, lt-leb}
use Rattle.std.proofs.lemmas.List.{append-nil, length-map, map-append}
use Rattle.std.specs.Fmt.{decimal}
use Rattle.std.specs.List.{flat_map, list_all}
use Rattle.std.specs.Prelude.{Result}
use Rattle.std.specs.Str.{is_utf8}
use Rattle.optra_network.specs.Names.{AllDiffer, is_name, place_of}
use Rattle.optra_network.specs.Net.{IsProper, IsStation, Net}
use Rattle.optra_network.specs.Refusals.{station_named}
use Rattle.optra_bid.specs.Bids.{stop_refusal}
use Rattle.optra_bid.specs.Specs.{IsStop, Path}
use Rattle.optra_bid.specs.declared.RawStop.{RawStop}
use Rattle.optra_bid.specs.declared.Stop.{Stop}
use Rattle.optra_records.specs.Reading.{Field, Record}
use Rattle.optra_bid.specs.Offers.{Offer}
use Rattle.optra_tables.specs.Bids.{names_of}
use Rattle.optra_records.specs.Tables.{field, is_row, rows_from}
use Rattle.optra_tables.specs.Fields.{name_at, number_at, two_at}
use Rattle.optra_tables.specs.Stops.{stop_outcome, stop_row}
use Rattle.optra_tables.specs.Written.{IsSound, named, stop_record, stop_records}
use Rattle.optra_tables.specs.declared.Table.TheVariants.{Stops}
use Rattle.optra_tables.specs.declared.TableFault.{TableFault}
use Rattle.optra_records.proofs.CellLemmas.{row_is}
use Rattle.optra_tables.proofs.WrittenBids.{AreWritten, bare, names-bare}
use Rattle.optra_tables.proofs.WrittenLemmas.{at_middle, decimal_utf8, get_middle, in_middle, is_name-named, name_read, name_utf8, number_read, place_middle, station_found}

-- a bid with these stops
abbrev pub with_stops : Offer → List Stop → Offer
with_stops bid stops = record bid { path = record bid.path { stops = stops } }

-- the stop as it is read
abbrev raw_of_stop : Stop → RawStop
raw_of_stop stop = record {
  station = stop.station;
  min_dwell = stop.min_dwell;
  max_dwell = stop.max_dwell;
  arrive = stop.arrive.from ∷ stop.arrive.to ∷ [];
}

-- a record of a stop that tells all, of a bid that is there, gives what becomes of the stop
stop_read : (net : Net) (bids : List Offer) (row : ℕ) (fields : Record) (name station : Field) (place : ℕ) (bid : Offer) (stop : Stop) → is_row 6 fields ≡ true
    → name_at Stops row fields 0 ≡ Ok name → name_at Stops row fields 1 ≡ Ok station → number_at Stops row fields 2 ≡ Ok stop.min_dwell → number_at Stops row fields 3 ≡ Ok stop.max_dwell
    → two_at Stops row fields 4 ≡ Ok (stop.arrive.from ∷ stop.arrive.to ∷ []) → place_of name (names_of bids) ≡ Some place → slice_get bids place ≡ Some bid
    → station_named net station ≡ Some stop.station → stop_row net bids row fields ≡ stop_outcome row bids place bid (raw_of_stop stop)
unfolding stop_row
stop_read net bids row fields name station place bid stop form first second least most arrive at there known =
    rw (form, first, second, least, most, arrive, at, known, there) refl

two_read : (row : ℕ) (fields : Record) (i a b : ℕ) → field fields i ≡ decimal a → field fields (i + 1) ≡ decimal b → a < 10 ^ 10 → b < 10 ^ 10 → two_at Stops row fields i ≡ Ok (a ∷ b ∷ [])
two_read row fields i a b ea eb ha hb = rw (number_read Stops row fields i a ea ha, number_read Stops row fields (i + 1) b eb hb) refl

record AreSmall (stop : Stop) : Type 0 where
  min_dwell : stop.min_dwell < 10 ^ 10
  max_dwell : stop.max_dwell < 10 ^ 10
  from : stop.arrive.from < 10 ^ 10
  to : stop.arrive.to < 10 ^ 10

are_small : (stop : Stop) → IsStop stop → AreSmall stop
are_small stop h = record {
  min_dwell = omega (arith, h.dwell, h.dwell_max);
  max_dwell = omega (arith, h.dwell_max);
  from = omega (arith, h.arrive, h.day);
  to = omega (arith, h.day);
}

form_written : (net : Net) (name : Field) (stop : Stop) → IsProper net → is_name name ≡ true → IsStation net stop.station → AreSmall stop → is_row 6 (stop_record net name stop) ≡ true
unfolding stop_record
form_written net name stop proper is on small =
    let all : list_all is_utf8 (stop_record net name stop) ≡ true =
    rw (
      name_utf8 name is,
      name_utf8 (named net.stations stop.station.0) (is_name-named net.stations stop.station.0 proper.built.names.station_names on),
      decimal_utf8 stop.min_dwell small.min_dwell,
      decimal_utf8 stop.max_dwell small.max_dwell,
      decimal_utf8 stop.arrive.from small.from,
      decimal_utf8 stop.arrive.to small.to,
    ) refl in
    sym (row_is 6 (stop_record net name stop) true refl (sym all))

-- a stop that a bid has is accepted after those before it
not_refused : (path : Path) (stop : Stop) → IsStop stop → length path.stops < 8 → stop_refusal path (raw_of_stop stop) ≡ None
not_refused path stop h few =
    rw (
      le-ltb stop.arrive.to stop.arrive.from h.arrive,
      le-leb stop.arrive.from 2879 (omega (arith, h.arrive, h.day)),
      le-leb stop.arrive.to 2879 h.day,
      le-ltb 240 stop.min_dwell (omega (arith, h.dwell, h.dwell_max)),
      le-ltb 240 stop.max_dwell h.dwell_max,
      lt-leb 8 (length path.stops) few,
      le-ltb stop.max_dwell stop.min_dwell h.dwell,
      le-ltb 30 (stop.max_dwell - stop.min_dwell) h.spread,
    ) refl

-- the bids while the stops of one are read: those before it have all of theirs, and those after it none
abbrev pub halfway : List Offer → Offer → List Stop → List Offer → List Offer
halfway before bid stops after = before ++ with_stops bid stops ∷ map bare after

names-halfway : (before after : List Offer) (bid : Offer) (stops : List Stop) → names_of (halfway before bid stops after) ≡ names_of before ++ bid.name ∷ names_of after
names-halfway before after bid stops =
    map-append (λ (b : Offer). b.name) before (with_stops bid stops ∷ map bare after) ∙ ap (λ names. names_of before ++ bid.name ∷ names) (names-bare after)

length-names : (bids : List Offer) → length (names_of bids) ≡ length bids
length-names bids = length-map bids (λ bid. bid.name)

accepted : (before after : List Offer) (bid : Offer) (some : List Stop) (stop : Stop) (row : ℕ) → IsStop stop → length some < 8
    → stop_outcome row (halfway before bid some after) (length before) (with_stops bid some) (raw_of_stop stop) ≡ Ok (halfway before bid (some ++ stop ∷ []) after)
accepted before after bid some stop row h few =
    rw (not_refused (with_stops bid some).path stop h few, set-append_seam before (with_stops bid some) (map bare after) (with_stops bid (some ++ stop ∷ []))) refl

-- the record of a stop gives its bid the stop
stop_added : (net : Net) (before after : List Offer) (bid : Offer) (some : List Stop) (stop : Stop) (row : ℕ) → IsProper net → IsSound bid → AllDiffer (names_of (before ++ bid ∷ after))
    → IsStop stop → IsStation net stop.station → length some < 8
    → stop_row net (halfway before bid some after) row (stop_record net bid.name stop) ≡ Ok (halfway before bid (some ++ stop ∷ []) after)
unfolding stop_record
stop_added net before after bid some stop row proper sound differ is on few =
    let fields = stop_record net bid.name stop in
    let small = are_small stop is in
    let apart : AllDiffer (names_of before ++ bid.name ∷ names_of after) = rw (map-append (λ (b : Offer). b.name) before (bid ∷ after)) at differ in
    let place : place_of bid.name (names_of (halfway before bid some after)) ≡ Some (length before) =
    rw (names-halfway before after bid some) (place_middle (names_of before) (names_of after) bid.name apart ∙ ap (λ n. Some n) (length-names before)) in
    stop_read net (halfway before bid some after) row fields bid.name (named net.stations stop.station.0) (length before) (with_stops bid some) stop
    (form_written net bid.name stop proper sound.name on small)
    (name_read Stops row fields 0 bid.name refl sound.name)
    (name_read Stops row fields 1 (named net.stations stop.station.0) refl (is_name-named net.stations stop.station.0 proper.built.names.station_names on))
    (number_read Stops row fields 2 stop.min_dwell refl small.min_dwell)
    (number_read Stops row fields 3 stop.max_dwell refl small.max_dwell)
    (two_read row fields 4 stop.arrive.from stop.arrive.to refl refl small.from small.to)
    place
    (get_middle before (map bare after) (with_stops bid some))
    (station_found net stop.station proper on)
    ∙ accepted before after bid some stop row is few

-- ---- all stops of a bid

record AreStops (net : Net) (stops : List Stop) : Type 0 where
  few : length stops ≤ 8
  each : (some more : List Stop) (stop : Stop) → some ++ stop ∷ more ≡ stops → IsStop stop × IsStation net stop.station

at_seam : {X : Type 0} (some more all : List X) (x : X) → some ++ x ∷ more ≡ all → (some ++ x ∷ []) ++ more ≡ all
at_seam some more all x e = rw append_assoc e

-- the records of the stops of a bid give it the rest of its stops
stops_added : (net : Net) (before after : List Offer) (bid : Offer) → IsProper net → IsSound bid → AllDiffer (names_of (before ++ bid ∷ after)) → AreStops net bid.path.stops
    → (some more : List Stop) (row : ℕ) (rest : List Record) (whole : List Offer) → some ++ more ≡ bid.path.stops
    → ((later : ℕ) → rows_from (stop_row net) (halfway before bid bid.path.stops after) later rest ≡ Ok whole)
    → rows_from (stop_row net) (halfway before bid some after) row (map (stop_record net bid.name) more ++ rest) ≡ Ok whole
unfolding rows_from
stops_added net before after bid proper sound differ are some [] row rest whole e goes =
    let same : some ≡ bid.path.stops = rw append-nil at e in
    ap (λ (stops : List Stop). rows_from (stop_row net) (halfway before bid stops after) row rest) same ∙ goes row
stops_added net before after bid proper sound differ are some (stop ∷ more) row rest whole e goes =
    let one = are.each some more stop e in
    let count = length-append some (stop ∷ more) in
    let total : length (some ++ stop ∷ more) ≡ length bid.path.stops = ap length e in
    rw (stop_added net before after bid some stop row proper sound differ one.0 one.1 (omega (arith, are.few, count, total)))
    (stops_added net before after bid proper sound differ are (some ++ stop ∷ []) more (row + 1) rest whole (at_seam some more bid.path.stops stop e) goes)

all_stops : (net : Net) (bid : Offer) → IsSound bid → ((some more : List Stop) (stop : Stop) → some ++ stop ∷ more ≡ bid.path.stops → IsStop stop × IsStation net stop.station) → AreStops net bid.path.stops
all_stops net bid sound each = record { few = sound.bounds.few; each = each }

-- ---- the stops of all bids

-- each stop of a list that keeps two rules keeps them
pub at_place : {X : Type 0} (P : X → Type 0) (all some more : List X) (x : X) → ((k : ℕ) (d : X) → k < length all → P (get_or all k d)) → some ++ x ∷ more ≡ all → P x
at_place P all some more x h e =
    let within = in_middle some more x in
    let total : length (some ++ x ∷ more) ≡ length all = ap length e in
    subst P (ap (λ xs. get_or xs (length some) x) (sym e) ∙ at_middle some more x x) (h (length some) x (omega (arith, within, total)))

-- the records of the stops of the bids give each bid its own
pub stops_read : (net : Net) (bids : List Offer) → IsProper net → AreWritten net bids → (before after : List Offer) (row : ℕ) → before ++ after ≡ bids
    → rows_from (stop_row net) (before ++ map bare after) row (flat_map (stop_records net) after) ≡ Ok bids
unfolding rows_from
stops_read net bids proper h before [] row e = ap (λ (xs : List Offer). let r : Result (List Offer) TableFault = Ok xs in r) e
stops_read net bids proper h before (bid ∷ after) row e =
    let s = h.sound before after bid e in
    let are = all_stops net bid s.0 (λ some more stop f.
    (at_place IsStop bid.path.stops some more stop s.0.bounds.stops f, at_place (λ (t : Stop). IsStation net t.station) bid.path.stops some more stop s.1.stops f)) in
    let seam : (before ++ bid ∷ []) ++ map bare after ≡ before ++ bid ∷ map bare after = rw append_assoc refl in
    let rest = flat_map (stop_records net) after in
    stops_added net before after bid proper s.0 (subst (λ (all : List Offer). AllDiffer (names_of all)) (sym e) h.differ) are [] bid.path.stops row rest bids refl
    (λ later. subst (λ (known : List Offer). rows_from (stop_row net) known later rest ≡ Ok bids) seam (stops_read net bids proper h (before ++ bid ∷ []) after later (at_seam before after bids bid e)))
