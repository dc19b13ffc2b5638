-- Bids that were read are an instance of the network, and their names all differ.
use Rattle.std.proofs.Common.{◌≡◌, ◌+◌, ◌<◌, ◌≤◌, ◌++◌, ℕ, zero, suc, true, false, List, [], ◌∷◌, length, map, get_or, set, bytes_eq, slice_get, is_none, is_some, nat_lt, Option, Some, None, IfSome, All, refl, sym, ap, ◌∙◌, subst, arith}
use Rattle.std.proofs.Math.Seq.{map-set_same}
use Rattle.std.proofs.lemmas.List.{get_or-map, length-map, map_push}
use Rattle.std.proofs.lemmas.List.Elements.{All-push, All-set}
use Rattle.std.proofs.lemmas.Option.{get_or_from_slice_get, slice_get_within}
use Rattle.std.proofs.lemmas.Slice.Eq.{bytes_eq-Decides}
use Rattle.std.specs.List.{list_any}
use Rattle.std.specs.Option.{option_map}
use Rattle.std.specs.Prelude.{Result, Ok}
use Rattle.optra_network.specs.Names.{AllDiffer, place_of}
use Rattle.optra_network.specs.Net.{IsKind, IsStation, Net}
use Rattle.optra_network.specs.Refusals.{station_named, type_named}
use Rattle.optra_network.specs.declared.StationId.{StationId}
use Rattle.optra_network.specs.declared.TypeId.{TypeId}
use Rattle.optra_network.proofs.NamesLemmas.{AllDiffer-push, list_any-position}
use Rattle.optra_bid.specs.Bids.{bid_refusal, path_of, stop_of, stop_refusal}
use Rattle.optra_bid.specs.Instances.{IsInstance}
use Rattle.optra_bid.specs.Specs.{IsPathOn}
use Rattle.optra_bid.specs.declared.RawBid.{RawBid}
use Rattle.optra_bid.specs.declared.RawStop.{RawStop}
use Rattle.optra_bid.specs.declared.Stop.{Stop}
use Rattle.optra_bid.specs.declared.bids.Bid.{Bid}
use Rattle.optra_records.specs.Reading.{Field, Record, table_records}
use Rattle.optra_bid.specs.Offers.{Offer, offer_of}
use Rattle.optra_tables.specs.Bids.{Told, bid_row, bids_header, made_of, names_of, raw_at, raw_of, told_at}
use Rattle.optra_tables.specs.Fields.{name_at, number_at, shaped, two_at}
use Rattle.optra_tables.specs.Outcomes.{bid_outcome, guard, or_fault}
use Rattle.optra_records.specs.Tables.{rows_from, table_of}
use Rattle.optra_tables.specs.Rows.{table_read, under_header}
use Rattle.optra_tables.specs.Stops.{found_at, stop_outcome, stop_row, stops_header, with_stop}
use Rattle.optra_tables.specs.declared.Table.{Table}
use Rattle.optra_tables.specs.declared.Table.TheVariants.{Bids, Stops}
use Rattle.optra_tables.specs.declared.TableFault.{TableFault}
use Rattle.optra_tables.proofs.BidStepLemmas.{bid_step, from_bid_outcome, from_guard, from_ok, from_or_fault}
use Rattle.optra_tables.proofs.StepLemmas.{from_bind, place_within}

-- at most 1,000 bids with different names, each for a path on the network
pub record AreKept (net : Net) (bids : List Offer) : Type 0 where
  pub few : length bids ≤ 1000
  pub paths : All (λ bid. IsPathOn net bid.path) bids
  pub differ : AllDiffer (names_of bids)

-- ---- what the names of a bid name is there

station_in : (net : Net) (o : Option ℕ) (id : StationId) → IfSome o (λ i. i < length net.stations) → option_map (λ n. record { 0 = n }) o ≡ Some id → IsStation net id
station_in net None id h e = absurd (cc e)
station_in net (Some n) id h e =
    let same : record { 0 = n } ≡ id = cc e in
    subst (λ (s : StationId). IsStation net s) same h

kind_in : (net : Net) (o : Option ℕ) (id : TypeId) → IfSome o (λ i. i < length net.types) → option_map (λ n. record { 0 = n }) o ≡ Some id → IsKind net id
kind_in net None id h e = absurd (cc e)
kind_in net (Some n) id h e =
    let same : record { 0 = n } ≡ id = cc e in
    subst (λ (k : TypeId). IsKind net k) same h

station_there : (net : Net) (f : TableFault) (name : Field) (id : StationId) → or_fault f (station_named net name) ≡ Ok id → IsStation net id
station_there net f name id e = station_in net (place_of name net.stations) id (place_within name net.stations) (from_or_fault f (station_named net name) id e)

kind_there : (net : Net) (f : TableFault) (name : Field) (id : TypeId) → or_fault f (type_named net name) ≡ Ok id → IsKind net id
kind_there net f name id e = kind_in net (place_of name net.types) id (place_within name net.types) (from_or_fault f (type_named net name) id e)

raw_on : (net : Net) (row : ℕ) (told : Told) (raw : RawBid) → raw_at net row told ≡ Ok raw → IsPathOn net (path_of raw)
unfolding raw_at
raw_on net row told raw e =
    let kind = from_bind (or_fault _ (type_named net told.kind)) _ raw e in
    let origin = from_bind (or_fault _ (station_named net told.origin)) _ raw kind.2 in
    let destination = from_bind (or_fault _ (station_named net told.destination)) _ raw origin.2 in
    let made = from_ok (raw_of told kind.0 origin.0 destination.0) raw destination.2 in
    subst (λ (r : RawBid). IsPathOn net (path_of r)) made (record {
      kind = kind_there net _ told.kind kind.0 kind.1;
      origin = station_there net _ told.origin origin.0 origin.1;
      destination = station_there net _ told.destination destination.0 destination.1;
      stops = λ k d h. absurd (omega (arith, h));
    })

-- ---- a bid

some_not : {X : Type 0} (o : Option X) → is_none o ≡ true → is_some o ≡ false
some_not None e = refl
some_not (Some x) e = absurd (cc e)

bid_added : (net : Net) (bids new : List Offer) (told : Told) (raw : RawBid) → AreKept net bids → nat_lt (length bids) 1000 ≡ true → is_none (place_of told.name (names_of bids)) ≡ true
    → IsPathOn net (path_of raw) → length new ≤ 1000 → bids ++ made_of told raw ∷ [] ≡ new → AreKept net new
bid_added net bids new told raw kept few fresh on len same =
    let absent : list_any (bytes_eq told.name) (names_of bids) ≡ false =
    sym (list_any-position (bytes_eq told.name) (names_of bids)) ∙ some_not (place_of told.name (names_of bids)) fresh in
    record {
      few = len;
      paths = subst (λ (l : List Offer). All (λ (bid : Offer). IsPathOn net bid.path) l) same (All-push (λ (bid : Offer). IsPathOn net bid.path) bids (made_of told raw) kept.paths on);
      differ =
          subst (λ (l : List Offer). AllDiffer (names_of l)) same
          (subst (λ (l : List Field). AllDiffer l) (sym (map_push (λ (bid : Offer). bid.name) bids (made_of told raw)))
          (AllDiffer-push bytes_eq (λ n. (bytes_eq-Decides n n).1 refl) (names_of bids) told.name kept.differ absent));
    }

bid_kept : (net : Net) (bids : List Offer) (row : ℕ) (fields : Record) (new : List Offer) → bid_row net bids row fields ≡ Ok new → AreKept net bids → AreKept net new
unfolding bid_row
bid_kept net bids row fields new e kept =
    let told = from_bind (told_at row fields) _ new e in
    let few = from_bind (guard _ (nat_lt (length bids) 1000)) _ new told.2 in
    let fresh = from_bind (guard _ (is_none (place_of told.0.name (names_of bids)))) _ new few.2 in
    let raw = from_bind (raw_at net row told.0) _ new fresh.2 in
    let bid = from_bind (bid_outcome Bids row (bid_refusal raw.0) (made_of told.0 raw.0)) _ new raw.2 in
    let made = from_bid_outcome Bids row (bid_refusal raw.0) (made_of told.0 raw.0) bid.0 bid.1 in
    bid_added net bids new told.0 raw.0 kept (from_guard _ (nat_lt (length bids) 1000) few.0 few.1) (from_guard _ (is_none (place_of told.0.name (names_of bids))) fresh.0 fresh.1)
    (raw_on net row told.0 raw.0 raw.1) (bid_step net bids new row fields e).0
    (ap (λ (p : Offer). bids ++ p ∷ []) made.1 ∙ from_ok (bids ++ bid.0 ∷ []) new bid.2)

-- ---- a stop

stop_on : (net : Net) (bid : Offer) (stop : Stop) → IsPathOn net bid.path → IsStation net stop.station → IsPathOn net (with_stop bid stop).path
stop_on net bid stop on there = record {
  kind = on.kind;
  origin = on.origin;
  destination = on.destination;
  stops = All-push (λ (s : Stop). IsStation net s.station) bid.path.stops stop on.stops there;
}

length_set : (bids : List Offer) (i : ℕ) (bid : Offer) → length (set bids i bid) ≡ length bids
length_set [] i bid = refl
length_set (b ∷ bids) zero bid = refl
length_set (b ∷ bids) (suc i) bid = ap suc (length_set bids i bid)

stop_added : (net : Net) (row : ℕ) (bids new : List Offer) (place : ℕ) (bid : Offer) (raw : RawStop) → AreKept net bids → slice_get bids place ≡ Some bid → IsStation net raw.station
    → stop_outcome row bids place bid raw ≡ Ok new → AreKept net new
stop_added net row bids new place bid raw kept there on e =
    let c = from_bid_outcome Stops row (stop_refusal bid.path raw) (set bids place (with_stop bid (stop_of raw))) new e in
    let here : get_or bids place bid ≡ bid = get_or_from_slice_get bids place bid bid there in
    let was : IsPathOn net bid.path = subst (λ (p : Offer). IsPathOn net p.path) here (kept.paths place bid (slice_get_within bids place bid there)) in
    subst (λ (l : List Offer). AreKept net l) c.1 (record {
      few = rw (length_set bids place (with_stop bid (stop_of raw))) kept.few;
      paths = All-set (λ (p : Offer). IsPathOn net p.path) bids place (with_stop bid (stop_of raw)) (stop_on net bid (stop_of raw) was on) kept.paths;
      differ =
          subst (λ (l : List Field). AllDiffer l) (sym (map-set_same (λ (p : Offer). p.name) bids place (with_stop bid (stop_of raw)) bid (ap (λ (p : Offer). p.name) (sym here)))) kept.differ;
    })

station_found : (net : Net) (bids : List Offer) (row : ℕ) (name station : Field) (found : ℕ × StationId) → found_at net bids row name station ≡ Ok found → IsStation net found.1
station_found net bids row name station found e =
    let place = from_bind (or_fault _ (place_of name (names_of bids))) _ found e in
    let id = from_bind (or_fault _ (station_named net station)) _ found place.2 in
    subst (λ (p : ℕ × StationId). IsStation net p.1) (from_ok (place.0, id.0) found id.2) (station_there net _ station id.0 id.1)

stop_kept : (net : Net) (bids : List Offer) (row : ℕ) (fields : Record) (new : List Offer) → stop_row net bids row fields ≡ Ok new → AreKept net bids → AreKept net new
unfolding stop_row
stop_kept net bids row fields new e kept =
    let form = from_bind (shaped Stops row 6 fields) _ new e in
    let name = from_bind (name_at Stops row fields 0) _ new form.2 in
    let station = from_bind (name_at Stops row fields 1) _ new name.2 in
    let low = from_bind (number_at Stops row fields 2) _ new station.2 in
    let high = from_bind (number_at Stops row fields 3) _ new low.2 in
    let arrive = from_bind (two_at Stops row fields 4) _ new high.2 in
    let found = from_bind (found_at net bids row name.0 station.0) _ new arrive.2 in
    let bid = from_bind (or_fault _ (slice_get bids found.0.0)) _ new found.2 in
    let raw : RawStop = record { station = found.0.1; min_dwell = low.0; max_dwell = high.0; arrive = arrive.0 } in
    stop_added net row bids new found.0.0 bid.0 raw kept (from_or_fault _ (slice_get bids found.0.0) bid.0 bid.1) (station_found net bids row name.0 station.0 found.0 found.1) bid.2

-- ---- all rows, and both tables

module _ {K : Type 0} (step : K → ℕ → Record → Result K TableFault) (P : K → Type 0) (keeps : (known : K) (row : ℕ) (fields : Record) (more : K) → step known row fields ≡ Ok more → P known → P more) where
  rows_keep : (rows : List Record) (known : K) (row : ℕ) (after : K) → rows_from step known row rows ≡ Ok after → P known → P after
  unfolding rows_from
  rows_keep [] known row after e p = subst P (from_ok known after e) p
  rows_keep (fields ∷ rows) known row after e p =
      let more = from_bind (step known row fields) _ after e in
      rows_keep rows more.0 (row + 1) after more.2 (keeps known row fields more.0 more.1 p)

  -- what each record keeps, a table keeps
  pub table_keep : (table : Table) (header : Record) (known : K) (bytes : List ℕ) (after : K) → table_read step table header known bytes ≡ Ok after → P known → P after
  unfolding table_of
  table_keep table header known bytes after e p =
      let rows = from_bind (under_header table header (table_records bytes)) _ after e in
      rows_keep rows.0 known 2 after rows.2 p

none_kept : (net : Net) → AreKept net []
none_kept net = record {
  few = omega arith;
  paths = λ k d h. absurd (omega (arith, h));
  differ = λ i j d h k. absurd (omega (arith, k));
}

-- bids that were read keep this
both_kept : (net : Net) (named done : List Offer) (bids stops : List ℕ) → table_read (bid_row net) Bids bids_header [] bids ≡ Ok named → table_read (stop_row net) Stops stops_header named stops ≡ Ok done
    → AreKept net done
both_kept net named done bids stops e f =
    table_keep (stop_row net) (AreKept net) (stop_kept net) Stops stops_header named stops done f
    (table_keep (bid_row net) (AreKept net) (bid_kept net) Bids bids_header [] bids named e (none_kept net))

-- bids whose offers were read are an instance
pub instance_read : (net : Net) (named done : List Offer) (bids stops : List ℕ) (items : List Bid) → table_read (bid_row net) Bids bids_header [] bids ≡ Ok named
    → table_read (stop_row net) Stops stops_header named stops ≡ Ok done → map offer_of items ≡ done → IsInstance net items
instance_read net named done bids stops items e f same =
    let kept : AreKept net (map offer_of items) = subst (λ (l : List Offer). AreKept net l) (sym same) (both_kept net named done bids stops e f) in
    let few = kept.few in
    let len = length-map items offer_of in
    record {
      few = omega (arith, few, len);
      paths = λ k d h.
          subst (λ (p : Offer). IsPathOn net p.path) (get_or-map offer_of items k d (offer_of d) h) (kept.paths k (offer_of d) (omega (arith, h, len)));
    }

names_twice : (items : List Bid) → map (λ bid. bid.name) items ≡ names_of (map offer_of items)
names_twice [] = refl
names_twice (b ∷ items) = ap (λ (l : List Field). b.name ∷ l) (names_twice items)

-- and their names differ
pub names_differ : (net : Net) (named done : List Offer) (bids stops : List ℕ) (items : List Bid) → table_read (bid_row net) Bids bids_header [] bids ≡ Ok named
    → table_read (stop_row net) Stops stops_header named stops ≡ Ok done → map offer_of items ≡ done → AllDiffer (map (λ bid. bid.name) items)
names_differ net named done bids stops items e f same =
    let kept = both_kept net named done bids stops e f in
    subst (λ (l : List Field). AllDiffer l) (sym (names_twice items ∙ ap names_of same)) kept.differ
