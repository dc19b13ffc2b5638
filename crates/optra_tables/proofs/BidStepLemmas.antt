-- What each accepted record of a bid or a stop adds, and that there are never too many.
use Rattle.std.proofs.Common.{◌≡◌, ◌+◌, ◌-◌, ◌*◌, ◌^◌, ◌<◌, ◌≤◌, ◌||◌, ◌++◌, ℕ, zero, suc, Bool, true, false, not, List, [], ◌∷◌, length, set, Option, Some, None, slice_get, slice_index, is_none, nat_le, nat_lt, refl, sym, ap, ◌∙◌, arith, subst, length-append}
use Rattle.std.proofs.lemmas.Bool.{leb-false, ltb-true}
use Rattle.std.specs.Prelude.{Result, Ok}
use Rattle.optra_network.specs.Names.{place_of}
use Rattle.optra_network.specs.Net.{Net}
use Rattle.optra_bid.specs.Bids.{bid_refusal, is_minute, stop_of, stop_refusal}
use Rattle.optra_network.specs.Refusals.{first_of}
use Rattle.optra_bid.specs.Specs.{Path}
use Rattle.optra_bid.specs.declared.BidRefusal.{BidRefusal}
use Rattle.optra_bid.specs.declared.BidRefusal.TheVariants as why
use Rattle.optra_bid.specs.declared.RawStop.{RawStop}
use Rattle.optra_bid.specs.declared.Stop.{Stop}
use Rattle.optra_records.specs.Reading.{Record}
use Rattle.optra_bid.specs.Offers.{Offer}
use Rattle.optra_tables.specs.Bids.{bid_row, made_of, names_of, raw_at, told_at}
use Rattle.optra_tables.specs.Fields.{name_at, number_at, shaped, two_at}
use Rattle.optra_tables.specs.Outcomes.{bid_outcome, guard, or_fault}
use Rattle.optra_tables.specs.Room.{stops_room}
use Rattle.optra_tables.specs.Stops.{found_at, stop_outcome, stop_row, with_stop}
use Rattle.optra_tables.specs.declared.Table.{Table}
use Rattle.optra_tables.specs.declared.Table.TheVariants.{Bids, Stops}
use Rattle.optra_tables.specs.declared.TableFault.{TableFault}
use Rattle.optra_tables.proofs.StepLemmas.{from_bind}

pub from_guard : (f : TableFault) (b : Bool) (x : Unit {0}) → guard f b ≡ Ok x → b ≡ true
from_guard f true x e = refl
from_guard f false x e = absurd (cc e)

pub from_bid_outcome : {A : Type 0} (table : Table) (row : ℕ) (rule : Option BidRefusal) (after new : A) → bid_outcome table row rule after ≡ Ok new → (rule ≡ None) × (after ≡ new)
from_bid_outcome table row None after new e = (refl, cc e)
from_bid_outcome table row (Some why) after new e = absurd (cc e)

pub from_or_fault : {A : Type 0} (f : TableFault) (o : Option A) (x : A) → or_fault f o ≡ Ok x → o ≡ Some x
from_or_fault f None x e = absurd (cc e)
from_or_fault f (Some y) x e = cc e

pub from_ok : {A : Type 0} (x y : A) → ◌≡◌ {A = Result A TableFault} (Ok x) (Ok y) → x ≡ y
from_ok x y e = cc e

-- ---- bids

bids_more : (bids new : List Offer) (bid : Offer) → nat_lt (length bids) 1000 ≡ true → bids ++ bid ∷ [] ≡ new → (length new ≤ 1000) × ((1000 - length new) + 1 ≤ 1000 - length bids)
bids_more bids new bid few same =
    let low = ltb-true (length bids) 1000 few in
    let len : length new ≡ length bids + 1 = ap length (sym same) ∙ length-append bids (bid ∷ []) in
    (omega (arith, low, len), omega (arith, low, len))

-- a bid that is accepted takes one of the places
pub bid_step : (net : Net) (bids new : List Offer) (row : ℕ) (fields : Record) → bid_row net bids row fields ≡ Ok new → (length new ≤ 1000) × ((1000 - length new) + 1 ≤ 1000 - length bids)
unfolding bid_row
bid_step net bids new row fields e =
    let told = from_bind (told_at row fields) _ new e in
    let few = from_bind (guard _ (nat_lt (length bids) 1000)) _ new told.2 in
    let fresh = from_bind (guard _ (is_none (place_of told.0.name (names_of bids)))) _ new few.2 in
    let raw = from_bind (raw_at net row told.0) _ new fresh.2 in
    let bid = from_bind (bid_outcome Bids row (bid_refusal raw.0) (made_of told.0 raw.0)) _ new raw.2 in
    bids_more bids new bid.0 (from_guard _ (nat_lt (length bids) 1000) few.0 few.1) (from_ok (bids ++ bid.0 ∷ []) new bid.2)

-- ---- stops

pub stops_room_few : (bids : List Offer) → stops_room bids ≤ 8 * length bids
unfolding stops_room
stops_room_few [] = omega arith
stops_room_few (bid ∷ bids) = let more = stops_room_few bids in omega (arith, more)

stop_more : (bid : Offer) (stop : Stop) → length bid.path.stops < 8 → (8 - length (with_stop bid stop).path.stops) + 1 ≤ 8 - length bid.path.stops
stop_more bid stop few = let len = length-append bid.path.stops (stop ∷ []) in omega (arith, few, len)

stops_more : (bids : List Offer) (i : ℕ) (bid : Offer) (stop : Stop) → slice_get bids i ≡ Some bid → length bid.path.stops < 8 → stops_room (set bids i (with_stop bid stop)) + 1 ≤ stops_room bids
unfolding stops_room
stops_more [] i bid stop there few = absurd (cc there)
stops_more (b ∷ bids) zero bid stop there few =
    let same : b ≡ bid = cc there in
    subst (λ (c : Offer). (8 - length (with_stop bid stop).path.stops) + stops_room bids + 1 ≤ (8 - length c.path.stops) + stops_room bids) (sym same)
    (let more = stop_more bid stop few in omega (arith, more))
stops_more (b ∷ bids) (suc i) bid stop there few = let more = stops_more bids i bid stop there few in omega (arith, more)

length_set : (bids : List Offer) (i : ℕ) (bid : Offer) → length (set bids i bid) ≡ length bids
length_set [] i bid = refl
length_set (b ∷ bids) zero bid = refl
length_set (b ∷ bids) (suc i) bid = ap suc (length_set bids i bid)

or_left : (a b : Bool) → (a || b) ≡ false → a ≡ false
or_left true b e = absurd (cc e)
or_left false b e = refl

third_of : {R : Type 0} (a b c : Bool) (x y z : R) → first_of ((a, x) ∷ (b, y) ∷ (c, z) ∷ []) ≡ None → c ≡ false
third_of true b c x y z e = absurd (cc e)
third_of false true c x y z e = absurd (cc e)
third_of false false true x y z e = absurd (cc e)
third_of false false false x y z e = refl

-- a bid that isn't refused a stop had fewer than eight
stops_below : (path : Path) (raw : RawStop) → stop_refusal path raw ≡ None → length path.stops < 8
stops_below path raw e =
    let late = not (is_minute (slice_index raw.arrive 0)) || not (is_minute (slice_index raw.arrive 1)) || nat_lt 240 raw.min_dwell || nat_lt 240 raw.max_dwell in
    let full = nat_le 8 (length path.stops) || nat_lt raw.max_dwell raw.min_dwell || nat_lt 30 (raw.max_dwell - raw.min_dwell) in
    let free : full ≡ false = third_of (nat_lt (slice_index raw.arrive 1) (slice_index raw.arrive 0)) late full why.Window why.Range why.Stops e in
    leb-false 8 (length path.stops)
    (or_left (nat_le 8 (length path.stops)) (nat_lt raw.max_dwell raw.min_dwell)
    (or_left (nat_le 8 (length path.stops) || nat_lt raw.max_dwell raw.min_dwell) (nat_lt 30 (raw.max_dwell - raw.min_dwell)) free))

stop_added : (row : ℕ) (bids new : List Offer) (place : ℕ) (bid : Offer) (raw : RawStop) → slice_get bids place ≡ Some bid → stop_outcome row bids place bid raw ≡ Ok new
    → (length new ≡ length bids) × (stops_room new + 1 ≤ stops_room bids)
stop_added row bids new place bid raw there e =
    let c = from_bid_outcome Stops row (stop_refusal bid.path raw) (set bids place (with_stop bid (stop_of raw))) new e in (
      sym (ap length c.1) ∙ length_set bids place (with_stop bid (stop_of raw)),
      subst (λ (l : List Offer). stops_room l + 1 ≤ stops_room bids) c.1 (stops_more bids place bid (stop_of raw) there (stops_below bid.path raw c.0)),
    )

-- a stop that is accepted takes one of the places of its bid
pub stop_step : (net : Net) (bids new : List Offer) (row : ℕ) (fields : Record) → stop_row net bids row fields ≡ Ok new → (length new ≡ length bids) × (stops_room new + 1 ≤ stops_room bids)
unfolding stop_row
stop_step net bids new row fields e =
    let form = from_bind (shaped Stops row 6 fields) _ new e in
    let name = from_bind (name_at Stops row fields 0) _ new form.2 in
    let station = from_bind (name_at Stops row fields 1) _ new name.2 in
    let low = from_bind (number_at Stops row fields 2) _ new station.2 in
    let high = from_bind (number_at Stops row fields 3) _ new low.2 in
    let arrive = from_bind (two_at Stops row fields 4) _ new high.2 in
    let found = from_bind (found_at net bids row name.0 station.0) _ new arrive.2 in
    let bid = from_bind (or_fault _ (slice_get bids found.0.0)) _ new found.2 in
    let raw : RawStop = record { station = found.0.1; min_dwell = low.0; max_dwell = high.0; arrive = arrive.0 } in
    stop_added row bids new found.0.0 bid.0 raw (from_or_fault _ (slice_get bids found.0.0) bid.0 bid.1) bid.2

-- ---- how many rows there can be

pub stop_rows_few : (bids : List Offer) → length bids ≤ 1000 → stops_room bids < 2 ^ 31
stop_rows_few bids few = let most = stops_room_few bids in omega (arith, few, most)

pub stop_takes_room : (net : Net) (bids new : List Offer) (row : ℕ) (fields : Record) → stop_row net bids row fields ≡ Ok new → length bids ≤ 1000
    → (length new ≤ 1000) × (stops_room new + 1 ≤ stops_room bids)
stop_takes_room net bids new row fields e few = let step = stop_step net bids new row fields e in (omega (arith, few, step.0), step.1)
