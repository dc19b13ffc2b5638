-- The bids that a table means, or its first fault.
use Rattle.std.specs.Prelude.{ℕ, List, [], ◌∷◌, ◌++◌, length, map, nat_lt, is_none, Result, Ok, codes}
use Rattle.optra_network.specs.Names.{place_of}
use Rattle.optra_network.specs.Net.{Net}
use Rattle.optra_network.specs.Refusals.{station_named, type_named}
use Rattle.optra_network.specs.declared.NetRefusal.TheVariants.{TakenName, TooMany}
use Rattle.optra_network.specs.declared.StationId.{StationId}
use Rattle.optra_network.specs.declared.TypeId.{TypeId}
use Rattle.optra_bid.specs.Bids.{bid_refusal, money_of, path_of}
use Rattle.optra_bid.specs.Offers.{Offer}
use Rattle.optra_bid.specs.declared.BidRefusal.TheVariants.{UnknownName}
use Rattle.optra_bid.specs.declared.RawBid.{RawBid}
pub use Rattle.optra_bid.specs.Offers.{Offer as Parts, offer_of as parts_of}
use Rattle.optra_records.specs.Reading.{Field, Record}
use Rattle.optra_tables.specs.Fields.{name_at, number_at, shaped, six_at, three_at}
use Rattle.optra_tables.specs.Outcomes.{◌>>=◌, bid_outcome, fault, guard, or_fault}
use Rattle.optra_tables.specs.declared.bids.ToldBid.{ToldBid}
use Rattle.optra_tables.specs.declared.Kind.TheVariants as kinds
use Rattle.optra_tables.specs.declared.Table.TheVariants.{Bids}
use Rattle.optra_tables.specs.declared.TableFault.{TableFault}

abbrev pub names_of : List Offer → List Field
names_of bids = map (λ bid. bid.name) bids

abbrev pub bids_header : Record
bids_header =
    codes "bid" ∷ codes "bidder" ∷ codes "type" ∷ codes "origin" ∷ codes "destination"
    ∷ codes "depart_from" ∷ codes "depart_ideal" ∷ codes "depart_to" ∷ codes "arrive_from" ∷ codes "arrive_ideal" ∷ codes "arrive_to"
    ∷ codes "base" ∷ codes "early_depart" ∷ codes "late_depart" ∷ codes "early_arrive" ∷ codes "late_arrive" ∷ codes "travel" ∷ codes "wait"
    ∷ codes "wait_max" ∷ []

-- what a record of the bids says, before it is looked up and tested
pub record Told : Type 0 where
  pub name : Field
  pub bidder : Field
  pub kind : Field
  pub origin : Field
  pub destination : Field
  pub depart : List ℕ
  pub arrive : List ℕ
  pub base : ℕ
  pub rates : List ℕ
  pub wait_max : ℕ

-- what the code holds of it
abbrev pub told_of : ToldBid → Told
told_of told = record {
  name = told.name.now;
  bidder = told.bidder.now;
  kind = told.kind.now;
  origin = told.origin.now;
  destination = told.destination.now;
  depart = told.depart;
  arrive = told.arrive;
  base = told.base;
  rates = told.rates;
  wait_max = told.wait_max;
}

unfoldable pub told_at : ℕ → Record → Result Told TableFault
told_at row fields = do
  form ← shaped Bids row 19 fields
  name ← name_at Bids row fields 0
  bidder ← name_at Bids row fields 1
  kind ← name_at Bids row fields 2
  origin ← name_at Bids row fields 3
  destination ← name_at Bids row fields 4
  depart ← three_at Bids row fields 5
  arrive ← three_at Bids row fields 8
  base ← number_at Bids row fields 11
  rates ← six_at Bids row fields 12
  wait_max ← number_at Bids row fields 18
  Ok (record {
    name = name;
    bidder = bidder;
    kind = kind;
    origin = origin;
    destination = destination;
    depart = depart;
    arrive = arrive;
    base = base;
    rates = rates;
    wait_max = wait_max;
  })

-- what is told, with its type and its ends looked up
abbrev pub raw_of : Told → TypeId → StationId → StationId → RawBid
raw_of told kind origin destination = record {
  kind = kind;
  origin = origin;
  destination = destination;
  depart = told.depart;
  arrive = told.arrive;
  base = told.base;
  rates = told.rates;
  wait_max = told.wait_max;
}

-- the type and the two ends, or UnknownName
unfoldable pub raw_at : Net → ℕ → Told → Result RawBid TableFault
raw_at net row told = do
  kind ← or_fault (fault Bids row (kinds.Bid UnknownName)) (type_named net told.kind)
  origin ← or_fault (fault Bids row (kinds.Bid UnknownName)) (station_named net told.origin)
  destination ← or_fault (fault Bids row (kinds.Bid UnknownName)) (station_named net told.destination)
  Ok (raw_of told kind origin destination)

-- a bid of its names and its raw numbers, at first with no stop
abbrev pub made_of : Told → RawBid → Offer
made_of told raw = record { name = told.name; bidder = told.bidder; path = path_of raw; money = money_of raw }

-- the bids and one more: there are 1,000 already, one has the name, something that is named isn't there, or the bid is refused
unfoldable pub bid_row : Net → List Offer → ℕ → Record → Result (List Offer) TableFault
bid_row net bids row fields = do
  told ← told_at row fields
  few ← guard (fault Bids row (kinds.Net TooMany)) (nat_lt (length bids) 1000)
  new ← guard (fault Bids row (kinds.Net TakenName)) (is_none (place_of told.name (names_of bids)))
  raw ← raw_at net row told
  bid ← bid_outcome Bids row (bid_refusal raw) (made_of told raw)
  Ok (bids ++ bid ∷ [])
