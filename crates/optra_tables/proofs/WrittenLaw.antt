-- What is written of bids is read again as the same bids.
use Rattle.std.proofs.Common.{◌≡◌, ◌<◌, ◌++◌, ℕ, zero, suc, All, List, [], ◌∷◌, length, map, get_or, Ok, refl, sym, ap, ◌∙◌, subst, arith}
use Rattle.std.proofs.lemmas.List.{length-map}
use Rattle.std.specs.List.{flat_map}
use Rattle.optra_network.specs.Names.{AllDiffer}
use Rattle.optra_network.specs.Net.{IsProper, Net}
use Rattle.optra_bid.specs.Instances.{IsInstance}
use Rattle.optra_bid.specs.Specs.{IsPathOn}
use Rattle.optra_bid.specs.declared.Stop.{Stop}
use Rattle.optra_bid.specs.declared.bids.Bid.{Bid}
use Rattle.optra_records.specs.Reading.{Field, Record}
use Rattle.optra_records.specs.Texts.{AreShown}
use Rattle.optra_bid.specs.Offers.{Offer, offer_of}
use Rattle.optra_tables.specs.Bids.{bid_row, bids_header, names_of}
use Rattle.optra_tables.specs.Rows.{table_read}
use Rattle.optra_tables.specs.Stops.{bids_of, stop_row, stops_header}
use Rattle.optra_tables.specs.Written.{IsSound, Mean, bid_record, bids_table, stop_record, stop_records, stops_table}
use Rattle.optra_tables.specs.declared.Table.TheVariants.{Bids, Stops}
use Rattle.optra_tables.proofs.WrittenBids.{AreWritten, bare, bid_read}
use Rattle.optra_tables.proofs.WrittenLemmas.{rows_add, table_means}
use Rattle.optra_tables.proofs.WrittenStops.{at_place, stops_read}

bids_shown : (net : Net) (bids : List Offer) → AreShown (map (bid_record net) bids)
unfolding bid_record
bids_shown net [] = tt
bids_shown net (bid ∷ bids) = (refl, bids_shown net bids)

some_shown : (net : Net) (name : Field) (stops : List Stop) (rest : List Record) → AreShown rest → AreShown (map (stop_record net name) stops ++ rest)
unfolding stop_record
some_shown net name [] rest h = h
some_shown net name (stop ∷ stops) rest h = (refl, some_shown net name stops rest h)

stops_shown : (net : Net) (bids : List Offer) → AreShown (flat_map (stop_records net) bids)
stops_shown net [] = tt
stops_shown net (bid ∷ bids) = some_shown net bid.name bid.path.stops (flat_map (stop_records net) bids) (stops_shown net bids)

bids_back : (net : Net) (bids : List Offer) → IsProper net → AreWritten net bids → table_read (bid_row net) Bids bids_header [] (bids_table net bids) ≡ Ok (map bare bids)
unfolding bids_table
bids_back net bids proper h =
    table_means (bid_row net) Bids bids_header [] (map (bid_record net) bids) (refl, bids_shown net bids) (λ e. absurd (omega (arith, e)))
    ∙ rows_add (bid_row net) (bid_record net) (map bare) bids (λ before after bid row e. bid_read net before after bids bid row proper h e) [] bids 2 refl

stops_back : (net : Net) (bids : List Offer) → IsProper net → AreWritten net bids → table_read (stop_row net) Stops stops_header (map bare bids) (stops_table net bids) ≡ Ok bids
unfolding stops_table
stops_back net bids proper h =
    table_means (stop_row net) Stops stops_header (map bare bids) (flat_map (stop_records net) bids) (refl, stops_shown net bids) (λ e. absurd (omega (arith, e)))
    ∙ stops_read net bids proper h [] bids 2 refl

-- the two tables that are written mean the bids
pub read_again : (net : Net) (bids : List Offer) → IsProper net → AreWritten net bids → Mean net (bids_table net bids) (stops_table net bids) bids
unfolding bids_of
read_again net bids proper h = rw (bids_back net bids proper h) (stops_back net bids proper h)

-- ---- the bids that are handed in

all_offers : (P : Offer → Type 0) (bids : List Bid) → All (λ bid. P (offer_of bid)) bids → (k : ℕ) (d : Offer) → k < length (map offer_of bids) → P (get_or (map offer_of bids) k d)
all_offers P [] h k d l = absurd (omega arith)
all_offers P (bid ∷ bids) h zero d l = h 0 bid (omega arith)
all_offers P (bid ∷ bids) h (suc k) d l = all_offers P bids (λ j e m. h (suc j) e (omega arith)) k d (omega arith)

names-offers : (bids : List Bid) → map (λ bid. bid.name) bids ≡ names_of (map offer_of bids)
names-offers [] = refl
names-offers (bid ∷ bids) = ap (λ names. bid.name ∷ names) (names-offers bids)

pub are_written : (net : Net) (bids : List Bid) → IsInstance net bids → AllDiffer (map (λ bid. bid.name) bids) → All (λ bid. IsSound (offer_of bid)) bids → AreWritten net (map offer_of bids)
are_written net bids h differ sound = record {
  few = rw (length-map bids offer_of) h.few;
  sound = λ before after bid e. (
    at_place IsSound (map offer_of bids) before after bid (all_offers IsSound bids sound) e,
    at_place (λ (b : Offer). IsPathOn net b.path) (map offer_of bids) before after bid (all_offers (λ (b : Offer). IsPathOn net b.path) bids h.paths) e,
  );
  differ = subst AllDiffer (names-offers bids) differ;
}

-- the table of bids that is written, read with that of their stops
pub bids_mean : (net : Net) (bids : List Bid) (text : List ℕ) → IsProper net → IsInstance net bids → AllDiffer (map (λ bid. bid.name) bids) → All (λ bid. IsSound (offer_of bid)) bids
    → text ≡ bids_table net (map offer_of bids) → Mean net text (stops_table net (map offer_of bids)) (map offer_of bids)
bids_mean net bids text proper h differ sound e =
    subst (λ (t : List ℕ). Mean net t (stops_table net (map offer_of bids)) (map offer_of bids)) (sym e) (read_again net (map offer_of bids) proper (are_written net bids h differ sound))

-- the table of stops that is written, read with that of the bids
pub stops_mean : (net : Net) (bids : List Bid) (text : List ℕ) → IsProper net → IsInstance net bids → AllDiffer (map (λ bid. bid.name) bids) → All (λ bid. IsSound (offer_of bid)) bids
    → text ≡ stops_table net (map offer_of bids) → Mean net (bids_table net (map offer_of bids)) text (map offer_of bids)
stops_mean net bids text proper h differ sound e =
    subst (λ (t : List ℕ). Mean net (bids_table net (map offer_of bids)) t (map offer_of bids)) (sym e) (read_again net (map offer_of bids) proper (are_written net bids h differ sound))
