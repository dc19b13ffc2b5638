-- A list of bids by what they offer, and their places.
use Rattle.std.proofs.Common.{◌≡◌, ◌++◌, ◌<◌, ℕ, List, [], ◌∷◌, length, map, get_or, set, Some, IfSome, OnOk, option_map, slice_get, refl, sym, ap, ◌∙◌, arith}
use Rattle.std.proofs.Math.Seq.{map-set_same}
use Rattle.std.proofs.lemmas.List.{length-map, map-set, map_push}
use Rattle.std.proofs.lemmas.Option.{get_or_from_slice_get, slice_get-map, slice_get_read}
use Rattle.std.specs.Prelude.{Result, Ok, Err}
use Rattle.optra_bid.specs.declared.Stop.{Stop}
use Rattle.optra_bid.specs.declared.bids.Bid.{Bid}
use Rattle.optra_records.specs.Reading.{Field}
use Rattle.optra_bid.specs.Offers.{Offer, offer_of}
use Rattle.optra_tables.specs.Bids.{names_of}
use Rattle.optra_tables.specs.Stops.{with_stop}

-- a place of the offers is one of the bids
pub place_inside : (bids : List Bid) (self : List Offer) (i : ℕ) → map offer_of bids ≡ self → i < length self → i < length bids
place_inside bids self i view h = let a = ap length view in let b = length-map bids offer_of in omega (arith, a, b, h)

-- what the bid at a place offers
pub bid_there : (bids : List Bid) (self : List Offer) (i : ℕ) (b : Bid) → map offer_of bids ≡ self → i < length bids → b ≡ get_or bids i b → slice_get self i ≡ Some (offer_of b)
bid_there bids self i b view h e = ap (λ (l : List Offer). slice_get l i) (sym view) ∙ slice_get-map offer_of bids i ∙ ap (option_map offer_of) (slice_get_read bids (length bids) i b refl h e)

-- the same names, where one bid has another path
pub names_stay : (names : List Field) (bids : List Bid) (i : ℕ) (b new : Bid) → names ≡ names_of (map offer_of bids) → slice_get (map offer_of bids) i ≡ Some (offer_of b) → new.name ≡ b.name
    → names ≡ names_of (map offer_of (set bids i new))
names_stay names bids i b new inv there same =
    let here = get_or_from_slice_get (map offer_of bids) i (offer_of b) (offer_of b) there in
    inv ∙ sym (ap names_of (map-set offer_of bids i new)
    ∙ map-set_same (λ (p : Offer). p.name) (map offer_of bids) i (offer_of new) (offer_of b) (same ∙ ap (λ (p : Offer). p.name) (sym here)))

parts_same : (b new : Bid) (stop : Stop) → new.path ≡ record b.path { stops = b.path.stops ++ stop ∷ [] } → new.name ≡ b.name → new.bidder ≡ b.bidder → new.money ≡ b.money
    → offer_of new ≡ with_stop (offer_of b) stop
parts_same b new stop path name bidder money = λ j. record { name = name j; bidder = bidder j; path = path j; money = money j }

-- one stop more of one bid
pub stop_set : {X E : Type 0} (bids : List Bid) (self : List Offer) (i : ℕ) (b new : Bid) (stop : Stop) (result : Result X E) → map offer_of bids ≡ self → slice_get self i ≡ Some (offer_of b)
    → OnOk result (new.path ≡ record b.path { stops = b.path.stops ++ stop ∷ [] }) → new.name ≡ b.name → new.bidder ≡ b.bidder → new.money ≡ b.money
    → OnOk result (IfSome (slice_get self i) (λ bid. map offer_of (set bids i new) ≡ set self i (with_stop bid stop)))
stop_set bids self i b new stop (Ok x) view there path name bidder money =
    rw there (map-set offer_of bids i new ∙ ap (λ (l : List Offer). set l i (offer_of new)) view ∙ ap (λ (p : Offer). set self i p) (parts_same b new stop path name bidder money))
stop_set bids self i b new stop (Err e) view there path name bidder money = tt

-- the names with one bid more
pub names_more : (names more : List Field) (bids items : List Bid) (b : Bid) → names ≡ names_of (map offer_of bids) → items ≡ bids ++ b ∷ [] → more ≡ names ++ b.name ∷ []
    → more ≡ names_of (map offer_of items)
names_more names more bids items b inv e m =
    m ∙ ap (λ (l : List Field). l ++ b.name ∷ []) inv
    ∙ sym (ap (λ (l : List Bid). names_of (map offer_of l)) e ∙ ap names_of (map_push offer_of bids b) ∙ map_push (λ (p : Offer). p.name) (map offer_of bids) (offer_of b))
