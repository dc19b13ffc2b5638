-- The table of bids that is written is read again as the bids without their stops.
use Rattle.std.proofs.Common.{◌≡◌, ◌+◌, ◌^◌, ◌<◌, ◌≤◌, ◌++◌, ℕ, true, List, [], ◌∷◌, length, map, None, Ok, nat_lt, refl, sym, ap, ◌∙◌, subst, arith, length-append}
use Rattle.std.proofs.lemmas.Bool.{le-leb, le-ltb, lt-ltb, ne_eqb}
use Rattle.std.proofs.lemmas.Int.{ints}
use Rattle.std.proofs.lemmas.List.{length-map, map-append}
use Rattle.std.proofs.lemmas.List.Folds.{list_all-append}
use Rattle.std.specs.Fmt.{decimal, signed_decimal}
use Rattle.std.specs.List.{list_all}
use Rattle.std.specs.Prelude.{ℤ, pos, negsuc}
use Rattle.std.specs.Str.{is_utf8}
use Rattle.optra_network.specs.Names.{AllDiffer, place_of}
use Rattle.optra_network.specs.Net.{IsProper, Net}
use Rattle.optra_bid.specs.Bids.{are_in_order, are_rates, are_three_minutes, bid_refusal, money_from}
use Rattle.optra_bid.specs.Specs.{AreBounds, IsBetween, IsMoney, IsPathOn, IsWindow}
use Rattle.optra_bid.specs.declared.Money.{Money}
use Rattle.optra_bid.specs.declared.RawBid.{RawBid}
use Rattle.optra_bid.specs.declared.Window.{Window}
use Rattle.optra_records.specs.Reading.{Record}
use Rattle.optra_bid.specs.Offers.{Offer}
use Rattle.optra_tables.specs.Bids.{Told, bid_row, made_of, names_of, raw_at, told_at}
use Rattle.optra_records.specs.Tables.{field, is_row}
use Rattle.optra_tables.specs.Fields.{name_at, number_at, six_at, three_at}
use Rattle.optra_tables.specs.Written.{IsSound, bid_record, money_fields, name_fields, named, window_fields}
use Rattle.optra_tables.specs.declared.Table.TheVariants.{Bids}
use Rattle.optra_records.proofs.CellLemmas.{row_is}
use Rattle.optra_tables.proofs.WrittenLemmas.{decimal_utf8, differs_before, is_name-named, name_read, name_utf8, number_read, place_none, station_found, type_found}

-- ---- amounts

-- the cents of an amount, which is not negative
abbrev pub cents : ℤ → ℕ
cents (pos n) = n
cents (negsuc n) = 0

cents_are : (z : ℤ) (top : ℕ) → IsBetween (pos 0) (pos top) z → (z ≡ pos (cents z)) × (cents z ≤ top)
cents_are (pos n) top h = (refl, omega (arith, ints, h.1))
cents_are (negsuc n) top h = absurd (omega (arith, ints, h.0))

-- an amount of cents, at most so many
record IsAmount (top : ℕ) (z : ℤ) : Type 0 where
  same : z ≡ pos (cents z)
  few : cents z ≤ top
  text : signed_decimal z ≡ decimal (cents z)

amount : (top : ℕ) (z : ℤ) → IsBetween (pos 0) (pos top) z → IsAmount top z
amount top z h = let a = cents_are z top h in record { same = a.0; few = a.1; text = ap signed_decimal a.0 }

-- the base and the rates are amounts
record AreAmounts (money : Money) : Type 0 where
  base : IsAmount 1000000000 money.base
  early_depart : IsAmount 1000000 money.early_depart
  late_depart : IsAmount 1000000 money.late_depart
  early_arrive : IsAmount 1000000 money.early_arrive
  late_arrive : IsAmount 1000000 money.late_arrive
  travel : IsAmount 1000000 money.travel
  wait : IsAmount 1000000 money.wait

amounts : (money : Money) → IsMoney money → AreAmounts money
amounts money h = record {
  base = amount 1000000000 money.base h.base;
  early_depart = amount 1000000 money.early_depart h.early_depart;
  late_depart = amount 1000000 money.late_depart h.late_depart;
  early_arrive = amount 1000000 money.early_arrive h.early_arrive;
  late_arrive = amount 1000000 money.late_arrive h.late_arrive;
  travel = amount 1000000 money.travel h.travel;
  wait = amount 1000000 money.wait h.wait;
}

-- ---- what the record of a bid tells

abbrev minutes_of : Window → List ℕ
minutes_of window = window.from ∷ window.ideal ∷ window.to ∷ []

abbrev rates_of : Money → List ℕ
rates_of money =
    cents money.early_depart ∷ cents money.late_depart ∷ cents money.early_arrive ∷ cents money.late_arrive ∷ cents money.travel ∷ cents money.wait ∷ []

told_of : Net → Offer → Told
told_of net bid = record {
  name = bid.name;
  bidder = bid.bidder;
  kind = named net.types bid.path.kind.0;
  origin = named net.stations bid.path.origin.0;
  destination = named net.stations bid.path.destination.0;
  depart = minutes_of bid.path.depart;
  arrive = minutes_of bid.path.arrive;
  base = cents bid.money.base;
  rates = rates_of bid.money;
  wait_max = bid.path.wait_max;
}

raw_of_bid : Offer → RawBid
raw_of_bid bid = record {
  kind = bid.path.kind;
  origin = bid.path.origin;
  destination = bid.path.destination;
  depart = minutes_of bid.path.depart;
  arrive = minutes_of bid.path.arrive;
  base = cents bid.money.base;
  rates = rates_of bid.money;
  wait_max = bid.path.wait_max;
}

-- a record tells what its fields say
told_read : (row : ℕ) (fields : Record) (told : Told) → is_row 19 fields ≡ true
    → name_at Bids row fields 0 ≡ Ok told.name → name_at Bids row fields 1 ≡ Ok told.bidder → name_at Bids row fields 2 ≡ Ok told.kind
    → name_at Bids row fields 3 ≡ Ok told.origin → name_at Bids row fields 4 ≡ Ok told.destination
    → three_at Bids row fields 5 ≡ Ok told.depart → three_at Bids row fields 8 ≡ Ok told.arrive → number_at Bids row fields 11 ≡ Ok told.base
    → six_at Bids row fields 12 ≡ Ok told.rates → number_at Bids row fields 18 ≡ Ok told.wait_max → told_at row fields ≡ Ok told
unfolding told_at
told_read row fields told form name bidder kind origin destination depart arrive base rates wait_max =
    rw (form, name, bidder, kind, origin, destination, depart, arrive, base, rates, wait_max) refl

three_read : (row : ℕ) (fields : Record) (i a b c : ℕ) → field fields i ≡ decimal a → field fields (i + 1) ≡ decimal b → field fields (i + 2) ≡ decimal c
    → a < 10 ^ 10 → b < 10 ^ 10 → c < 10 ^ 10 → three_at Bids row fields i ≡ Ok (a ∷ b ∷ c ∷ [])
three_read row fields i a b c ea eb ec ha hb hc =
    rw (number_read Bids row fields i a ea ha, number_read Bids row fields (i + 1) b eb hb, number_read Bids row fields (i + 2) c ec hc) refl

six_read : (row : ℕ) (fields : Record) (i a b c d e f : ℕ)
    → field fields i ≡ decimal a → field fields (i + 1) ≡ decimal b → field fields (i + 2) ≡ decimal c
    → field fields (i + 3) ≡ decimal d → field fields (i + 4) ≡ decimal e → field fields (i + 5) ≡ decimal f
    → a < 10 ^ 10 → b < 10 ^ 10 → c < 10 ^ 10 → d < 10 ^ 10 → e < 10 ^ 10 → f < 10 ^ 10
    → six_at Bids row fields i ≡ Ok (a ∷ b ∷ c ∷ d ∷ e ∷ f ∷ [])
six_read row fields i a b c d e f ea eb ec ed ee ef ha hb hc hd he hf =
    rw (
      number_read Bids row fields i a ea ha,
      number_read Bids row fields (i + 1) b eb hb,
      number_read Bids row fields (i + 2) c ec hc,
      number_read Bids row fields (i + 3) d ed hd,
      number_read Bids row fields (i + 4) e ee he,
      number_read Bids row fields (i + 5) f ef hf,
    ) refl

-- ---- the form of the record of a bid

both_utf8 : (a b : Record) → list_all is_utf8 a ≡ true → list_all is_utf8 b ≡ true → list_all is_utf8 (a ++ b) ≡ true
both_utf8 a b ha hb = list_all-append is_utf8 a b ∙ (rw (ha, hb) refl)

signed_utf8 : (top : ℕ) (z : ℤ) → IsAmount top z → top < 10 ^ 10 → is_utf8 (signed_decimal z) ≡ true
signed_utf8 top z a small = rw a.text (decimal_utf8 (cents z) (omega (arith, a.few)))

names_utf8 : (net : Net) (bid : Offer) → IsProper net → IsPathOn net bid.path → IsSound bid → list_all is_utf8 (name_fields net bid) ≡ true
names_utf8 net bid proper on sound =
    rw (
      name_utf8 bid.name sound.name,
      name_utf8 bid.bidder sound.bidder,
      name_utf8 (named net.types bid.path.kind.0) (is_name-named net.types bid.path.kind.0 proper.built.names.type_names on.kind),
      name_utf8 (named net.stations bid.path.origin.0) (is_name-named net.stations bid.path.origin.0 proper.built.names.station_names on.origin),
      name_utf8 (named net.stations bid.path.destination.0) (is_name-named net.stations bid.path.destination.0 proper.built.names.station_names on.destination),
    ) refl

window_utf8 : (window : Window) → IsWindow window → list_all is_utf8 (window_fields window) ≡ true
window_utf8 window h =
    rw (
      decimal_utf8 window.from (omega (arith, h.early, h.late, h.day)),
      decimal_utf8 window.ideal (omega (arith, h.late, h.day)),
      decimal_utf8 window.to (omega (arith, h.day)),
    ) refl

money_utf8 : (money : Money) → AreAmounts money → list_all is_utf8 (money_fields money) ≡ true
money_utf8 money a =
    rw (
      signed_utf8 1000000000 money.base a.base (omega arith),
      signed_utf8 1000000 money.early_depart a.early_depart (omega arith),
      signed_utf8 1000000 money.late_depart a.late_depart (omega arith),
      signed_utf8 1000000 money.early_arrive a.early_arrive (omega arith),
      signed_utf8 1000000 money.late_arrive a.late_arrive (omega arith),
      signed_utf8 1000000 money.travel a.travel (omega arith),
      signed_utf8 1000000 money.wait a.wait (omega arith),
    ) refl

wait_utf8 : (n : ℕ) → n ≤ 30 → list_all is_utf8 (decimal n ∷ []) ≡ true
wait_utf8 n h = rw (decimal_utf8 n (omega (arith, h))) refl

form_written : (net : Net) (bid : Offer) → IsProper net → IsPathOn net bid.path → IsSound bid → AreAmounts bid.money → is_row 19 (bid_record net bid) ≡ true
unfolding bid_record
form_written net bid proper on sound a =
    let n = names_utf8 net bid proper on sound in
    let d = window_utf8 bid.path.depart sound.bounds.depart in
    let r = window_utf8 bid.path.arrive sound.bounds.arrive in
    let m = money_utf8 bid.money a in
    let w = wait_utf8 bid.path.wait_max sound.bounds.wait_max in
    let names = name_fields net bid in
    let depart = window_fields bid.path.depart in
    let arrive = window_fields bid.path.arrive in
    let money = money_fields bid.money in
    let ends = both_utf8 (names ++ depart) arrive (both_utf8 names depart n d) r in
    let all = both_utf8 (names ++ depart ++ arrive ++ money) (decimal bid.path.wait_max ∷ []) (both_utf8 (names ++ depart ++ arrive) money ends m) w in
    sym (row_is 19 (bid_record net bid) true refl (sym all))

-- ---- the record of a bid is read again

early_small : (window : Window) → IsWindow window → (window.from < 10 ^ 10) × (window.ideal < 10 ^ 10) × (window.to < 10 ^ 10)
early_small window h = (omega (arith, h.early, h.late, h.day), omega (arith, h.late, h.day), omega (arith, h.day))

amount_small : (top : ℕ) (z : ℤ) → IsAmount top z → top < 10 ^ 10 → cents z < 10 ^ 10
amount_small top z a small = omega (arith, a.few)

told_written : (net : Net) (bid : Offer) (row : ℕ) → IsProper net → IsPathOn net bid.path → IsSound bid → AreAmounts bid.money → told_at row (bid_record net bid) ≡ Ok (told_of net bid)
unfolding bid_record told_of
told_written net bid row proper on sound a =
    let fields = bid_record net bid in
    let d = early_small bid.path.depart sound.bounds.depart in
    let r = early_small bid.path.arrive sound.bounds.arrive in
    told_read row fields (told_of net bid) (form_written net bid proper on sound a)
    (name_read Bids row fields 0 bid.name refl sound.name)
    (name_read Bids row fields 1 bid.bidder refl sound.bidder)
    (name_read Bids row fields 2 (named net.types bid.path.kind.0) refl (is_name-named net.types bid.path.kind.0 proper.built.names.type_names on.kind))
    (name_read Bids row fields 3 (named net.stations bid.path.origin.0) refl (is_name-named net.stations bid.path.origin.0 proper.built.names.station_names on.origin))
    (name_read Bids row fields 4 (named net.stations bid.path.destination.0) refl (is_name-named net.stations bid.path.destination.0 proper.built.names.station_names on.destination))
    (three_read row fields 5 bid.path.depart.from bid.path.depart.ideal bid.path.depart.to refl refl refl d.0 d.1 d.2)
    (three_read row fields 8 bid.path.arrive.from bid.path.arrive.ideal bid.path.arrive.to refl refl refl r.0 r.1 r.2)
    (number_read Bids row fields 11 (cents bid.money.base) a.base.text (amount_small 1000000000 bid.money.base a.base (omega arith)))
    (
    six_read row fields 12 (cents bid.money.early_depart) (cents bid.money.late_depart) (cents bid.money.early_arrive) (cents bid.money.late_arrive) (cents bid.money.travel) (cents bid.money.wait)
    a.early_depart.text a.late_depart.text a.early_arrive.text a.late_arrive.text a.travel.text a.wait.text
    (amount_small 1000000 bid.money.early_depart a.early_depart (omega arith)) (amount_small 1000000 bid.money.late_depart a.late_depart (omega arith))
    (amount_small 1000000 bid.money.early_arrive a.early_arrive (omega arith)) (amount_small 1000000 bid.money.late_arrive a.late_arrive (omega arith))
    (amount_small 1000000 bid.money.travel a.travel (omega arith)) (amount_small 1000000 bid.money.wait a.wait (omega arith))
    )
    (number_read Bids row fields 18 bid.path.wait_max refl (omega (arith, sound.bounds.wait_max)))

raw_written : (net : Net) (bid : Offer) (row : ℕ) → IsProper net → IsPathOn net bid.path → raw_at net row (told_of net bid) ≡ Ok (raw_of_bid bid)
unfolding raw_at told_of raw_of_bid
raw_written net bid row proper on =
    rw (type_found net bid.path.kind proper on.kind, station_found net bid.path.origin proper on.origin, station_found net bid.path.destination proper on.destination) refl

-- ---- nothing is refused

in_order : (window : Window) → IsWindow window → are_in_order (minutes_of window) ≡ true
in_order window h = rw (le-leb window.from window.ideal h.early, le-leb window.ideal window.to h.late) refl

three_minutes : (window : Window) → IsWindow window → are_three_minutes (minutes_of window) ≡ true
three_minutes window h =
    rw (le-leb window.from 2879 (omega (arith, h.early, h.late, h.day)), le-leb window.ideal 2879 (omega (arith, h.late, h.day)), le-leb window.to 2879 h.day) refl

rates_kept : (money : Money) → AreAmounts money → are_rates (rates_of money) ≡ true
rates_kept money a =
    rw (
      le-leb (cents money.early_depart) 1000000 a.early_depart.few,
      le-leb (cents money.late_depart) 1000000 a.late_depart.few,
      le-leb (cents money.early_arrive) 1000000 a.early_arrive.few,
      le-leb (cents money.late_arrive) 1000000 a.late_arrive.few,
      le-leb (cents money.travel) 1000000 a.travel.few,
      le-leb (cents money.wait) 1000000 a.wait.few,
    ) refl

not_refused : (bid : Offer) → AreBounds bid.path bid.money → AreAmounts bid.money → bid_refusal (raw_of_bid bid) ≡ None
unfolding raw_of_bid
not_refused bid h a =
    rw (
      ne_eqb bid.path.origin.0 bid.path.destination.0 (λ e. h.ends (λ i. record { 0 = e i })),
      in_order bid.path.depart h.depart,
      in_order bid.path.arrive h.arrive,
      three_minutes bid.path.depart h.depart,
      three_minutes bid.path.arrive h.arrive,
      le-ltb 1000000000 (cents bid.money.base) a.base.few,
      rates_kept bid.money a,
      le-ltb 30 bid.path.wait_max h.wait_max,
    ) refl

-- ---- the bids

-- a bid without its stops
abbrev pub bare : Offer → Offer
bare bid = record bid { path = record bid.path { stops = [] } }

money_same : (money : Money) → AreAmounts money → money_from (cents money.base) (rates_of money) ≡ money
money_same money a = λ i. record {
  base = sym a.base.same i;
  early_depart = sym a.early_depart.same i;
  late_depart = sym a.late_depart.same i;
  early_arrive = sym a.early_arrive.same i;
  late_arrive = sym a.late_arrive.same i;
  travel = sym a.travel.same i;
  wait = sym a.wait.same i;
}

made_same : (net : Net) (bid : Offer) → AreAmounts bid.money → made_of (told_of net bid) (raw_of_bid bid) ≡ bare bid
unfolding told_of raw_of_bid
made_same net bid a = ap (λ (money : Money). let p : Offer = record { name = bid.name; bidder = bid.bidder; path = record bid.path { stops = [] }; money = money } in p) (money_same bid.money a)

pub names-bare : (bids : List Offer) → names_of (map bare bids) ≡ names_of bids
names-bare [] = refl
names-bare (bid ∷ bids) = ap (λ names. bid.name ∷ names) (names-bare bids)

name_told : (net : Net) (bid : Offer) → (told_of net bid).name ≡ bid.name
unfolding told_of
name_told net bid = refl

-- what is known of the bids that are written
pub record AreWritten (net : Net) (bids : List Offer) : Type 0 where
  pub few : length bids ≤ 1000
  pub sound : (before after : List Offer) (bid : Offer) → before ++ bid ∷ after ≡ bids → IsSound bid × IsPathOn net bid.path
  pub differ : AllDiffer (names_of bids)

name_free : (before after : List Offer) (bid : Offer) → AllDiffer (names_of (before ++ bid ∷ after)) → place_of bid.name (names_of (map bare before)) ≡ None
name_free before after bid differ =
    rw (names-bare before)
    (place_none bid.name (names_of before) (λ k l. differs_before (names_of before) (names_of after) bid.name (rw (map-append (λ (b : Offer). b.name) before (bid ∷ after)) at differ) k l))

pub bid_read : (net : Net) (before after bids : List Offer) (bid : Offer) (row : ℕ) → IsProper net → AreWritten net bids → before ++ bid ∷ after ≡ bids
    → bid_row net (map bare before) row (bid_record net bid) ≡ Ok (map bare (before ++ bid ∷ []))
unfolding bid_row
bid_read net before after bids bid row proper h e =
    let s = h.sound before after bid e in
    let a = amounts bid.money s.0.bounds.amounts in
    let count = length-append before (bid ∷ after) in
    let total : length (before ++ bid ∷ after) ≡ length bids = ap length e in
    let few : nat_lt (length (map bare before)) 1000 ≡ true = rw (length-map before bare) (lt-ltb (length before) 1000 (omega (arith, h.few, count, total))) in
    let free : place_of (told_of net bid).name (names_of (map bare before)) ≡ None = rw (name_told net bid) (name_free before after bid (subst (λ (all : List Offer). AllDiffer (names_of all)) (sym e) h.differ)) in
    rw (told_written net bid row proper s.1 s.0 a, few, free, raw_written net bid row proper s.1, not_refused bid s.0.bounds a, made_same net bid a, map-append bare before (bid ∷ [])) refl
