-- A bid is told by what it offers.
use Rattle.std.proofs.Common.{◌≡◌, ℤ, List, [], ◌∷◌, map, refl, ap, subst}
use Rattle.std.proofs.Math.Bridge.{le_prop}
use Rattle.std.proofs.Math.Dec.{T_prop}
use Rattle.optra_bid.specs.Specs.{Path, IsWindow, IsStop, IsBetween, IsMoney, AreBounds}
use Rattle.optra_bid.specs.declared.Window.{Window}
use Rattle.optra_bid.specs.declared.Stop.{Stop}
use Rattle.optra_bid.specs.declared.Money.{Money}
use Rattle.optra_bid.specs.declared.bids.Bid.{Bid}
use Rattle.optra_bid.specs.Offers.{Offer, offer_of}

one_between : (low high cents : ℤ) (a b : IsBetween low high cents) → a ≡ b
one_between low high cents a b i = (record { le = T_prop _ a.0.le b.0.le i }, record { le = T_prop _ a.1.le b.1.le i })

one_window : (window : Window) (a b : IsWindow window) → a ≡ b
one_window window a b i = record { early = le_prop a.early b.early i; late = le_prop a.late b.late i; day = le_prop a.day b.day i }

one_stop : (stop : Stop) (a b : IsStop stop) → a ≡ b
one_stop stop a b i = record {
  arrive = le_prop a.arrive b.arrive i;
  day = le_prop a.day b.day i;
  dwell = le_prop a.dwell b.dwell i;
  dwell_max = le_prop a.dwell_max b.dwell_max i;
  spread = le_prop a.spread b.spread i;
}

one_money : (money : Money) (a b : IsMoney money) → a ≡ b
one_money money a b i = record {
  base = one_between _ _ _ a.base b.base i;
  early_depart = one_between _ _ _ a.early_depart b.early_depart i;
  late_depart = one_between _ _ _ a.late_depart b.late_depart i;
  early_arrive = one_between _ _ _ a.early_arrive b.early_arrive i;
  late_arrive = one_between _ _ _ a.late_arrive b.late_arrive i;
  travel = one_between _ _ _ a.travel b.travel i;
  wait = one_between _ _ _ a.wait b.wait i;
}

never_two : {X : Type 0} (a b : X → ⊥) → a ≡ b
never_two a b i x = let same : a x ≡ b x = absurd (a x) in same i

one_bounds : (path : Path) (money : Money) (a b : AreBounds path money) → a ≡ b
one_bounds path money a b i = record {
  ends = never_two a.ends b.ends i;
  depart = one_window _ a.depart b.depart i;
  arrive = one_window _ a.arrive b.arrive i;
  wait_max = le_prop a.wait_max b.wait_max i;
  few = le_prop a.few b.few i;
  stops = λ j d l. one_stop _ (a.stops j d l) (b.stops j d l) i;
  amounts = one_money _ a.amounts b.amounts i;
}

-- the bid of this offer
abbrev bid_from : (offer : Offer) → AreBounds offer.path offer.money → Bid
bid_from offer bounds = record { name = offer.name; bidder = offer.bidder; path = offer.path; money = offer.money; bounds = bounds }

same_bid : (p q : Offer) → p ≡ q → (a : AreBounds p.path p.money) (b : AreBounds q.path q.money) → bid_from p a ≡ bid_from q b
same_bid p q e a = subst (λ (q : Offer). (b : AreBounds q.path q.money) → bid_from p a ≡ bid_from q b) e (λ b. ap (bid_from p) (one_bounds p.path p.money a b))

bid-from_offer : (a b : Bid) → offer_of a ≡ offer_of b → a ≡ b
bid-from_offer a b e = same_bid (offer_of a) (offer_of b) e a.bounds b.bounds

heads : {X : Type 0} (x y : X) (xs ys : List X) → x ∷ xs ≡ y ∷ ys → x ≡ y
heads x y xs ys e = cc

tails : {X : Type 0} (x y : X) (xs ys : List X) → x ∷ xs ≡ y ∷ ys → xs ≡ ys
tails x y xs ys e = cc

-- bids of the same offers are the same
pub bids-from_offers : (bids others : List Bid) → map offer_of bids ≡ map offer_of others → bids ≡ others
bids-from_offers [] [] e = refl
bids-from_offers [] (b ∷ others) e = absurd (cc)
bids-from_offers (a ∷ bids) [] e = absurd (cc)
bids-from_offers (a ∷ bids) (b ∷ others) e =
    let first = bid-from_offer a b (heads (offer_of a) (offer_of b) (map offer_of bids) (map offer_of others) e) in
    let rest = bids-from_offers bids others (tails (offer_of a) (offer_of b) (map offer_of bids) (map offer_of others) e) in
    λ i. first i ∷ rest i
