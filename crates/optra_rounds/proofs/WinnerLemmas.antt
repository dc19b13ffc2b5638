-- The winners among the bids that stand.
use Rattle.std.proofs.Common.{◌≡◌, ℕ, ◌+◌, ◌<◌, List, [], ◌∷◌, ◌++◌, length, take, get_or, map, slice_get, Option, None, Some, option_map, sym, ap, ◌∙◌, arith}
use Rattle.std.specs.Prelude.{ℤ}
use Rattle.std.proofs.lemmas.List.{append-nil, take_more, get_or-map, length-map}
use Rattle.std.proofs.lemmas.List.Elements.{filter_map-append}
use Rattle.std.specs.List.{filter_map}
use Rattle.optra_bid.specs.declared.bids.Bid.{Bid}
use Rattle.optra_bid.specs.Offers.{Offer, offer_of}
use Rattle.optra_auction.specs.Machine.{Standing, offer_on, planned_of}
use Rattle.optra_rounds.specs.Rounds.{award_of, awards_of}
use Rattle.optra_rounds.proofs.SpecLemmas.{found}

-- a bid that is planned has the names of the bid that stands
offer-names : (specs : List Bid) (bid : Bid) (b : Standing) → Some (offer_of bid) ≡ planned_of specs b → (bid.name ≡ b.name) × (bid.bidder ≡ b.bidder)
offer-names specs bid b h = by (slice_get specs b.spec) h
  where
    by : (o : Option Bid) → Some (offer_of bid) ≡ option_map (λ (spec : Bid). offer_on spec b) o → (bid.name ≡ b.name) × (bid.bidder ≡ b.bidder)
    by None e = absurd (cc e)
    by (Some spec) e = let same : offer_of bid ≡ offer_on spec b = cc e in (ap (λ (o : Offer). o.name) same, ap (λ (o : Offer). o.bidder) same)

pub planned-long : (specs : List Bid) (standing : List Standing) (bids : List Bid) → map (λ (bid : Bid). Some (offer_of bid)) bids ≡ map (planned_of specs) standing → length bids ≡ length standing
planned-long specs standing bids h = sym (length-map bids (λ (bid : Bid). Some (offer_of bid))) ∙ ap length h ∙ length-map standing (planned_of specs)

names-planned : (specs : List Bid) (standing : List Standing) (bids : List Bid) → map (λ (bid : Bid). Some (offer_of bid)) bids ≡ map (planned_of specs) standing → (i : ℕ) (bid : Bid) (b : Standing)
    → i < length standing → bid ≡ get_or bids i bid → get_or standing i b ≡ b → (bid.name ≡ b.name) × (bid.bidder ≡ b.bidder)
names-planned specs standing bids h i bid b l is at =
    let within : i < length bids = omega (arith, planned-long specs standing bids h) in
    let d : Option Offer = None in
    offer-names specs bid b
    (ap (λ (x : Bid). Some (offer_of x)) is ∙ sym (get_or-map (λ (x : Bid). Some (offer_of x)) bids i bid d within) ∙ ap (λ (os : List (Option Offer)). get_or os i d) h
    ∙ get_or-map (planned_of specs) standing i b d l ∙ ap (planned_of specs) at)

-- one more bid that stands
awards-more : (standing : List Standing) (i : ℕ) (b : Standing) → i < length standing → get_or standing i b ≡ b → awards_of (take (i + 1) standing) ≡ awards_of (take i standing) ++ awards_of (b ∷ [])
awards-more standing i b l at =
    ap awards_of (take_more standing i b l) ∙ filter_map-append award_of (take i standing) (get_or standing i b ∷ []) ∙ ap (λ (x : Standing). awards_of (take i standing) ++ awards_of (x ∷ [])) at

module _ (specs : List Bid) (standing : List Standing) (bids : List Bid) (planned : map (λ (bid : Bid). Some (offer_of bid)) bids ≡ map (planned_of specs) standing) where
  -- it has won
  pub next-won : (i : ℕ) (bid : Bid) (value : ℤ) (old new : List (List ℕ × List ℕ × ℤ)) → option_map (λ (b : Standing). b.won) (slice_get standing i) ≡ Some (Some value) → bid ≡ get_or bids i bid
      → new ≡ old ++ (bid.name, bid.bidder, value) ∷ [] → old ≡ awards_of (take i standing) → new ≡ awards_of (take (i + 1) standing)
  next-won i bid value old new h is pushed e =
      let b = found standing i (λ (b : Standing). b.won) (Some value) h in
      let names = names-planned specs standing bids planned i bid b.0 b.1 is b.2 in
      let one : awards_of (b.0 ∷ []) ≡ (b.0.name, b.0.bidder, value) ∷ [] = ap (λ (won : Option ℤ). filter_map (λ (o : Option (List ℕ × List ℕ × ℤ)). o) (option_map (λ (v : ℤ). (b.0.name, b.0.bidder, v)) won ∷ [])) b.3 in
      pushed ∙ (λ j. e j ++ (names.0 j, names.1 j, value) ∷ []) ∙ ap (λ (l : List (List ℕ × List ℕ × ℤ)). awards_of (take i standing) ++ l) (sym one) ∙ sym (awards-more standing i b.0 b.1 b.2)

  -- it has not
  pub next-lost : (i : ℕ) (old : List (List ℕ × List ℕ × ℤ)) → option_map (λ (b : Standing). b.won) (slice_get standing i) ≡ Some None → old ≡ awards_of (take i standing) → old ≡ awards_of (take (i + 1) standing)
  next-lost i old h e =
      let b = found standing i (λ (b : Standing). b.won) None h in
      let none : awards_of (b.0 ∷ []) ≡ [] = ap (λ (won : Option ℤ). filter_map (λ (o : Option (List ℕ × List ℕ × ℤ)). o) (option_map (λ (v : ℤ). (b.0.name, b.0.bidder, v)) won ∷ [])) b.3 in
      e ∙ sym (append-nil (awards_of (take i standing))) ∙ ap (λ (l : List (List ℕ × List ℕ × ℤ)). awards_of (take i standing) ++ l) (sym none) ∙ sym (awards-more standing i b.0 b.1 b.2)
