-- Draws behind draws.
use Rattle.std.proofs.Common.{◌≡◌, ℕ, zero, suc, ◌+◌, ◌-◌, ◌*◌, List, [], ◌∷◌, ◌++◌, map, refl, sym, ap, ◌∙◌, arith}
use Rattle.std.specs.List.{range_with_len}
use Rattle.std.proofs.lemmas.List.FromFn.{map-range_with_len_more}
use Rattle.optra_demo.specs.Bids.{bid_at, bid_from, bids_from}
use Rattle.optra_demo.specs.Draws.{after, draw, given, next_state}
use Rattle.optra_demo.specs.Networks.{segment_minutes}
use Rattle.optra_demo.specs.declared.demo_bid.DemoBid.{DemoBid}

pub after_none : (x : ℕ) → after x 0 ≡ x
unfolding after
after_none x = refl

pub after_one : (x k : ℕ) → after x (k + 1) ≡ next_state (after x k)
unfolding after
after_one x k = let e : k + 1 ≡ suc k = omega arith in ap (after x) e

pub after_after : (x a b : ℕ) → after (after x a) b ≡ after x (a + b)
unfolding after
after_after x a zero = let e : a ≡ a + 0 = omega arith in ap (after x) e
after_after x a (suc b) = let e : suc (a + b) ≡ a + suc b = omega arith in ap next_state (after_after x a b) ∙ ap (after x) e

-- the minutes of one segment more
pub minutes_more : (x k : ℕ) → segment_minutes x (k + 1) ≡ segment_minutes x k ++ (4 + draw x k 5) ∷ []
minutes_more x k = map-range_with_len_more (λ (n : ℕ). 4 + draw x n 5) 0 k k (omega arith)

-- one bid more
pub bids_more : (stations x k : ℕ) → bids_from stations x (k + 1) ≡ bids_from stations x k ++ bid_from stations (k + 1) (after x (7 * k)) ∷ []
bids_more stations x k =
    let m = map-range_with_len_more (bid_at stations x) 1 k (k + 1) (omega arith) in
    let e : k + 1 - 1 ≡ k = omega arith in
    m ∙ ap (λ (n : ℕ). bids_from stations x k ++ bid_from stations (k + 1) (after x (7 * n)) ∷ []) e

-- one bid more, where the bids so far and the state are given
pub bids_kept : (stations x k draws : ℕ) (before all : List DemoBid) (bid : DemoBid) → before ≡ bids_from stations x k → draws ≡ after x (7 * k) → bid ≡ bid_from stations (k + 1) draws
    → all ≡ before ++ bid ∷ [] → all ≡ bids_from stations x (k + 1)
bids_kept stations x k draws before all bid b d is a =
    a ∙ ap (λ (xs : List DemoBid). xs ++ bid ∷ []) b ∙ ap (λ (z : DemoBid). bids_from stations x k ++ z ∷ []) (is ∙ ap (bid_from stations (k + 1)) d) ∙ sym (bids_more stations x k)

pub seven_more : (x k draws new : ℕ) → draws ≡ after x (7 * k) → new ≡ after draws 7 → new ≡ after x (7 * (k + 1))
seven_more x k draws new d n = let e : 7 * k + 7 ≡ 7 * (k + 1) = omega arith in n ∙ ap (λ (z : ℕ). after z 7) d ∙ after_after x (7 * k) 7 ∙ ap (after x) e

pub one_more : (x k draws new : ℕ) → draws ≡ after x k → new ≡ next_state draws → new ≡ after x (k + 1)
one_more x k draws new d n = n ∙ ap next_state d ∙ sym (after_one x k)

-- one segment more
pub minutes_kept : (x k draws new m : ℕ) (before all : List ℕ) → before ≡ segment_minutes x k → draws ≡ after x k → new ≡ next_state draws → m ≡ 4 + given new 5
    → all ≡ before ++ m ∷ [] → all ≡ segment_minutes x (k + 1)
minutes_kept x k draws new m before all b d n is a =
    let e : k + 1 ≡ suc k = omega arith in
    let s : new ≡ after x (suc k) = one_more x k draws new d n ∙ ap (after x) e in
    a ∙ ap (λ (xs : List ℕ). xs ++ m ∷ []) b ∙ ap (λ (z : ℕ). segment_minutes x k ++ z ∷ []) (is ∙ ap (λ (z : ℕ). 4 + given z 5) s) ∙ sym (minutes_more x k)
