-- What a choice earns, bid by bid.
use Rattle.std.proofs.Common.{◌≡◌, ℕ, zero, suc, ◌+◌, ◌≤◌, ◌<◌, List, [], ◌∷◌, length, drop, get_or, Option, None, Some, IfSome, refl, ap, arith, add-one}
use Rattle.std.specs.Prelude.{pos, ◌+ℤ◌}
use Rattle.std.proofs.lemmas.Int.{ints}
use Rattle.optra_network.specs.Net.{Net}
use Rattle.optra_bid.specs.declared.bids.Bid.{Bid}
use Rattle.optra_walk.specs.declared.Leg.{Leg}
use Rattle.optra_walk.specs.Walks.{IsWalk}
use Rattle.optra_walk.specs.Choices.{IsChoice, revenue_of}

revenue-cons : (net : Net) (bid : Bid) (bids : List Bid) (walk : Option (List Leg)) (walks : List (Option (List Leg)))
    → revenue_of net (bid ∷ bids) (walk ∷ walks) ≡ revenue_of net (bid ∷ []) (walk ∷ []) +ℤ revenue_of net bids walks
revenue-cons net bid bids None walks = omega (arith, ints)
revenue-cons net bid bids (Some legs) walks = omega (arith, ints)

-- from a place on, its bid earns first
pub revenue_at : (net : Net) (bids : List Bid) (walks : List (Option (List Leg))) (i : ℕ) (bid : Bid) (walk : Option (List Leg)) → i < length bids → i < length walks
    → revenue_of net (drop i bids) (drop i walks) ≡ revenue_of net (get_or bids i bid ∷ []) (get_or walks i walk ∷ []) +ℤ revenue_of net (drop (i + 1) bids) (drop (i + 1) walks)
revenue_at net [] walks i bid walk h k = absurd (omega arith)
revenue_at net (b ∷ bids) [] i bid walk h k = absurd (omega arith)
revenue_at net (b ∷ bids) (w ∷ walks) zero bid walk h k = revenue-cons net b bids w walks
revenue_at net (b ∷ bids) (w ∷ walks) (suc i) bid walk h k = rw (revenue_at net bids walks i bid walk (omega arith) (omega arith), add-one i, add-one (suc i)) refl

-- past the last bid nothing is earned
pub revenue_past : (net : Net) (bids : List Bid) (walks : List (Option (List Leg))) (i : ℕ) → length bids ≤ i → revenue_of net (drop i bids) (drop i walks) ≡ pos 0
revenue_past net [] walks i h = nothing i
  where
    nothing : (i : ℕ) → revenue_of net (drop {A = Bid} i []) (drop i walks) ≡ pos 0
    nothing zero = refl
    nothing (suc i) = refl
revenue_past net (b ∷ bids) walks zero h = absurd (omega arith)
revenue_past net (b ∷ bids) [] (suc i) h = none (drop i bids)
  where
    none : (bids : List Bid) → revenue_of net bids [] ≡ pos 0
    none [] = refl
    none (b ∷ bids) = refl
revenue_past net (b ∷ bids) (w ∷ walks) (suc i) h = revenue_past net bids walks i (omega arith)

-- a choice has an entry for each bid
pub choice_long : (net : Net) (bids : List Bid) (walks : List (Option (List Leg))) → IsChoice net bids walks → length bids ≡ length walks
choice_long net [] [] h = refl
choice_long net [] (w ∷ walks) h = absurd h
choice_long net (b ∷ bids) [] h = absurd h
choice_long net (b ∷ bids) (w ∷ walks) h = ap suc (choice_long net bids walks h.1)

-- each entry that is there is a walk of its bid
pub choice_at : (net : Net) (bids : List Bid) (walks : List (Option (List Leg))) (i : ℕ) (bid : Bid) (walk : Option (List Leg)) → IsChoice net bids walks → i < length bids
    → bid ≡ get_or bids i bid → walk ≡ get_or walks i walk → IfSome walk (IsWalk net bid.path)
choice_at net [] walks i bid walk h k b w = absurd (omega arith)
choice_at net (x ∷ bids) [] i bid walk h k b w = absurd h
choice_at net (x ∷ bids) (y ∷ walks) zero bid walk h k b w = rw (b, w) h.0
choice_at net (x ∷ bids) (y ∷ walks) (suc i) bid walk h k b w = choice_at net bids walks i bid walk h.1 (omega arith) b w
