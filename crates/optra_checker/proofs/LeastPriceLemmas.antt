-- Sums and prices that are never below zero.
use Rattle.std.proofs.Common.{ℕ, suc, ◌<◌, List, [], ◌∷◌, length, get_or, arith}
use Rattle.std.specs.Prelude.{ℤ, pos, ◌*ℤ◌, ◌≤ℤ◌}
use Rattle.std.proofs.lemmas.Int.{ints}
use Rattle.optra_network.specs.declared.TypeId.{TypeId}
use Rattle.optra_walk.specs.declared.Leg.{Leg}
use Rattle.optra_walk.specs.Families.{Rows}
use Rattle.optra_node.specs.Duals.{sum_of, PriceList, ArePrices, leg_price}
use Rattle.optra_node.proofs.SumLemmas.{sum_of-cons}
use Rattle.optra_open.proofs.LeafPriceLemmas.{prices_small}
use Rattle.optra_rests.proofs.ProductLemmas.{product_within}

-- a sum of nothing below zero
pub sum_least : {X : Type 0} (f : X → ℤ) (xs : List X) → ((k : ℕ) (d : X) → k < length xs → pos 0 ≤ℤ f (get_or xs k d)) → pos 0 ≤ℤ sum_of f xs
sum_least f [] h = omega (arith, ints)
sum_least f (x ∷ xs) h =
    let c = sum_of-cons f x xs in
    let here = h 0 x (omega arith) in
    let rest = sum_least f xs (λ k d l. h (suc k) d (omega arith)) in
    omega (arith, ints)

-- no leg has a price below zero
pub price_least : {R : Type 0} (rows : Rows R) (prices : PriceList R) → ArePrices rows prices → (kind : TypeId) (leg : Leg) → pos 0 ≤ℤ leg_price rows prices kind leg
price_least rows prices are kind leg =
    sum_least (λ (e : _ × ℤ). e.1 *ℤ pos (rows.uses kind leg e.0)) prices
    (λ k d l. let s = prices_small rows prices are k d l in (product_within 2000000000000 (get_or prices k d).1 (rows.uses kind leg (get_or prices k d).0) s.0 s.1).0)
