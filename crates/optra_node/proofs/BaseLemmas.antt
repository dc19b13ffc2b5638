-- At zero prices the dual value is at most the bases.
use Rattle.std.proofs.Common.{◌≡◌, ℕ, zero, suc, ◌-◌, List, [], ◌∷◌, length, Some, slice_get, refl, arith, inl, inr}
use Rattle.std.specs.Prelude.{◌⊎◌}
use Rattle.std.specs.Prelude.{ℤ, pos, ◌+ℤ◌, ◌*ℤ◌, ◌≤ℤ◌}
use Rattle.std.proofs.lemmas.Int.{ints}
use Rattle.std.proofs.Math.IntN.{negsuc}
use Rattle.optra_network.specs.Net.{Net}
use Rattle.optra_network.specs.declared.TypeId.{TypeId}
use Rattle.optra_bid.specs.declared.bids.Bid.{Bid}
use Rattle.optra_bid.specs.declared.Money.{Money}
use Rattle.optra_bid.specs.Specs.{IsMoney}
use Rattle.optra_walk.specs.declared.Leg.{Leg}
use Rattle.optra_walk.specs.Values.{value_of, value_at, first_departure, last_arrival, wait_minutes}
use Rattle.optra_walk.specs.Families.{Rows}
use Rattle.optra_node.specs.declared.Decision.{Decision}
use Rattle.optra_node.specs.Duals.{sum_of, walk_price, IsOffer, IsTerm, IsDead, IsDual}
use Rattle.optra_node.proofs.SumLemmas.{sum_of-cons}

times_positive : (r : ℤ) (n : ℕ) → pos 0 ≤ℤ r → pos 0 ≤ℤ (r *ℤ pos n)
times_positive (pos r) n h = omega (arith, ints)
times_positive (negsuc r) n h = absurd (omega (arith, ints))

value_at_most : (a b first last waits : ℕ) (money : Money) → IsMoney money → value_at a b money first last waits ≤ℤ money.base
value_at_most a b first last waits money is =
    let p = times_positive money.early_depart (a - first) is.early_depart.0 in
    let q = times_positive money.late_depart (first - a) is.late_depart.0 in
    let r = times_positive money.early_arrive (b - last) is.early_arrive.0 in
    let s = times_positive money.late_arrive (last - b) is.late_arrive.0 in
    let t = times_positive money.travel (last - first) is.travel.0 in
    let u = times_positive money.wait waits is.wait.0 in
    omega (arith, ints)

-- a walk is worth at most the base
pub value_below_base : (net : Net) (bid : Bid) (legs : List Leg) → value_of net bid.path bid.money legs ≤ℤ bid.money.base
value_below_base net bid legs =
    value_at_most bid.path.depart.ideal bid.path.arrive.ideal (first_departure legs) (last_arrival net bid.path.kind legs) (wait_minutes legs) bid.money bid.bounds.amounts

no_price : {R : Type 0} (rows : Rows R) (kind : TypeId) (legs : List Leg) → walk_price rows [] kind legs ≡ pos 0
no_price rows kind [] = refl
no_price rows kind (leg ∷ legs) = no_price rows kind legs

term_at_most : {R : Type 0} (net : Net) (rows : Rows R) (bids : List Bid) (node : List Decision) (number : ℕ) (bid : Bid) (term : ℤ) → IsTerm net rows bids node [] number bid term → term ≤ℤ (pos 1000 *ℤ bid.money.base)
term_at_most net rows bids node number bid term (inr stuck) = let b = bid.bounds.amounts.base.0 in let e = stuck.1 in omega (arith, ints)
term_at_most net rows bids node number bid term (inl greatest) = by greatest.reached
  where
    by : IsOffer net rows bids node [] number bid term → term ≤ℤ (pos 1000 *ℤ bid.money.base)
    by (inl (e, z)) = let b = bid.bounds.amounts.base.0 in omega (arith, ints)
    by (inr (legs, allowed, z)) =
        let v = value_below_base net bid legs in
        let p = no_price rows bid.path.kind legs in
        omega (arith, ints)

terms_at_most : (bids : List Bid) (terms : List ℤ) → length terms ≡ length bids
    → ((number : ℕ) (bid : Bid) (term : ℤ) → slice_get bids number ≡ Some bid → slice_get terms number ≡ Some term → term ≤ℤ (pos 1000 *ℤ bid.money.base))
    → sum_of (λ t. t) terms ≤ℤ (pos 1000 *ℤ sum_of (λ b. b.money.base) bids)
terms_at_most [] [] l h = omega (arith, ints)
terms_at_most [] (t ∷ terms) l h = absurd (omega arith)
terms_at_most (bid ∷ bids) [] l h = absurd (omega arith)
terms_at_most (bid ∷ bids) (t ∷ terms) l h =
    let a = sum_of-cons (λ (t : ℤ). t) t terms in
    let b = sum_of-cons (λ (b : Bid). b.money.base) bid bids in
    let c = h zero bid t refl refl in
    let i = terms_at_most bids terms (omega arith) (λ n. h (suc n)) in
    omega (arith, ints)

bases_positive : (bids : List Bid) → pos 0 ≤ℤ sum_of (λ b. b.money.base) bids
bases_positive [] = omega (arith, ints)
bases_positive (bid ∷ bids) =
    let b = sum_of-cons (λ (b : Bid). b.money.base) bid bids in
    let c = bid.bounds.amounts.base.0 in
    let i = bases_positive bids in
    omega (arith, ints)

-- at zero prices the dual value is at most the bases
pub zero_dual : {R : Type 0} (net : Net) (rows : Rows R) (bids : List Bid) (node : List Decision) (terms : List ℤ) (value : ℤ) → IsDual net rows bids node [] terms value
    → value ≤ℤ (pos 1000 *ℤ sum_of (λ b. b.money.base) bids)
zero_dual net rows bids node terms value dual = by dual.total
  where
    by : ((IsDead net rows bids node → ⊥) × (value ≡ pos 0 +ℤ sum_of (λ t. t) terms)) ⊎ (IsDead net rows bids node × (value ≡ pos 0)) → value ≤ℤ (pos 1000 *ℤ sum_of (λ b. b.money.base) bids)
    by (inl (l, e)) = let t = terms_at_most bids terms dual.count (λ n b t at_b at_t. term_at_most net rows bids node n b t (dual.each n b t at_b at_t)) in omega (arith, ints)
    by (inr (dead, e)) = let b = bases_positive bids in omega (arith, ints)
