-- What a plan can be worth at most.
use Rattle.std.proofs.Common.{◌*◌, ◌≤◌, ◌^◌, ℕ, List, [], ◌∷◌, length, arith}
use Rattle.std.specs.Prelude.{ℤ, pos, ◌≤ℤ◌, ◌<ℤ◌}
use Rattle.std.proofs.lemmas.Int.{ints}
use Rattle.std.specs.declared.cmp.Ordering.{Ordering}
use Rattle.optra_network.specs.Net.{Net}
use Rattle.optra_bid.specs.declared.bids.Bid.{Bid}
use Rattle.optra_cert.specs.Certs.{IsWritable}
use Rattle.optra_cert.specs.RowTexts.{RowTexts}
use Rattle.optra_cert.specs.Writables.{AreFew, ValidIsWritable}
use Rattle.optra_walk.specs.Families.{Rows, Entry}
use Rattle.optra_search.specs.Planner.{Planned}
use Rattle.optra_play.specs.Certificates.{certificate_of}
use Rattle.optra_play.specs.Plans.{IsPlanOf}
use Rattle.optra_node.proofs.SumLemmas.{sum_of-cons}
use Rattle.optra_node.specs.Duals.{sum_of}

-- a base is at most 1,000,000,000 cents
bases_below : (bids : List Bid) → sum_of (λ b. b.money.base) bids ≤ℤ pos (1000000000 * length bids)
bases_below [] = omega (arith, ints)
bases_below (bid ∷ bids) =
    let s = sum_of-cons (λ (b : Bid). b.money.base) bid bids in
    let b = bid.bounds.amounts.base.1 in
    let i = bases_below bids in
    omega (arith, ints)

-- a bound that is at most the sum of the bases has fewer than 18 digits
pub bound_small : (bids : List Bid) (bound : ℤ) → length bids ≤ 1000 → bound ≤ℤ sum_of (λ b. b.money.base) bids → bound <ℤ pos (10 ^ 18)
bound_small bids bound few within = let below = bases_below bids in omega (arith, ints, few, within, below)

-- a plan is a certificate that can be written
pub plan-writable : {R : Type 0} (cmp : R → R → Ordering) (texts : RowTexts R) (net : Net) (rows : Rows R) (Keeps : List Entry → Type 0) (bids : List Bid) (steps budget : ℕ) (plan : Planned R)
    → ValidIsWritable cmp texts net rows Keeps bids → AreFew cmp rows → length bids ≤ 1000 → IsPlanOf cmp net rows Keeps bids steps budget plan
    → IsWritable cmp texts net (length bids) texts.version (certificate_of plan)
plan-writable cmp texts net rows Keeps bids steps budget plan writable few short is =
    writable (certificate_of plan) few is.plan_is.certified.formed is.plan_is.certified.valid is.plan_is.numbers.least is.plan_is.numbers.within (bound_small bids plan.bound short is.plan_is.numbers.bases)
