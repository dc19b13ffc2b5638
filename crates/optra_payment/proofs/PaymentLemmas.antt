-- What is found of the others' bids holds the payment.
use Rattle.std.proofs.Common.{◌≡◌, ℕ, zero, suc, ◌≤◌, length, Bool, true, false, cond, List, filter, Option, refl, sym, subst, arith, w64}
use Rattle.std.specs.Prelude.{◌↔◌, ℤ, pos, negsuc, ◌+ℤ◌, ◌-ℤ◌, ◌≤ℤ◌, ◌<ℤ◌, int_lt, All, FitsSigned}
use Rattle.std.specs.Int.{int_max}
use Rattle.std.specs.Ordering.{int_cmp, MatchOrdering}
use Rattle.std.specs.Cmp.{int_ranks}
use Rattle.std.specs.declared.cmp.Ordering.{Ordering}
use Rattle.std.specs.declared.cmp.Ordering.TheVariants.{Less, Equal, Greater}
use Rattle.std.proofs.lemmas.Int.{ints, int_max_is}
use Rattle.optra_network.specs.Net.{Net, IsProper}
use Rattle.optra_bid.specs.Specs.{IsBetween, IsPathOn}
use Rattle.optra_bid.specs.Instances.{IsInstance}
use Rattle.optra_bid.specs.declared.bids.Bid.{Bid}
use Rattle.optra_walk.specs.declared.Leg.{Leg}
use Rattle.optra_walk.specs.Choices.{revenue_of}
use Rattle.optra_walk.specs.Families.{Rows, Entry, IsUsable, FitRows, entries_of}
use Rattle.optra_walk.proofs.UsableLemmas.{choice_usable}
use Rattle.optra_payment.specs.Parts.{is_others, beside, worth_of, others_bids, others_worth}
use Rattle.optra_payment.proofs.PartLemmas.{part_choice, part_fits, part_instance, part_fewer, bases_few}
use Rattle.optra_payment.specs.Allowed.{IsAllowed, IsEarned, IsUpperBound, IsGreatest}
use Rattle.optra_payment.specs.Planners.{Encloses}
use Rattle.optra_payment.specs.Payments.{IsIntervalOf, IsFoundInterval, HoldsPayment}
use Rattle.optra_payment.specs.declared.Found.{Found}
use Rattle.optra_payment.specs.declared.Interval.{Interval}

-- The part of a choice on some of the bids is a choice of these bids, it keeps the rule where the whole does, and it is worth as
-- much as in the whole: so that is earned. It holds of every family whose rule is stated by rows.
pub part_earned : {R : Type 0} (net : Net) → IsProper net → (rows : Rows R) (Keeps : List Entry → Type 0)
    → ((entries : List Entry) → All (λ e. IsUsable net e.0 e.1) entries → Keeps entries ↔ FitRows rows entries)
    → (test : Bid → Bool) (bids : List Bid) (walks : List (Option (List Leg))) → IsAllowed net Keeps bids walks → IsEarned net Keeps (filter test bids) (worth_of net test bids walks)
part_earned net proper rows Keeps law test bids walks allowed =
    let part = part_choice test net bids walks allowed.choice in
    let whole_fits = (law (entries_of bids walks) (choice_usable net proper bids walks allowed.choice)).0 allowed.rule in
    record {
      walks = beside test bids walks;
      allowed = record {
        choice = part;
        rule = (law (entries_of (filter test bids) (beside test bids walks)) (choice_usable net proper (filter test bids) (beside test bids walks) part)).1
            (part_fits test rows bids walks whole_fits);
      };
      earns = refl;
    }

fits_from : (z : ℤ) → pos 0 ≤ℤ z → z ≤ℤ pos 21000000000000 → FitsSigned w64 z
fits_from (pos n) low high = record { sfits = omega (arith, ints) }
fits_from (negsuc n) low high = absurd (omega (arith, ints))

-- both ends fit, and where revenue and bound are equal, so are the ends
pub low_fits : (revenue worth bound greater : ℤ) → greater ≡ int_max revenue worth → revenue ≤ℤ bound → worth ≤ℤ bound → bound ≤ℤ pos 1000000000000
    → IsBetween (negsuc 19999999999999) (pos 1000000000000) worth → FitsSigned w64 (greater -ℤ worth)
low_fits revenue worth bound greater e ordered part few range =
    let most = int_max_is revenue worth in let low = range.0 in let high = range.1 in fits_from (greater -ℤ worth) (omega (arith, ints)) (omega (arith, ints))

pub high_fits : (worth bound : ℤ) → worth ≤ℤ bound → bound ≤ℤ pos 1000000000000
    → IsBetween (negsuc 19999999999999) (pos 1000000000000) worth → FitsSigned w64 (bound -ℤ worth)
high_fits worth bound part few range = let low = range.0 in let high = range.1 in fits_from (bound -ℤ worth) (omega (arith, ints)) (omega (arith, ints))

pub ends_meet : (revenue bound worth low high : ℤ) → low ≡ int_max revenue worth -ℤ worth → high ≡ bound -ℤ worth → worth ≤ℤ bound → revenue ≡ bound → low ≡ high
ends_meet revenue bound worth low high e f part same = let most = int_max_is revenue worth in omega (arith, ints)

-- the greater one less the second one
pub at_least : (a b low : ℤ) → low ≡ int_max a b -ℤ b → pos 0 ≤ℤ low
at_least a b low e = let greater = int_max_is a b in omega (arith, ints)

-- what is within a number but is not it is within the one before
below : (z top next : ℤ) → z ≤ℤ top → top ≡ next +ℤ pos 1 → (z ≡ top → ⊥) → z ≤ℤ next
below z top next up e apart = by (int_cmp z top) (int_ranks z top)
  where
    by : (o : Ordering) → MatchOrdering o (z <ℤ top) (z ≡ top) (top <ℤ z) → z ≤ℤ next
    by Less h = omega (arith, ints)
    by Equal h = absurd (apart h)
    by Greater h = omega (arith, ints)

module _ (net : Net) (Keeps : List Entry → Type 0) (bids : List Bid) where
  -- what is earned is within a bound
  pub earned_within : (revenue bound : ℤ) → IsEarned net Keeps bids revenue → IsUpperBound net Keeps bids bound → revenue ≤ℤ bound
  earned_within revenue bound e most = subst (λ (r : ℤ). r ≤ℤ bound) e.earns (most e.walks e.allowed)

  -- the greater one of what is earned twice
  pub greater_earned : (a b : ℤ) → IsEarned net Keeps bids a → IsEarned net Keeps bids b → IsEarned net Keeps bids (int_max a b)
  greater_earned a b x y = by (int_lt b a)
    where
      by : (t : Bool) → IsEarned net Keeps bids (cond t a b)
      by true = x
      by false = y

  -- Of what is earned there is a greatest one: if there were none, a bound would not be earned, so one less would be a bound too, and
  -- so on down to below what is earned.
  greatest_there : (n : ℕ) (revenue : ℤ) → IsEarned net Keeps bids revenue → IsUpperBound net Keeps bids (revenue +ℤ pos n) → ((most : ℤ) → IsGreatest net Keeps bids most → ⊥) → ⊥
  greatest_there zero revenue earned most none =
      none revenue (record { earned = earned; most = λ other allowed. let up = most other allowed in omega (arith, ints) })
  greatest_there (suc n) revenue earned most none =
      greatest_there n revenue earned
      (λ other allowed.
      let up = most other allowed in
      below (revenue_of net bids other) (revenue +ℤ pos (suc n)) (revenue +ℤ pos n) up (omega (arith, ints))
      (λ is. none (revenue +ℤ pos (suc n)) (record { earned = record { walks = other; allowed = allowed; earns = is }; most = most })))
      none

  pub greatest_not_none : (revenue bound : ℤ) → IsEarned net Keeps bids revenue → IsUpperBound net Keeps bids bound → ((most : ℤ) → IsGreatest net Keeps bids most → ⊥) → ⊥
  greatest_not_none revenue bound earned most none = by (bound -ℤ revenue) refl
    where
      by : (d : ℤ) → bound -ℤ revenue ≡ d → ⊥
      by (pos n) e = greatest_there n revenue earned (λ other allowed. let up = most other allowed in omega (arith, ints)) none
      by (negsuc n) e = let within = earned_within revenue bound earned most in omega (arith, ints)

module _ (net : Net) (Keeps : List Entry → Type 0) (bids : List Bid) (walks : List (Option (List Leg))) (found : Found) (pay : Interval) where
  pub holds : IsEarned net Keeps (others_bids pay.bidder bids) (others_worth net pay.bidder bids walks) → Encloses net Keeps (others_bids pay.bidder bids) found
      → IsIntervalOf net bids walks found pay → HoldsPayment net Keeps bids walks pay
  holds part encloses is = record {
    least = lowest;
    ordered = let within = earned_within net Keeps others (pay.low +ℤ worth) (pay.high +ℤ worth) reached most in omega (arith, ints);
    earned = reached;
    bounded = most;
    holds = λ payment h. (
      let up = earned_within net Keeps others (pay.low +ℤ worth) h.alone reached h.greatest.most in let e = h.is in omega (arith, ints),
      let up = earned_within net Keeps others h.alone (pay.high +ℤ worth) h.greatest.earned most in let e = h.is in omega (arith, ints),
    );
    there = λ none.
        greatest_not_none net Keeps others (pay.low +ℤ worth) (pay.high +ℤ worth) reached most (λ alone greatest. none (alone -ℤ worth) (record { alone = alone; greatest = greatest; is = refl }));
    exact = λ same. record {
      alone = pay.low +ℤ worth;
      greatest = record { earned = reached; most = subst (λ (end : ℤ). IsUpperBound net Keeps others (end +ℤ worth)) (sym same) most };
      is = omega (arith, ints);
    };
  }
    where
      others : List Bid
      others = others_bids pay.bidder bids

      worth : ℤ
      worth = others_worth net pay.bidder bids walks

      greater : pay.low +ℤ worth ≡ int_max found.revenue worth
      greater = let low = is.low in omega (arith, ints)

      reached : IsEarned net Keeps others (pay.low +ℤ worth)
      reached = subst (IsEarned net Keeps others) (sym greater) (greater_earned net Keeps others found.revenue worth encloses.earned part)

      bound_is : pay.high +ℤ worth ≡ found.bound
      bound_is = let high = is.high in omega (arith, ints)

      most : IsUpperBound net Keeps others (pay.high +ℤ worth)
      most = subst (IsUpperBound net Keeps others) (sym bound_is) encloses.bounded

      lowest : pos 0 ≤ℤ pay.low
      lowest = at_least found.revenue worth pay.low is.low

-- what is found of the others' bids encloses what their choices earn
pub others_enclosed : (net : Net) (Keeps : List Entry → Type 0) (bids : List Bid) → length bids ≤ 1000 → All (λ bid. IsPathOn net bid.path) bids
    → (Finds : List Bid → Found → Type 0) → ((list : List Bid) (found : Found) → IsInstance net list → Finds list found → Encloses net Keeps list found)
    → (bidder : List ℕ) (list copies : List Bid) (found : Found) → list ≡ copies → copies ≡ others_bids bidder bids → Finds list found → Encloses net Keeps (others_bids bidder bids) found
others_enclosed net Keeps bids few paths Finds law bidder list copies found is are finds =
    law (others_bids bidder bids) found (part_instance (is_others bidder) net bids few paths) (subst (λ (l : List Bid). Finds l found) are (subst (λ (l : List Bid). Finds l found) is finds))

-- what encloses is at most the bases of few bids
pub enclosed_few : (net : Net) (Keeps : List Entry → Type 0) (bids : List Bid) (bidder : List ℕ) (found : Found) → length bids ≤ 1000 → Encloses net Keeps (others_bids bidder bids) found
    → found.bound ≤ℤ pos 1000000000000
enclosed_few net Keeps bids bidder found few encloses =
    let fewer = part_fewer (is_others bidder) bids in let bases = bases_few (others_bids bidder bids) (omega arith) in let within = encloses.within in omega (arith, ints)

-- what is found as well is found
pub found_before : (net : Net) (bids : List Bid) (walks : List (Option (List Leg))) (Finds Finds' : List Bid → Found → Type 0) → ((list : List Bid) (found : Found) → Finds' list found → Finds list found)
    → (pay : Interval) → IsFoundInterval Finds' net bids walks pay → IsFoundInterval Finds net bids walks pay
found_before net bids walks Finds Finds' back pay is = record { found = is.found; finds = back (others_bids pay.bidder bids) is.found is.finds; is = is.is }
