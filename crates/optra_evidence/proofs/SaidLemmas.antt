-- What a leaf says of a bid, by what its best walk is worth there.
use Rattle.std.proofs.Common.{◌≡◌, ℕ, Bool, true, false, cond, List, length, Option, None, Some, slice_get, IfSome, refl, sym, ap, ◌∙◌, subst, arith, inl, inr}
use Rattle.std.specs.Prelude.{◌⊎◌}
use Rattle.std.specs.Prelude.{ℤ, pos, ◌+ℤ◌, ◌-ℤ◌, ◌≤ℤ◌}
use Rattle.std.specs.declared.cmp.Ordering.{Ordering}
use Rattle.std.specs.Option.{option_map}
use Rattle.std.proofs.lemmas.Int.{ints}
use Rattle.std.proofs.Math.IntN.{negsuc}
use Rattle.std.proofs.lemmas.Option.{slice_get_within}
use Rattle.optra_network.specs.Net.{Net, IsProper}
use Rattle.optra_network.specs.declared.TypeId.{TypeId}
use Rattle.optra_bid.specs.declared.bids.Bid.{Bid}
use Rattle.optra_walk.specs.declared.Leg.{Leg}
use Rattle.optra_walk.specs.Families.{Rows, IsUsable, ListsRows}
use Rattle.optra_node.specs.declared.Decision.{Decision}
use Rattle.optra_node.specs.Nodes.{has_yes, kind_at, IsAllowed}
use Rattle.optra_node.specs.Duals.{PriceList, whole_cents, IsGreatest, IsOffer, IsStuck, IsTerm, IsDead, IsDual}
use Rattle.optra_node.specs.Evidence.{IsReduced, IsCounted, IsServedAt, IsLeftAt}
use Rattle.optra_node.proofs.ChildLemmas.{some_at}
use Rattle.optra_open.specs.NodeWeights.{leaf_weights}
use Rattle.optra_rests.specs.Weights.{IsBestWorth, IsWorthSize}
use Rattle.optra_checker.specs.Leaves.{IsBestOffer, plus_of}
use Rattle.optra_checker.proofs.LeafLemmas.{open_allowed, allowed_open, kind_is, not_stuck}
use Rattle.optra_evidence.specs.Figures.{IsFigureSize, less_of}
use Rattle.optra_evidence.specs.Worths.{IsLiveDual, IsRestSize}

-- a number of a kind that is the greatest is the only one
one_greatest : (C : ℤ → Type 0) (m n : ℤ) → IsGreatest C m → IsGreatest C n → m ≡ n
one_greatest C m n a b = let l = a.most n b.reached in let r = b.most m a.reached in omega (arith, ints)

module _ {R : Type 0} (cmp : R → R → Ordering) (net : Net) (proper : IsProper net) (rows : Rows R) (used : TypeId → Leg → List R) (lists : (kind : TypeId) (leg : Leg) → IsUsable net kind leg → ListsRows cmp rows.is_row (rows.uses kind leg) (used kind leg))
    (bids : List Bid) (node : List Decision) (prices : PriceList R) (number : ℕ) (bid : Bid) (at : slice_get bids number ≡ Some bid) where
  of_kind : (worth : Option ℤ) → IsBestWorth (leaf_weights net rows used bids node number prices (kind_at bids number)) net bid worth → IsBestWorth (leaf_weights net rows used bids node number prices bid.path.kind) net bid worth
  of_kind worth is = subst (λ kind. IsBestWorth (leaf_weights net rows used bids node number prices kind) net bid worth) (kind_is bids number bid at) is

  -- the best walk is the greatest reduced value
  reduced_is : (n : ℤ) → IsBestWorth (leaf_weights net rows used bids node number prices bid.path.kind) net bid (Some n) → IsGreatest (IsReduced net rows bids node prices number bid) n
  reduced_is n is = record {
    reached = let w = is.reached in (w.0, open_allowed cmp net proper rows used lists bids node prices number bid w.0 w.1, w.2);
    most = λ m w. is.most m (w.0, allowed_open cmp net proper rows used lists bids node prices number bid w.0 w.1, w.2);
  }

  none_is : IsBestWorth (leaf_weights net rows used bids node number prices bid.path.kind) net bid None → (legs : List Leg) → IsAllowed net rows bids node number bid legs → ⊥
  none_is is legs allowed = is legs (allowed_open cmp net proper rows used lists bids node prices number bid legs allowed)

  -- the bid's term is what it is offered
  counted_is : (value term : ℤ) → (IsDead net rows bids node → ⊥) → (terms : List ℤ) → IsDual net rows bids node prices terms value → IsGreatest (IsOffer net rows bids node prices number bid) term
      → IsCounted net rows bids node prices number value term
  counted_is value term live terms dual greatest =
      let count = dual.count in
      let l = slice_get_within bids number bid at in
      let there = some_at terms number (length terms) refl (omega arith) in
      record {
        terms = terms;
        dual = dual;
        live = live;
        at = there.1 ∙ ap Some (same there.0 (dual.each number bid there.0 at there.1));
      }
    where
      same : (t : ℤ) → IsTerm net rows bids node prices number bid t → t ≡ term
      same t (inl is) = one_greatest (IsOffer net rows bids node prices number bid) t term is greatest
      same t (inr stuck) = absurd (not_stuck net rows bids node prices number bid term greatest stuck.0)

  stuck_dead : IsStuck net rows bids node number bid → IsDead net rows bids node
  stuck_dead stuck = (number, bid, at, stuck)

  served_by : (value offer worth : Option ℤ) → IsLiveDual net rows bids node prices value → IsBestOffer net rows bids node prices number bid offer
      → IsBestWorth (leaf_weights net rows used bids node number prices bid.path.kind) net bid worth → IsServedAt net rows bids node prices number bid (plus_of (less_of value offer) worth)
  served_by None offer worth dead is best = inl dead
  served_by (Some v) None worth live stuck best = absurd (live.0 (stuck_dead stuck))
  served_by (Some v) (Some t) None live is best = inr (none_is best)
  served_by (Some v) (Some t) (Some w) live is best = record {
    value = v;
    term = t;
    best = w;
    counted = counted_is v t live.0 live.1.0 live.1.1 is;
    greatest = reduced_is w best;
    is = refl;
  }

  left_by : (value offer : Option ℤ) (forced : Bool) → has_yes node number ≡ forced → IsLiveDual net rows bids node prices value → IsBestOffer net rows bids node prices number bid offer
      → IsLeftAt net rows bids node prices number (cond forced None (less_of value offer))
  left_by value offer true e live is = inr e
  left_by None offer false e dead is = inl dead
  left_by (Some v) None false e live stuck = absurd (live.0 (stuck_dead stuck))
  left_by (Some v) (Some t) false e live is = record {
    value = v;
    term = t;
    counted = counted_is v t live.0 live.1.0 live.1.1 is;
    free = e;
    is = refl;
  }

  pub served_is : (value offer worth : Option ℤ) → IsLiveDual net rows bids node prices value → IsBestOffer net rows bids node prices number bid offer
      → IsBestWorth (leaf_weights net rows used bids node number prices (kind_at bids number)) net bid worth → IsServedAt net rows bids node prices number bid (plus_of (less_of value offer) worth)
  served_is value offer worth live is best = served_by value offer worth live is (of_kind worth best)

  pub left_is : (value offer : Option ℤ) (forced : Bool) → forced ≡ has_yes node number → IsLiveDual net rows bids node prices value → IsBestOffer net rows bids node prices number bid offer
      → IsLeftAt net rows bids node prices number (cond forced None (less_of value offer))
  left_is value offer forced e live is = left_by value offer forced (sym e) live is

-- whole cents are no greater than the thousandths
whole_small : (n : ℤ) → (pos 0 -ℤ pos 10633823966279326983230456482242756608) ≤ℤ n → n ≤ℤ pos 10633823966279326983230456482242756608 → IsFigureSize (whole_cents n)
whole_small (pos n) a b = (omega (arith, ints), omega (arith, ints))
whole_small (negsuc n) a b = (omega (arith, ints), omega (arith, ints))

pub served_small : (rest worth : Option ℤ) → IfSome rest IsRestSize → IfSome worth IsWorthSize → IfSome (option_map whole_cents (plus_of rest worth)) IsFigureSize
served_small None worth r w = tt
served_small (Some a) None r w = tt
served_small (Some a) (Some b) r w = let r0 = r.0 in let r1 = r.1 in let w0 = w.0 in let w1 = w.1 in whole_small (a +ℤ b) (omega (arith, ints)) (omega (arith, ints))

pub left_small : (rest : Option ℤ) (forced : Bool) → IfSome rest IsRestSize → IfSome (option_map whole_cents (cond forced None rest)) IsFigureSize
left_small rest true r = tt
left_small None false r = tt
left_small (Some a) false r = let r0 = r.0 in let r1 = r.1 in whole_small a (omega (arith, ints)) (omega (arith, ints))
