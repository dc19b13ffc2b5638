-- The split leg is one; it is of an allowed walk of its bid, and it is not decided.
use Rattle.std.proofs.Common.{◌≡◌, ℕ, zero, suc, ◌+◌, ◌≤◌, ◌<◌, Bool, true, false, List, [], ◌∷◌, ◌++◌, map, length, get_or, Option, None, Some, slice_get, refl, sym, ap, ◌∙◌, subst, arith, inl, inr}
use Rattle.std.specs.Prelude.{All, Contains, ◌⊎◌, ◌&&◌, ◌||◌, nat_eq}
use Rattle.std.specs.Ordering.{is_eq, bool_cmp}
use Rattle.std.proofs.lemmas.Cmp.{tied_itself}
use Rattle.std.proofs.lemmas.Bool.Decides.{nat_tests}
use Rattle.std.proofs.lemmas.List.Elements.{All-contains, All-nil, All-cons}
use Rattle.optra_network.specs.Net.{Net, IsProper}
use Rattle.optra_network.proofs.HeadwayLemmas.{below_types}
use Rattle.optra_bid.specs.declared.bids.Bid.{Bid}
use Rattle.optra_walk.specs.declared.Leg.{Leg}
use Rattle.optra_walk.specs.Families.{Rows, IsUsable}
use Rattle.optra_walk.specs.Orders.{action_cmp}
use Rattle.optra_walk.proofs.OrderLemmas.{action_cmp_total}
use Rattle.optra_walk.proofs.UsableLemmas.{walk_usable}
use Rattle.optra_node.specs.declared.Decision.{Decision}
use Rattle.optra_node.specs.Nodes.{is_yes_for, IsFormedLeg, IsUndecided, IsAllowed}
use Rattle.optra_node.specs.Duals.{PriceList}
use Rattle.optra_node.proofs.LoadLemmas.{contains_cases, contains_head, contains_later}
use Rattle.optra_node.proofs.ChildLemmas.{some_at, within_at}
use Rattle.optra_prices.specs.Replies.{AreReplies, IsReply}
use Rattle.optra_prices.proofs.RepairLemmas.{same_walk, some_is}
use Rattle.optra_search.specs.Splits.{same_leg, is_fixed, IsFree, free_count, IsFirst, legs_from, reply_legs, IsFreeLeg, IsCrowdedLeg, IsFreest, IsFreestLeg, IsSplitLeg}
use Rattle.optra_search.proofs.FirstLemmas.{compare, contains_at, none_at, first_or_none, first_unique}

-- a leg is the same as itself
pub same_itself : (leg : Leg) → same_leg leg leg ≡ true
same_itself leg =
    by (nat_eq leg.track.0 leg.track.0) (nat_eq leg.depart leg.depart) (is_eq (bool_cmp leg.from_halt leg.from_halt)) (is_eq (action_cmp leg.action leg.action))
    (grind (arith, nat_tests)) (grind (arith, nat_tests)) (mode leg.from_halt) (ap is_eq (tied_itself action_cmp_total leg.action))
  where
    by : (a b c d : Bool) → a ≡ true → b ≡ true → c ≡ true → d ≡ true → (a && b && c && d) ≡ true
    by true true true true p q r s = refl
    by true true true false p q r s = cc
    by true true false d p q r s = cc
    by true false c d p q r s = cc
    by false b c d p q r s = cc

    mode : (b : Bool) → is_eq (bool_cmp b b) ≡ true
    mode true = refl
    mode false = refl

module _ (bid : ℕ) (leg : Leg) where
  -- no decision makes a free leg a yes leg
  pub free_of : (node : List Decision) → IsFree node bid leg → All (λ d. d.yes ≡ true → d.bid ≡ bid → d.leg ≡ leg → ⊥) node
  free_of [] free = All-nil (λ (d : Decision). d.yes ≡ true → d.bid ≡ bid → d.leg ≡ leg → ⊥)
  free_of (d ∷ node) free =
      All-cons (λ (d : Decision). d.yes ≡ true → d.bid ≡ bid → d.leg ≡ leg → ⊥) d node
      (λ chosen here is. clash (sym (left (is_yes_for bid d && same_leg d.leg leg) (is_fixed node bid leg) free) ∙ fixed chosen here is))
      (free_of node (right (is_yes_for bid d && same_leg d.leg leg) (is_fixed node bid leg) free))
    where
      clash : false ≡ true → ⊥
      clash e = cc

      left : (a b : Bool) → (a || b) ≡ false → a ≡ false
      left true b e = cc
      left false b e = refl

      right : (a b : Bool) → (a || b) ≡ false → b ≡ false
      right true b e = cc
      right false b e = e

      fixed : d.yes ≡ true → d.bid ≡ bid → d.leg ≡ leg → (is_yes_for bid d && same_leg d.leg leg) ≡ true
      fixed chosen here is = both (is_yes_for bid d) (same_leg d.leg leg) (both d.yes (nat_eq d.bid bid) chosen (grind (arith, nat_tests))) (subst (λ (l : Leg). same_leg d.leg l ≡ true) is (same_itself d.leg))
        where
          both : (a b : Bool) → a ≡ true → b ≡ true → (a && b) ≡ true
          both true b p q = q
          both false b p q = cc

-- an entry is one of the legs of a walk, with its bid, or one of the rest
in_walk : (base : ℕ) (legs : List Leg) (rest : List (ℕ × Leg)) (number : ℕ) (leg : Leg) → Contains (map (λ leg. (base, leg)) legs ++ rest) (number, leg)
    → ((base ≡ number) × Contains legs leg) ⊎ Contains rest (number, leg)
in_walk base [] rest number leg c = inr c
in_walk base (l ∷ legs) rest number leg c =
    by (in_walk base legs rest number leg) (contains_cases (base, l) (map (λ leg. (base, leg)) legs ++ rest) (number, leg) c)
  where
    by : (Contains (map (λ leg. (base, leg)) legs ++ rest) (number, leg) → ((base ≡ number) × Contains legs leg) ⊎ Contains rest (number, leg))
        → (◌≡◌ {A = ℕ × Leg} (base, l) (number, leg)) ⊎ Contains (map (λ leg. (base, leg)) legs ++ rest) (number, leg) → ((base ≡ number) × Contains (l ∷ legs) leg) ⊎ Contains rest (number, leg)
    by before (inl e) = inl (ap (λ (p : ℕ × Leg). p.0) e, contains_head l legs leg (ap (λ (p : ℕ × Leg). p.1) e))
    by before (inr h) = later (before h)
      where
        later : ((base ≡ number) × Contains legs leg) ⊎ Contains rest (number, leg) → ((base ≡ number) × Contains (l ∷ legs) leg) ⊎ Contains rest (number, leg)
        later (inl (e, c)) = inl (e, contains_later l legs leg c)
        later (inr c) = inr c

-- an entry of the replies' legs is a leg of a reply
pub legs_from_has : (base : ℕ) (replies : List (Option (List Leg))) (number : ℕ) (leg : Leg) → Contains (legs_from base replies) (number, leg)
    → (k : ℕ) × (legs : List Leg) × (number ≡ base + k) × (slice_get replies k ≡ Some (Some legs)) × Contains legs leg
legs_from_has base [] number leg c = absurd (omega (arith, c.1))
legs_from_has base (None ∷ replies) number leg c =
    let t = legs_from_has (base + 1) replies number leg c in
    (suc t.0, t.1, omega (arith, t.2), t.3, t.4)
legs_from_has base (Some legs ∷ replies) number leg c = by (legs_from_has (base + 1) replies number leg) (in_walk base legs (legs_from (base + 1) replies) number leg c)
  where
    by : (Contains (legs_from (base + 1) replies) (number, leg) → (k : ℕ) × (legs : List Leg) × (number ≡ base + 1 + k) × (slice_get replies k ≡ Some (Some legs)) × Contains legs leg)
        → ((base ≡ number) × Contains legs leg) ⊎ Contains (legs_from (base + 1) replies) (number, leg)
        → (k : ℕ) × (all : List Leg) × (number ≡ base + k) × (slice_get (Some legs ∷ replies) k ≡ Some (Some all)) × Contains all leg
    by before (inl (e, c)) = (zero, legs, omega arith, refl, c)
    by before (inr c) = let t = before c in (suc t.0, t.1, omega (arith, t.2), t.3, t.4)

-- a leg of an allowed walk of the bid at this position
pub record IsAllowedLeg {R : Type 0} (net : Net) (rows : Rows R) (bids : List Bid) (node : List Decision) (number : ℕ) (leg : Leg) : Type 0 where
  pub bid : Bid
  pub at : slice_get bids number ≡ Some bid
  pub legs : List Leg
  pub allowed : IsAllowed net rows bids node number bid legs
  pub has : Contains legs leg

module _ {R : Type 0} (net : Net) (rows : Rows R) (bids : List Bid) (node : List Decision) where
  freest_unique : (number : ℕ) (bid : Bid) (a b : List Leg) → IsFreest net rows bids node number bid a → IsFreest net rows bids node number bid b → a ≡ b
  freest_unique number bid a b p q =
      let e : free_count node number a ≡ free_count node number b = same (q.most a p.allowed) (p.most b q.allowed) in
      same_walk net bid.path a b p.allowed.walk q.allowed.walk (p.first b q.allowed (sym e)) (q.first a p.allowed e)
    where
      same : {m n : ℕ} → m ≤ n → n ≤ m → m ≡ n
      same l l' = omega arith

  freest_leg_unique : (number number' : ℕ) (leg leg' : Leg) → IsFreestLeg net rows bids node number leg → IsFreestLeg net rows bids node number' leg' → (number ≡ number') × (leg ≡ leg')
  freest_leg_unique number number' leg leg' p q = by (compare number number')
    where
      by : (number < number') ⊎ ((number ≡ number') ⊎ (number' < number)) → (number ≡ number') × (leg ≡ leg')
      by (inl l) = absurd (first_or_none (IsFree node number) p.legs leg (q.earlier number p.bid l p.at p.legs p.freest.allowed) p.is)
      by (inr (inr l)) = absurd (first_or_none (IsFree node number') q.legs leg' (p.earlier number' q.bid l q.at q.legs q.freest.allowed) q.is)
      by (inr (inl e)) = (e, legs (subst (λ (n : ℕ). IsFreestLeg net rows bids node n leg') (sym e) q))
        where
          legs : IsFreestLeg net rows bids node number leg' → leg ≡ leg'
          legs q =
              let b : q.bid ≡ p.bid = some_is q.at p.at in
              let freest : IsFreest net rows bids node number p.bid q.legs = subst (λ (bid : Bid). IsFreest net rows bids node number bid q.legs) b q.freest in
              let w : q.legs ≡ p.legs = freest_unique number p.bid q.legs p.legs freest p.freest in
              first_unique (IsFree node number) p.legs leg leg' p.is (subst (λ (legs : List Leg). IsFirst (IsFree node number) legs leg') w q.is)

  -- the split leg is one
  pub split_unique : (replies : List (Option (List Leg))) (number number' : ℕ) (leg leg' : Leg)
      → IsSplitLeg net rows bids node replies number leg → IsSplitLeg net rows bids node replies number' leg' → (number ≡ number') × (leg ≡ leg')
  split_unique replies number number' leg leg' p q = by p q
    where
      parts : {a b : ℕ × Leg} → a ≡ b → (a.0 ≡ b.0) × (a.1 ≡ b.1)
      parts e = (ap (λ (p : ℕ × Leg). p.0) e, ap (λ (p : ℕ × Leg). p.1) e)

      by : IsSplitLeg net rows bids node replies number leg → IsSplitLeg net rows bids node replies number' leg' → (number ≡ number') × (leg ≡ leg')
      by (inl p) (inl q) = parts (first_unique (IsCrowdedLeg rows bids node replies) (reply_legs replies) (number, leg) (number', leg') p q)
      by (inl p) (inr (inl q)) = absurd (first_or_none (IsCrowdedLeg rows bids node replies) (reply_legs replies) (number, leg) q.0 p)
      by (inl p) (inr (inr q)) = absurd (none_at (IsFreeLeg node) (reply_legs replies) p.place (number, leg) q.0 p.at p.is.0)
      by (inr (inl p)) (inl q) = absurd (first_or_none (IsCrowdedLeg rows bids node replies) (reply_legs replies) (number', leg') p.0 q)
      by (inr (inl p)) (inr (inl q)) = parts (first_unique (IsFreeLeg node) (reply_legs replies) (number, leg) (number', leg') p.1 q.1)
      by (inr (inl p)) (inr (inr q)) = absurd (first_or_none (IsFreeLeg node) (reply_legs replies) (number, leg) q.0 p.1)
      by (inr (inr p)) (inl q) = absurd (none_at (IsFreeLeg node) (reply_legs replies) q.place (number', leg') p.0 q.at q.is.0)
      by (inr (inr p)) (inr (inl q)) = absurd (first_or_none (IsFreeLeg node) (reply_legs replies) (number', leg') p.0 q.1)
      by (inr (inr p)) (inr (inr q)) = freest_leg_unique number number' leg leg' p.1 q.1

  module _ (prices : PriceList R) (replies : List (Option (List Leg))) (are : AreReplies net rows bids node prices replies) where
    reply_leg : (number : ℕ) (leg : Leg) → Contains (reply_legs replies) (number, leg) → IsAllowedLeg net rows bids node number leg
    reply_leg number leg c =
        let t = legs_from_has 0 replies number leg c in
        let k : number ≡ t.0 = omega (arith, t.2) in
        let at_reply : slice_get replies number ≡ Some (Some t.1) = subst (λ (n : ℕ). slice_get replies n ≡ Some (Some t.1)) (sym k) t.3 in
        let n = are.count in
        let w = within_at replies number (Some t.1) at_reply in
        let b = some_at bids number (length bids) refl (omega arith) in
        let is : IsReply net rows bids node prices number b.0 (Some t.1) = are.each number b.0 (Some t.1) b.1 at_reply in
        record { bid = b.0; at = b.1; legs = t.1; allowed = is.0.allowed; has = t.4 }

    -- the split leg is free, and of an allowed walk of its bid
    pub split_allowed : (number : ℕ) (leg : Leg) → IsSplitLeg net rows bids node replies number leg → IsAllowedLeg net rows bids node number leg
    split_allowed number leg (inl p) = reply_leg number leg (contains_at (reply_legs replies) p.place (number, leg) p.at)
    split_allowed number leg (inr (inl p)) = reply_leg number leg (contains_at (reply_legs replies) p.1.place (number, leg) p.1.at)
    split_allowed number leg (inr (inr p)) =
        record { bid = p.1.bid; at = p.1.at; legs = p.1.legs; allowed = p.1.freest.allowed; has = contains_at p.1.legs p.1.is.place leg p.1.is.at }

  pub split_free : (replies : List (Option (List Leg))) (number : ℕ) (leg : Leg) → IsSplitLeg net rows bids node replies number leg → IsFree node number leg
  split_free replies number leg (inl p) = p.is.0
  split_free replies number leg (inr (inl p)) = p.1.is
  split_free replies number leg (inr (inr p)) = p.1.is.is

  -- a free leg of an allowed walk is not decided
  pub free_undecided : (number : ℕ) (leg : Leg) → IsFree node number leg → IsAllowedLeg net rows bids node number leg → IsUndecided node number leg
  free_undecided number leg free here k x l at is = by (get_or node k x).yes refl
    where
      by : (b : Bool) → (get_or node k x).yes ≡ b → ⊥
      by true e = free_of number leg node free k x l e at is
      by false e = (here.allowed.decided k x l at).no e (subst (Contains here.legs) (sym is) here.has)

  pub allowed_formed : IsProper net → (number : ℕ) (leg : Leg) → IsAllowedLeg net rows bids node number leg → IsFormedLeg net leg
  allowed_formed proper number leg here =
      let usable : IsUsable net here.bid.path.kind leg = All-contains (IsUsable net here.bid.path.kind) here.legs leg (walk_usable net proper here.bid here.legs here.allowed.walk) here.has in
      record { track = (below_types net leg.track here.bid.path.kind proper usable.may_use).2; depart = usable.depart; dwell = usable.dwell }
