-- Each walk of a plan is worth at least a cent, and a plan is certified whatever the rule of its family says.
use Rattle.std.proofs.Common.{◌≡◌, ℕ, zero, suc, List, [], ◌∷◌, Option, None, Some, slice_set, sym, subst, arith, inl, inr}
use Rattle.std.specs.Prelude.{◌⊎◌, IfSome}
use Rattle.std.specs.Prelude.{ℤ, pos, ◌≤ℤ◌, ◌<ℤ◌}
use Rattle.std.specs.declared.cmp.Ordering.{Ordering}
use Rattle.std.proofs.lemmas.Int.{ints}
use Rattle.optra_network.specs.Net.{Net}
use Rattle.optra_bid.specs.Specs.{IsBetween}
use Rattle.optra_bid.specs.declared.bids.Bid.{Bid}
use Rattle.optra_walk.specs.declared.Leg.{Leg}
use Rattle.optra_walk.specs.Values.{value_of}
use Rattle.optra_walk.specs.Choices.{revenue_of}
use Rattle.optra_walk.specs.Families.{Rows, Entry, entries_of}
use Rattle.optra_node.specs.declared.Decision.{Decision}
use Rattle.optra_node.specs.Laws.{BoundHolds}
use Rattle.optra_node.proofs.BaseLemmas.{value_below_base}
use Rattle.optra_prices.specs.Repairs.{IsGiven, GivesInTurn, empty_choice}
use Rattle.optra_prices.proofs.RepairLemmas.{zip_set}
use Rattle.optra_search.specs.Planner.{State, first_state, IsBetter, IsDeadTurn, IsPricedTurn, IsTurn, Turns, Planned, IsPlainPlan}
use Rattle.optra_search.specs.Laws.{EarnEach, OnePlan, PlansAreCertified, PlansHaveNumbers, SufficientBudget, PlansEarnEach}
use Rattle.optra_search.specs.Plans.{EarnAtMost, IsCertifiedPlan}

-- a walk that is kept is worth more than 0, and none is worth more than the greatest base
kept_worth : (net : Net) (bid : Bid) (legs : List Leg) → pos 0 <ℤ value_of net bid.path bid.money legs → IsBetween (pos 1) (pos 1000000000) (value_of net bid.path bid.money legs)
kept_worth net bid legs earns =
    let base = bid.bounds.amounts.base.1 in
    let below = value_below_base net bid legs in
    (omega (arith, ints), omega (arith, ints))

empty_worth : (net : Net) (bids : List Bid) → EarnEach net bids (empty_choice bids)
empty_worth net [] = tt
empty_worth net (bid ∷ bids) = (tt, empty_worth net bids)

module _ {R : Type 0} (net : Net) (rows : Rows R) (bids : List Bid) (node : List Decision) where
  given_worth : (placed : List Entry) (number : ℕ) (bid : Bid) (given : Option (List Leg)) → IsGiven net rows bids node placed number bid given
      → IfSome given (λ legs. IsBetween (pos 1) (pos 1000000000) (value_of net bid.path bid.money legs))
  given_worth placed number bid None is = tt
  given_worth placed number bid (Some legs) is = kept_worth net bid legs is.1.earns

  gives_worth : (order : List ℕ) (before after : List (Option (List Leg))) → GivesInTurn net rows bids node order before after → EarnEach net bids before → EarnEach net bids after
  gives_worth [] before after e h = subst (EarnEach net bids) (sym e) h
  gives_worth (number ∷ order) before after (bid, given, at, is, then) h =
      gives_worth order (slice_set before number given) after then
      (zip_set (λ (bid : Bid) (walk : Option (List Leg)). IfSome walk (λ legs. IsBetween (pos 1) (pos 1000000000) (value_of net bid.path bid.money legs))) bids before number bid given h at
      (given_worth (entries_of bids before) number bid given is))

module _ {R : Type 0} (cmp : R → R → Ordering) (net : Net) (rows : Rows R) (bids : List Bid) (steps budget : ℕ) where
  better_worth : (old new best : List (Option (List Leg))) → IsBetter net bids old new best → EarnEach net bids old → EarnEach net bids new → EarnEach net bids best
  better_worth old new best (inl p) h k = subst (EarnEach net bids) (sym p.1) k
  better_worth old new best (inr p) h k = subst (EarnEach net bids) (sym p.1) h

  turn_worth : (before after : State R) → IsTurn cmp net rows bids steps budget before after → EarnEach net bids before.incumbent → EarnEach net bids after.incumbent
  turn_worth before after turn h = by turn.becomes
    where
      by : IsDeadTurn cmp net rows bids turn.first.node before.incumbent after.incumbent turn.item
          ⊎ IsPricedTurn cmp net rows bids steps turn.first before.incumbent after.incumbent turn.item turn.prices
          → EarnEach net bids after.incumbent
      by (inl dead) = subst (EarnEach net bids) (sym dead.stays) h
      by (inr priced) =
          better_worth before.incumbent priced.repaired after.incumbent priced.better h
          (gives_worth net rows bids turn.first.node priced.is_repaired.order (empty_choice bids) priced.repaired priced.is_repaired.gives (empty_worth net bids))

  turns_worth : (n : ℕ) (before after : State R) → Turns cmp net rows bids steps budget n before after → EarnEach net bids before.incumbent → EarnEach net bids after.incumbent
  turns_worth zero before after e h = subst (λ (s : State R). EarnEach net bids s.incumbent) (sym e) h
  turns_worth (suc n) before after (next, turn, rest) h = turns_worth n next after rest (turn_worth before next turn h)

  -- each walk of a plan is worth at least a cent
  pub plan_worth : (plan : Planned R) → IsPlainPlan cmp net rows bids steps budget plan → EarnEach net bids plan.choice
  plan_worth plan is =
      subst (EarnEach net bids) (sym is.choice) (turns_worth is.last.count (first_state bids) is.last is.turns (empty_worth net bids))

-- what the laws say of a plan, taken together
pub certified_plan : {R : Type 0} (cmp : R → R → Ordering) (net : Net) (rows : Rows R) (Keeps : List Entry → Type 0) (bids : List Bid)
    → BoundHolds net rows Keeps bids → OnePlan cmp net rows bids → PlansAreCertified cmp net rows Keeps bids → PlansHaveNumbers cmp net rows bids → SufficientBudget cmp net rows bids
    → PlansEarnEach cmp net rows bids → (steps budget : ℕ) (plan : Planned R) → IsPlainPlan cmp net rows bids steps budget plan → IsCertifiedPlan cmp net rows Keeps bids steps budget plan
certified_plan cmp net rows Keeps bids holds one certify number suffice earn steps budget plan is =
    let certified = certify steps budget plan is in
    let bounded : EarnAtMost net Keeps bids plan.bound = λ walks choice keeps.
    holds plan.revenue plan.bound plan.choice plan.tree walks certified.formed.whole certified.valid choice keeps in
    record {
      by_search = is;
      only = λ other is_other. one steps budget other plan is_other is;
      certified = certified;
      numbers = number steps budget plan is;
      bounded = bounded;
      best = λ meet. subst (EarnAtMost net Keeps bids) (sym meet) bounded;
      sufficient = λ pairs are much. suffice steps budget plan pairs are much is;
      worth = earn steps budget plan is;
    }
