-- The rows that replies overfill, and the legs that use one of them.
use Rattle.std.proofs.Common.{◌≡◌, ℕ, ◌≤◌, ◌<◌, true, false, List, length, get_or, Option, None, Some, slice_get, refl, sym, ap, ◌∙◌, arith, inl, inr}
use Rattle.std.specs.Prelude.{Contains, ◌↔◌, IsTrue}
use Rattle.std.specs.Option.{option_map_or}
use Rattle.std.proofs.lemmas.List.Elements.{All-contains}
use Rattle.optra_bid.specs.declared.bids.Bid.{Bid}
use Rattle.optra_network.specs.Net.{Net}
use Rattle.optra_network.specs.declared.TypeId.{TypeId}
use Rattle.optra_walk.specs.declared.Leg.{Leg}
use Rattle.optra_walk.specs.Choices.{IsChoice}
use Rattle.optra_walk.specs.Families.{Rows}
use Rattle.optra_node.specs.declared.Decision.{Decision}
use Rattle.optra_node.specs.Nodes.{kind_at, uses_at}
use Rattle.optra_node.proofs.ChildLemmas.{some_at, within_at}
use Rattle.optra_prices.specs.Overfull.{AreOverfilled}
use Rattle.optra_prices.specs.Steps.{reply_load}
use Rattle.optra_search.specs.Splits.{IsFirst, HoldsOfNone, IsFreeLeg, IsCrowdedLeg, reply_legs}
use Rattle.optra_walk.proofs.EarnLemmas.{choice_long}
use Rattle.optra_search.proofs.SplitLemmas.{legs_from_has}
use Rattle.optra_search.proofs.ReplyLemmas.{none_alike, first_alike}
use Rattle.optra_search.specs.Marks.{UsesOne, IsCrowding, IsFreestLegOrNone, IsFreeSplitOrNone, IsSplitLegOrNone}

-- where none of the rows is used
pub none_used : {R : Type 0} (rows : Rows R) (kind : TypeId) (leg : Leg) (listed : List R) (n : ℕ) → ((k : ℕ) (d : R) → k < n → rows.uses kind leg (get_or listed k d) ≡ 0) → length listed ≤ n
    → IsTrue false ↔ UsesOne rows kind leg listed
none_used rows kind leg listed n none l = (
  (λ e. absurd (clash e)),
  λ (row, c, used).
      let z = none c.0 row (omega (arith, c.1)) in
      let e = ap (rows.uses kind leg) c.2 in
      absurd (omega arith),
)
  where
    clash : false ≡ true → ⊥
    clash e = cc

module _ {R : Type 0} (rows : Rows R) (bids : List Bid) (node : List Decision) (replies : List (Option (List Leg))) (listed : List R) (are : AreOverfilled rows bids replies listed) where
  uses_is : (number : ℕ) (bid : Bid) (leg : Leg) (row : R) → slice_get bids number ≡ Some bid → uses_at rows bids row number leg ≡ rows.uses (kind_at bids number) leg row
  uses_is number bid leg row at =
      ap (λ (o : Option Bid). option_map_or (λ b. rows.uses b.path.kind leg row) o 0) at
      ∙ sym (ap (λ (o : Option Bid). rows.uses (option_map_or (λ b. b.path.kind) o (record { 0 = 0 })) leg row) at)

  -- a leg of a bid that uses a listed row uses a row that the replies overfill
  pub crowding_is : (number : ℕ) (bid : Bid) (leg : Leg) → slice_get bids number ≡ Some bid → IsCrowding rows bids node listed (number, leg) ↔ IsCrowdedLeg rows bids node replies (number, leg)
  crowding_is number bid leg at = (
    (λ (free, one).
        let row = one.0 in
        let used = one.2 in
        let s = All-contains (λ (other : R). (rows.is_row other ≡ true) × (rows.capacity other < reply_load rows bids replies other)) listed row are.sound one.1 in
        let u = uses_is number bid leg row at in
        (free, (row, record { is_row = s.0; used = omega arith; above = s.1 }))),
    (λ (free, one).
        let row = one.0 in
        let crowd = one.1 in
        let u = uses_is number bid leg row at in
        let p = crowd.used in
        (free, (row, are.whole row crowd.is_row crowd.above, omega arith))),
  )

module _ {R : Type 0} (net : Net) (rows : Rows R) (bids : List Bid) (node : List Decision) (replies : List (Option (List Leg))) (choice : IsChoice net bids replies) (listed : List R) (are : AreOverfilled rows bids replies listed) where
  crowding_alike : (entry : ℕ × Leg) → Contains (reply_legs replies) entry → IsCrowding rows bids node listed entry ↔ IsCrowdedLeg rows bids node replies entry
  crowding_alike entry c =
      let t = legs_from_has 0 replies entry.0 entry.1 c in
      let w = within_at replies t.0 (Some t.1) t.3 in
      let long = choice_long net bids replies choice in
      let n = t.2 in
      let b = some_at bids entry.0 (length bids) refl (omega arith) in
      crowding_is rows bids node replies listed are entry.0 b.0 entry.1 b.1

  -- the first crowding leg is the split leg
  pub split_crowding : (found : ℕ × Leg) → IsFirst (IsCrowding rows bids node listed) (reply_legs replies) found → IsSplitLegOrNone net rows bids node replies (Some found)
  split_crowding found is =
      inl (first_alike (IsCrowding rows bids node listed) (IsCrowdedLeg rows bids node replies) (reply_legs replies) (Some found) crowding_alike is)

  -- without one, the split leg is found otherwise
  pub split_free : (found : Option (ℕ × Leg)) → HoldsOfNone (IsCrowding rows bids node listed) (reply_legs replies) → IsFreeSplitOrNone net rows bids node replies found → IsSplitLegOrNone net rows bids node replies found
  split_free None none is = is
  split_free (Some found) none (inl is) = inr (inl (none_alike (IsCrowding rows bids node listed) (IsCrowdedLeg rows bids node replies) (reply_legs replies) crowding_alike none, is))
  split_free (Some found) none (inr is) = inr (inr is)

-- without a free leg of a reply, the split leg is the freest leg
pub split_freest : {R : Type 0} (net : Net) (rows : Rows R) (bids : List Bid) (node : List Decision) (replies : List (Option (List Leg))) (found : Option (ℕ × Leg)) → HoldsOfNone (IsFreeLeg node) (reply_legs replies)
    → IsFreestLegOrNone net rows bids node found → IsFreeSplitOrNone net rows bids node replies found
split_freest net rows bids node replies None none is = is
split_freest net rows bids node replies (Some found) none is = inr (none, is)
