-- The arcs of a bid's graph: which may be taken at a node, and which have a leg that is not fixed.
use Rattle.std.specs.Prelude.{◌≡◌, ◌⊎◌, ℕ, ◌<◌, ◌↔◌, Bool, true, false, not, cond, List, length, Option, None, Some, slice_get, slice_index_or, Contains, ℤ, pos}
use Rattle.optra_network.specs.Net.{Net}
use Rattle.optra_network.specs.declared.TypeId.{TypeId}
use Rattle.optra_bid.specs.declared.bids.Bid.{Bid}
use Rattle.optra_walk.specs.declared.Leg.{Leg}
use Rattle.optra_walk.specs.Families.{Rows}
use Rattle.optra_dag.specs.Paths.{IsPath, IsFirstBest}
use Rattle.optra_graph.specs.Timed.{Timed, leg_of, start_of, walk_of}
use Rattle.optra_node.specs.declared.Decision.{Decision}
use Rattle.optra_node.specs.Nodes.{kind_at}
use Rattle.optra_node.specs.Spans.{IsLegOk, IsStartOk}
use Rattle.optra_search.specs.declared.freeing.ArcMark.{ArcMark}
use Rattle.optra_prices.specs.Replies.{AllowsNone}
use Rattle.optra_search.specs.Splits.{is_fixed, IsFree, IsFreeLeg, reply_legs, HoldsOfNone, IsFirst, IsFreest, IsSettled, IsFreestLeg, IsSplitLeg}

-- past the last arc
abbrev pub no_mark : ArcMark
no_mark = record { allowed = false; free = false }

abbrev pub mark_at : List ArcMark → ℕ → ArcMark
mark_at marks k = slice_index_or marks k no_mark

-- whether an arc may be taken
abbrev pub allows_at : List ArcMark → ℕ → Bool
allows_at marks k = (mark_at marks k).allowed

-- 1 for an arc with a leg that is not fixed, and 0 for another one
abbrev pub weight_at : List ArcMark → ℕ → ℤ
weight_at marks k = pos (cond (mark_at marks k).free 1 0)

-- a start arc may be taken where the bid may start then; the arc of a leg may be taken where the leg is ok, and it is free where the leg is not fixed
pub record IsMarkOf {R : Type 0} (net : Net) (rows : Rows R) (bids : List Bid) (node : List Decision) (number : ℕ) (t : Timed) (k : ℕ) (mark : ArcMark) : Type 0 where
  pub start_allowed : (minute : ℕ) → start_of t k ≡ Some minute → (mark.allowed ≡ true) ↔ IsStartOk node number minute
  pub start_free : (minute : ℕ) → start_of t k ≡ Some minute → mark.free ≡ false
  pub leg_allowed : (leg : Leg) → leg_of t k ≡ Some leg → (mark.allowed ≡ true) ↔ IsLegOk net rows bids node number (kind_at bids number) leg
  pub leg_free : (leg : Leg) → leg_of t k ≡ Some leg → mark.free ≡ not (is_fixed node number leg)

-- the first arcs are marked
pub record AreMarked {R : Type 0} (net : Net) (rows : Rows R) (bids : List Bid) (node : List Decision) (number : ℕ) (t : Timed) (arcs : ℕ) (marks : List ArcMark) : Type 0 where
  pub count : length marks ≡ arcs
  pub each : (k : ℕ) → k < arcs → IsMarkOf net rows bids node number t k (mark_at marks k)

-- the freest walk of the bid; none where no walk is allowed
abbrev pub IsFreestOrNone : {R : Type 0} → Net → Rows R → List Bid → List Decision → ℕ → Bid → Option (List Leg) → Type 0
IsFreestOrNone net rows bids node number bid None = AllowsNone net rows bids node number bid
IsFreestOrNone net rows bids node number bid (Some legs) = IsFreest net rows bids node number bid legs

-- the first leg that is not fixed of the bid's freest walk; none where no allowed walk has such a leg
abbrev pub IsFreeLegOrNone : {R : Type 0} → Net → Rows R → List Bid → List Decision → ℕ → Bid → Option Leg → Type 0
IsFreeLegOrNone net rows bids node number bid None = IsSettled net rows bids node number bid
IsFreeLegOrNone net rows bids node number bid (Some leg) = (legs : List Leg) × IsFreest net rows bids node number bid legs × IsFirst (IsFree node number) legs leg

-- no allowed walk of any bid has a leg that is not fixed
abbrev pub AreSettled : {R : Type 0} → Net → Rows R → List Bid → List Decision → Type 0
AreSettled net rows bids node = (number : ℕ) (bid : Bid) → slice_get bids number ≡ Some bid → IsSettled net rows bids node number bid

-- the leg of the first bid that has one; none where all bids are settled
abbrev pub IsFreestLegOrNone : {R : Type 0} → Net → Rows R → List Bid → List Decision → Option (ℕ × Leg) → Type 0
IsFreestLegOrNone net rows bids node None = AreSettled net rows bids node
IsFreestLegOrNone net rows bids node (Some found) = IsFreestLeg net rows bids node found.0 found.1

-- the walk of the first best path of allowed arcs; none where there is no such path
abbrev pub IsBestWalkOrNone : Timed → List ArcMark → Option (List Leg) → Type 0
IsBestWalkOrNone t marks None = (arcs : List ℕ) → IsPath t.dag (allows_at marks) arcs → ⊥
IsBestWalkOrNone t marks (Some legs) = (arcs : List ℕ) × (total : ℤ) × IsFirstBest t.dag (allows_at marks) (weight_at marks) total arcs × (legs ≡ walk_of t arcs)

-- the split leg; none where all bids are settled
abbrev pub IsSplitLegOrNone : {R : Type 0} → Net → Rows R → List Bid → List Decision → List (Option (List Leg)) → Option (ℕ × Leg) → Type 0
IsSplitLegOrNone net rows bids node replies None = AreSettled net rows bids node
IsSplitLegOrNone net rows bids node replies (Some found) = IsSplitLeg net rows bids node replies found.0 found.1

-- the split leg where no leg of a reply that is not fixed uses an overfilled row; none where all bids are settled
abbrev pub IsFreeSplitOrNone : {R : Type 0} → Net → Rows R → List Bid → List Decision → List (Option (List Leg)) → Option (ℕ × Leg) → Type 0
IsFreeSplitOrNone net rows bids node replies None = AreSettled net rows bids node
IsFreeSplitOrNone net rows bids node replies (Some found) =
    IsFirst (IsFreeLeg node) (reply_legs replies) found ⊎ (HoldsOfNone (IsFreeLeg node) (reply_legs replies) × IsFreestLeg net rows bids node found.0 found.1)

-- the leg of the type uses one of the rows that are listed
abbrev pub UsesOne : {R : Type 0} → Rows R → TypeId → Leg → List R → Type 0
UsesOne {R} rows kind leg listed = (row : R) × Contains listed row × (0 < rows.uses kind leg row)

-- a leg that is not fixed and uses one of the rows that are listed
abbrev pub IsCrowding : {R : Type 0} → Rows R → List Bid → List Decision → List R → ℕ × Leg → Type 0
IsCrowding rows bids node listed entry = IsFree node entry.0 entry.1 × UsesOne rows (kind_at bids entry.0) entry.1 listed
