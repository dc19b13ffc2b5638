-- What an open node keeps ready for look-ups.
use Rattle.std.specs.Prelude.{ℕ, ◌*◌, ◌≤◌, List, length, map}
use Rattle.std.specs.declared.cmp.Ord as Ord
use Rattle.std.specs.declared.cmp.Ordering.{Ordering}
use Rattle.std.specs.declared.cmp.PartialEq as PartialEq
use Rattle.std.specs.declared.cmp.PartialOrd as PartialOrd
use Rattle.std.specs.BTreeMap.{BTreeMap}
use Rattle.optra_network.specs.Net.{Net}
use Rattle.optra_bid.specs.declared.bids.Bid.{Bid}
use Rattle.optra_walk.specs.Families.{Rows, total_of}
use Rattle.optra_walk.specs.declared.coded_row.CodedRow as CodedRow
use Rattle.optra_walk.specs.declared.families.RowFamily as RowFamily
use Rattle.optra_node.specs.declared.Decision.{Decision}
use Rattle.optra_node.specs.Nodes.{IsNode}
use Rattle.optra_open.specs.declared.decision_index.DecisionIndex.{DecisionIndex}
use Rattle.optra_open.specs.declared.node_room.NodeRoom.{NodeRoom}
use Rattle.optra_open.specs.Beside.{AreLoads}
use Rattle.optra_open.specs.Keyed.{AreKeyed, bucket_of, yes_part}

-- the index has the decisions and the yes decisions of each bid, and all decisions by their buckets
pub record IsIndexOf (bids : ℕ) (node : List Decision) (index : DecisionIndex) : Type 0 where
  pub own : AreKeyed (λ d. d.bid) bids node (map (λ list. list.items) index.own.items)
  pub yes : AreKeyed (λ d. d.bid) bids (yes_part node) (map (λ list. list.items) index.yes.items)
  pub buckets : AreKeyed (λ d. bucket_of d.bid d.leg) 4096 node (map (λ list. list.items) index.buckets.items)

-- the totals and the index are those of the node
pub record IsOpen {R : Type 0} (cmp : R → R → Ordering) (net : Net) (rows : Rows R) (bids : List Bid) (node : List Decision) (totals : BTreeMap R ℕ) (index : DecisionIndex) : Type 0 where
  pub is_node : IsNode net (length bids) node
  pub loads : AreLoads cmp rows bids node totals
  pub few : (row : R) → total_of cmp totals row ≤ 8192 * length node
  pub indexed : IsIndexOf (length bids) node index

-- what a room has beside its decisions is of these
abbrev pub IsRoom : {F R : Type 0} {f : RowFamily.Ghosts F R} {c : CodedRow.Ghosts R} {o : Ord.Ghosts R} {e : PartialEq.Ghosts R} {p : PartialOrd.Ghosts R} → (R → R → Ordering) → Net → Rows R → List Bid → NodeRoom F R f c o e p → Type 0
IsRoom cmp net rows bids room = IsOpen cmp net rows bids room.decisions.items room.totals.sums room.index
