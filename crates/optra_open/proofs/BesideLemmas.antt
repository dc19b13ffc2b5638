-- What the totals of a node have beside a bid's own decisions.
use Rattle.std.proofs.Common.{◌≡◌, ℕ, ◌+◌, ◌≤◌, ◌↔◌, Bool, List, sym, ap, ◌∙◌, arith}
use Rattle.std.specs.Prelude.{IsTrue}
use Rattle.std.specs.declared.cmp.Ordering.{Ordering}
use Rattle.std.specs.BTreeMap.{BTreeMap}
use Rattle.optra_network.specs.declared.TypeId.{TypeId}
use Rattle.optra_bid.specs.declared.bids.Bid.{Bid}
use Rattle.optra_walk.specs.declared.Leg.{Leg}
use Rattle.optra_walk.specs.Families.{Rows, total_of}
use Rattle.optra_node.specs.declared.Decision.{Decision}
use Rattle.optra_node.specs.Nodes.{yes_load, others_load, IsBlocked}
use Rattle.optra_node.specs.OwnDecisions.{decisions_for}
use Rattle.optra_node.proofs.OwnLemmas.{load_split}
use Rattle.optra_open.specs.Beside.{AreLoads, load_beside, IsBlockedBeside}

module _ (bid : ℕ) (own node : List Decision) (is : own ≡ decisions_for node bid) where
  module _ {R : Type 0} (cmp : R → R → Ordering) (rows : Rows R) (bids : List Bid) (totals : BTreeMap R ℕ) (loads : AreLoads cmp rows bids node totals) where
    -- what the totals have beside the bid's own decisions is the load of the others
    split : (row : R) → total_of cmp totals row ≡ others_load rows bids node bid row + yes_load rows bids own row
    split row = loads row ∙ load_split rows bids bid row node ∙ ap (λ o. others_load rows bids node bid row + yes_load rows bids o row) (sym is)

    pub own_within : (row : R) → yes_load rows bids own row ≤ total_of cmp totals row
    own_within row = let s = split row in omega arith

    beside : (row : R) → load_beside cmp rows bids totals own row ≡ others_load rows bids node bid row
    beside row = let s = split row in omega arith

    pub blocked_beside : (r : Bool) (kind : TypeId) (leg : Leg) → (IsTrue r ↔ IsBlockedBeside rows (load_beside cmp rows bids totals own) kind leg) → IsTrue r ↔ IsBlocked rows bids node bid kind leg
    blocked_beside r kind leg h = (λ t. to (h.0 t), λ b. h.1 (back b))
      where
        to : IsBlockedBeside rows (load_beside cmp rows bids totals own) kind leg → IsBlocked rows bids node bid kind leg
        to (row, b) = let e = beside row in let a = b.above in (row, record { is_row = b.is_row; used = b.used; above = omega arith })

        back : IsBlocked rows bids node bid kind leg → IsBlockedBeside rows (load_beside cmp rows bids totals own) kind leg
        back (row, b) = let e = beside row in let a = b.above in (row, record { is_row = b.is_row; used = b.used; above = omega arith })
