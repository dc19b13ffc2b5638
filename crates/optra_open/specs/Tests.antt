-- The tests of a node as yes or no: which starts and which legs a walk of a bid may have.
use Rattle.std.specs.Prelude.{ℕ, ◌+◌, Bool, true, not, cond, ◌&&◌, ◌||◌, nat_eq, nat_lt, nat_le, List}
use Rattle.std.specs.List.{list_all}
use Rattle.std.specs.Option.{option_map_or}
use Rattle.optra_network.specs.Net.{Net}
use Rattle.optra_network.specs.declared.TypeId.{TypeId}
use Rattle.optra_bid.specs.declared.bids.Bid.{Bid}
use Rattle.optra_walk.specs.declared.Action.{Action}
use Rattle.optra_walk.specs.declared.Leg.{Leg}
use Rattle.optra_walk.specs.Families.{Rows}
use Rattle.optra_walk.specs.Legs.{dwell_of, next_depart_of}
use Rattle.optra_walk.specs.Orders.{action_rank}
use Rattle.optra_node.specs.declared.Decision.{Decision}
use Rattle.optra_node.specs.Nodes.{is_yes_for, others_load}

-- whether a walk of the bid may start at the minute
abbrev pub may_start_at : List Decision → ℕ → ℕ → Bool
may_start_at node number minute = list_all (λ d. not (is_yes_for number d && nat_lt d.leg.depart minute)) node

-- whether two actions are the same
abbrev pub same_action : Action → Action → Bool
same_action a b = nat_eq (action_rank a) (action_rank b) && nat_eq (dwell_of a) (dwell_of b)

-- whether two legs are the same
abbrev pub same_leg : Leg → Leg → Bool
same_leg a b =
    nat_eq a.track.0 b.track.0 && nat_eq a.depart b.depart && cond a.from_halt b.from_halt (not b.from_halt) && same_action a.action b.action

-- whether the leg's span holds the minute
abbrev pub spans_minute : Net → TypeId → Leg → ℕ → Bool
spans_minute net kind leg minute = nat_le leg.depart minute && option_map_or (λ next. nat_lt minute next) (next_depart_of net kind leg) true

-- whether the decision lets a walk have the leg
abbrev pub lets_leg : Net → TypeId → Decision → Leg → Bool
lets_leg net kind d leg = cond (same_leg leg d.leg) d.yes (not (d.yes && spans_minute net kind leg d.leg.depart))

-- whether each decision for the bid lets it have the leg
abbrev pub all_let : Net → List Decision → ℕ → TypeId → Leg → Bool
all_let net node number kind leg = list_all (λ d. not (nat_eq d.bid number) || lets_leg net kind d leg) node

-- whether there is room for the leg beside the yes legs of the other bids, in each row that it uses
abbrev pub has_room : {R : Type 0} → Rows R → (TypeId → Leg → List R) → List Bid → List Decision → ℕ → TypeId → Leg → Bool
has_room rows used bids node number kind leg =
    list_all (λ row. nat_le (rows.uses kind leg row + others_load rows bids node number row) (rows.capacity row)) (used kind leg)

-- whether a walk of the bid may have the leg
abbrev pub may_have_leg : {R : Type 0} → Net → Rows R → (TypeId → Leg → List R) → List Bid → List Decision → ℕ → TypeId → Leg → Bool
may_have_leg net rows used bids node number kind leg = all_let net node number kind leg && has_room rows used bids node number kind leg
