-- The best walk of a bid where nothing is decided, nothing is used and nothing has a price.
use Rattle.std.specs.Prelude.{◌≡◌, ◌<◌, true, List, [], length, All, Option, Some, IfSome}
use Rattle.std.specs.Prelude.{ℤ, pos, ◌*ℤ◌}
use Rattle.std.specs.declared.cmp.Ordering.{Ordering}
use Rattle.optra_network.specs.Net.{Net}
use Rattle.optra_network.specs.declared.TypeId.{TypeId}
use Rattle.optra_bid.specs.declared.bids.Bid.{Bid}
use Rattle.optra_walk.specs.declared.Leg.{Leg}
use Rattle.optra_walk.specs.Families.{Rows}
use Rattle.optra_walk.specs.Walks.{IsWalk}
use Rattle.optra_walk.specs.Values.{value_of, first_departure}
use Rattle.optra_rests.specs.Weights.{Weights, IsBestWorth, IsWorthSize}
use Rattle.optra_open.specs.Loaded.{KeepsOff}
use Rattle.optra_checker.specs.declared.best_walk.BestWalk.{BestWalk}

-- a walk may have every start and every leg, at no cost
abbrev pub free_weights : Net → TypeId → Weights
free_weights net kind = record {
  net = net;
  kind = kind;
  may_start = λ minute. true;
  may_have = λ leg. true;
  cost_of = λ leg. pos 0;
}

-- the legs are a walk of the bid that is worth as much, in thousandths of a cent
pub record Attains (net : Net) (bid : Bid) (best : Option ℤ) (legs : List Leg) : Type 0 where
  pub walk : IsWalk net bid.path legs
  pub worth : best ≡ Some (pos 1000 *ℤ value_of net bid.path bid.money legs)

-- what the best of all walks is worth, and the legs of one, where any are at hand; none of them alone uses a row above its capacity
pub record IsFree {R : Type 0} (cmp : R → R → Ordering) (net : Net) (rows : Rows R) (bid : Bid) (free : BestWalk) : Type 0 where
  pub depth : free.depth ≡ 0
  pub best : IsBestWorth (free_weights net bid.path.kind) net bid free.worth
  pub size : IfSome free.worth IsWorthSize
  pub walk : 0 < length free.legs.items → Attains net bid free.worth free.legs.items
  pub fits : 0 < length free.legs.items → All (KeepsOff cmp rows bid.path.kind []) free.legs.items

-- a walk may have the leg, at no cost
pub record IsFreeLeg (w : Weights) (leg : Leg) : Type 0 where
  pub may : w.may_have leg ≡ true
  pub none : w.cost_of leg ≡ pos 0

-- a walk may have the start and each leg, at no cost
pub record IsStillFree (w : Weights) (legs : List Leg) : Type 0 where
  pub start : w.may_start (first_departure legs) ≡ true
  pub each : All (IsFreeLeg w) legs
