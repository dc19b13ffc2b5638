-- Of the bidders so far there are intervals, and the planner finds what it found at first.
use Rattle.std.proofs.Common.{◌≡◌, take, map}
use Rattle.std.specs.Prelude.{All}
use Rattle.optra_payment.specs.Planners.{FindAlike}
use Rattle.optra_payment.specs.Payments.{IsFoundInterval, HoldsPayment}
use Rattle.optra_payment.specs.declared.Interval.{Interval}
use Rattle.optra_payment.proofs.paying.payments.Given as goal

abbrev pub invariant-bidders : goal.invariant-bidders
invariant-bidders g l = record {
  alike : FindAlike (g.P.Planner.Finds l.fn.planner) (g.P.Planner.Finds l.planner);
  bidders : map (λ (pay : Interval). pay.bidder) l.pays.items ≡ take l.bidder-index l.bidder-items;
  found : All (IsFoundInterval (g.P.Planner.Finds l.fn.planner l.rows l.inst.net.now) l.inst.net.now l.inst.bids.now l.choice) l.pays.items;
  payments : All (HoldsPayment l.inst.net.now (g.F.RowFamily.KeepsRule l.rows l.inst.net.now) l.inst.bids.now l.choice) l.pays.items;
}
