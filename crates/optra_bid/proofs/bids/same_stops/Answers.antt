use Rattle.std.proofs.Common.{◌≡◌, rules}
use Rattle.std.specs.Bool.{Decides}
use Rattle.std.proofs.lemmas.Slice.Eq.{slice_eq-Decides}
use Rattle.optra_bid.specs.declared.Stop.{Stop}
use Rattle.optra_bid.specs.contracts.StopPartialEq.TheImpl.{eq-value}
use Rattle.optra_bid.proofs.bids.same_stops.Goals as goal

stop_decides : (a b : Stop) → Decides (eq-value.it a b) (a ≡ b)
stop_decides a b = search rules

pub returns : goal.returns
returns c = let d = slice_eq-Decides stop_decides c.args.a.now c.args.b.now c.eq.result c.eq.ensures in search rules
