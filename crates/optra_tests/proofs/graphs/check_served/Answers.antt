-- Each bid of the list is held.
use Rattle.std.proofs.Common.{sym, subst, Contains}
use Rattle.optra_bid.specs.declared.bids.Bid.{Bid}
use Rattle.optra_tests.proofs.graphs.check_served.Goals as goal

pub graph-requires : goal.graph-requires
graph-requires g c = subst (λ (b : Bid). Contains (g.G.Graphs.held c.prepare.new.self) b.path) (sym c.bid-item.is) (c.in_ok-prepare.ensures.held c.loop-bid.bid-index c.bid-item.result c.loop-bid-test.true)
