-- The first bid with such a leg.
use Rattle.std.proofs.Common.{length, slice_get, refl, subst, arith}
use Rattle.std.proofs.lemmas.Option.{slice_get_read, slice_get_within}
use Rattle.optra_network.specs.Net.{Net}
use Rattle.optra_bid.specs.declared.bids.Bid.{Bid}
use Rattle.optra_graph.specs.Timed.{IsGraphOf}
use Rattle.optra_search.proofs.MarkLemmas.{some_back, first_bid_leg, one_settled}
use Rattle.optra_search.proofs.freeing.freest_leg.Goals as goal

pub graph-requires : goal.graph-requires
graph-requires g c = rw (← c.bid-item.is) at (c.requires.held c.loop-number.number c.bid-item.result c.loop-number-test.true)

pub free_leg-requires-clause-graph : goal.free_leg-requires-clause-graph
free_leg-requires-clause-graph g c =
    let at = slice_get_read c.args.inst.bids.now (length c.args.inst.bids.now) c.loop-number.number c.bid-item.result refl c.loop-number-test.true c.bid-item.is in
    some_back (λ (b : Bid). IsGraphOf c.args.inst.net.now b.path c.graph.result.now) (slice_get c.args.inst.bids.now c.loop-number.number) c.bid-item.result at
    (subst (λ (net : Net). IsGraphOf net c.bid-item.result.path c.graph.result.now) c.requires.network c.graph.ensures)

pub loop-number-preserved : goal.loop-number-preserved
loop-number-preserved g c =
    let net = c.args.inst.net.now in
    one_settled net (g.F.RowFamily.rows_of c.args.rows.now net) c.args.inst.bids.now c.args.node.now c.loop-number.number c.loop-number.invariant (rw c.in-None.is at c.in_ok-leg.ensures)

pub returns-in-Some : goal.returns-in-Some
returns-in-Some g c =
    let net = c.args.inst.net.now in
    first_bid_leg net (g.F.RowFamily.rows_of c.args.rows.now net) c.args.inst.bids.now c.args.node.now c.loop-number.number c.in-Some.leg c.loop-number.invariant (rw c.in-Some.is at c.in_ok-leg.ensures)

pub returns : goal.returns
returns g c n b at =
    let l = slice_get_within c.args.inst.bids.now n b at in
    let m = c.loop-number-test.false in
    c.loop-number.invariant n b (omega arith) at
