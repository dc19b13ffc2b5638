-- The leg of an arc is formed, and an arc of a leg has no departure of its own.
use Rattle.std.proofs.Common.{sym, ◌∙◌, ap}
use Rattle.std.specs.Prelude.{not}
use Rattle.optra_bid.specs.declared.bids.Bid.{Bid}
use Rattle.optra_graph.specs.Timed.{IsGraphOf}
use Rattle.optra_node.proofs.ChildLemmas.{within_at}
use Rattle.optra_search.proofs.MarkLemmas.{some_there, leg_mark, arc_formed}
use Rattle.optra_search.proofs.freeing.mark.Goals as goal

pub leg_ok-requires-clause-bid : goal.leg_ok-requires-clause-bid
leg_ok-requires-clause-bid g c =
    let b = some_there (λ (b : Bid). IsGraphOf c.args.inst.net.now b.path c.args.graph.now) c.args.inst.bids.now c.args.bid c.requires.graph in
    within_at c.args.inst.bids.now c.args.bid b.0 b.1

pub leg_ok-requires-clause-leg : goal.leg_ok-requires-clause-leg
leg_ok-requires-clause-leg g c =
    let net = c.args.inst.net.now in
    let b = some_there (λ (b : Bid). IsGraphOf net b.path c.args.graph.now) c.args.inst.bids.now c.args.bid c.requires.graph in
    arc_formed net c.args.inst.proper (g.F.RowFamily.rows_of c.args.rows.now net) c.args.inst.bids.now c.args.bid b.0 b.1 c.args.graph.now b.2 c.args.arc c.in-Some.leg c.requires.arc (sym c.leg.ensures ∙ c.in-Some.is)

pub start_ok-allowed-requires-clause-bid : goal.start_ok-allowed-requires-clause-bid
start_ok-allowed-requires-clause-bid g c =
    let b = some_there (λ (b : Bid). IsGraphOf c.args.inst.net.now b.path c.args.graph.now) c.args.inst.bids.now c.args.bid c.requires.graph in
    within_at c.args.inst.bids.now c.args.bid b.0 b.1

pub returns-in-Some : goal.returns-in-Some
returns-in-Some g c =
    let net = c.args.inst.net.now in
    leg_mark net (g.F.RowFamily.rows_of c.args.rows.now net) c.args.inst.bids.now c.args.node.now c.args.bid c.args.graph.now c.args.arc c.in-Some.leg c.leg_ok.result (not c.is_fixed.result)
    (sym c.leg.ensures ∙ c.in-Some.is) c.leg_ok.ensures (ap not c.is_fixed.ensures)
