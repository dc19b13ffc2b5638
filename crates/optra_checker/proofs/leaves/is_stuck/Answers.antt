-- None is offered exactly to a bid that is stuck.
use Rattle.std.proofs.Common.{◌↔◌, [], Bool, is_some, slice_get, sym, subst}
use Rattle.std.specs.Prelude.{IsTrue, IsSomeAnd}
use Rattle.optra_node.specs.Duals.{IsStuck}
use Rattle.optra_checker.proofs.StuckLemmas.{flip, stuck_at}
use Rattle.optra_checker.proofs.leaves.is_stuck.Goals as goal

pub returns : goal.returns
returns g c =
    let node = c.args.node.now in
    let rows = g.F.RowFamily.rows_of node.family node.net in
    subst (λ (r : Bool). IsTrue r ↔ IsSomeAnd (slice_get node.bids c.args.bid) (IsStuck node.net rows node.bids node.node c.args.bid)) (sym (flip c.is_none.result (is_some c.offer_of.result) c.is_none.ensures))
    (stuck_at node.net rows node.bids node.node [] c.args.bid c.offer_of.result c.requires.bid c.offer_of.ensures.best)

pub best_found-requires-clause-bid : goal.best_found-requires-clause-bid
best_found-requires-clause-bid g c = c.requires.bid

pub offer_of-requires-clause-bid : goal.offer_of-requires-clause-bid
offer_of-requires-clause-bid g c = c.requires.bid

pub offer_of-requires-clause-size : goal.offer_of-requires-clause-size
offer_of-requires-clause-size g c = c.in_ok-best.ensures.size
