use Rattle.std.proofs.Common.{◌≡◌, ◌<◌, ◌-◌, ◌∙◌, List, Option, Some, length, slice_get, ap, sym, subst}
use Rattle.std.specs.Prelude.{IfSome}
use Rattle.optra_node.specs.Nodes.{kind_at}
use Rattle.optra_checker.specs.BestOnWay.{last_best}
use Rattle.optra_checker.specs.Frees.{IsStillFree}
use Rattle.optra_open.specs.NodeWeights.{leaf_weights}
use Rattle.optra_checker.specs.declared.best_walk.BestWalk.{BestWalk}
use Rattle.optra_checker.proofs.BestWalkLemmas.{last_is}
use Rattle.optra_checker.proofs.best_on_way.BestOnWay.last_if_best_at.Goals as goal

pub stays_best-requires-clause-bid : goal.stays_best-requires-clause-bid
stays_best-requires-clause-bid g c = c.requires.bid

pub stays_best-requires-clause-ascending : goal.stays_best-requires-clause-ascending
stays_best-requires-clause-ascending g c = c.requires.ascending

pub stays_best-requires-clause-proper : goal.stays_best-requires-clause-proper
stays_best-requires-clause-proper g c = c.requires.proper

pub stays_best-requires-clause-best : goal.stays_best-requires-clause-best
stays_best-requires-clause-best g c =
    let node = c.args.node.now in
    let rows = g.F.RowFamily.rows_of node.family node.net in
    let used = g.F.RowFamily.rows_used node.family node.net in
    let at : last_best c.args.self.now ≡ Some c.in-Some.best.now = ap (λ (list : List BestWalk). slice_get list (length list - 1)) (sym c.deref.ensures.value) ∙ sym c.in-Some.ensures.value in
    last_is node.net rows used node.bids node.node c.args.bid c.args.self.now c.in-Some.best.now at c.requires.walks

pub returns-then-stays_best-clause-best : goal.returns-then-stays_best-clause-best
returns-then-stays_best-clause-best g c = c.stays_best.ensures.best c.if-stays_best.true

pub returns-then-stays_best-clause-free : goal.returns-then-stays_best-clause-free
returns-then-stays_best-clause-free g c =
    let node = c.args.node.now in
    let rows = g.F.RowFamily.rows_of node.family node.net in
    let used = g.F.RowFamily.rows_used node.family node.net in
    let weights = leaf_weights node.net rows used node.bids node.node c.args.bid c.args.prices.now (kind_at node.bids c.args.bid) in
    let at : last_best c.args.self.now ≡ Some c.in-Some.best.now = ap (λ (list : List BestWalk). slice_get list (length list - 1)) (sym c.deref.ensures.value) ∙ sym c.in-Some.ensures.value in
    subst (λ (o : Option BestWalk). IfSome o (λ best. 0 < length best.legs.items → IsStillFree weights best.legs.items)) (sym at) (c.stays_best.ensures.free c.if-stays_best.true)
