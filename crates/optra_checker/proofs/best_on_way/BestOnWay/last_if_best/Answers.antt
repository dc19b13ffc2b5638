use Rattle.std.proofs.Common.{◌≡◌, ◌<◌, ◌-◌, ◌∙◌, List, [], Some, length, slice_get, ap, sym, subst}
use Rattle.std.specs.Prelude.{All}
use Rattle.optra_walk.specs.declared.Leg.{Leg}
use Rattle.optra_walk.specs.Families.{IsUsable}
use Rattle.optra_node.specs.Nodes.{kind_at}
use Rattle.optra_checker.specs.BestOnWay.{last_best}
use Rattle.optra_checker.specs.Frees.{IsStillFree}
use Rattle.optra_open.specs.NodeWeights.{leaf_weights}
use Rattle.optra_checker.specs.declared.best_walk.BestWalk.{BestWalk}
use Rattle.optra_checker.proofs.BestWalkLemmas.{best_usable, last_is, stands_best}
use Rattle.optra_checker.proofs.best_on_way.BestOnWay.last_if_best.Goals as goal

pub still_allows-requires-clause-usable : goal.still_allows-requires-clause-usable
still_allows-requires-clause-usable g c =
    let node = c.args.node.now in
    let rows = g.F.RowFamily.rows_of node.family node.net in
    let used = g.F.RowFamily.rows_used node.family node.net in
    let at : last_best c.args.self.now ≡ Some c.in-Some.best.now = ap (λ (list : List BestWalk). slice_get list (length list - 1)) (sym c.deref.ensures.value) ∙ sym c.in-Some.ensures.value in
    let is = last_is node.net rows used node.bids node.node c.args.bid c.args.self.now c.in-Some.best.now at c.requires.walks in
    subst (λ (ls : List Leg). All (IsUsable node.net (kind_at node.bids c.args.bid)) ls) (sym c.legs.ensures)
    (best_usable node.net rows used node.bids node.node c.args.bid c.in-Some.best.now c.laws.ensures is)

pub returns-then-still_allows-clause-best : goal.returns-then-still_allows-clause-best
returns-then-still_allows-clause-best g c b there =
    let node = c.args.node.now in
    let rows = g.F.RowFamily.rows_of node.family node.net in
    let used = g.F.RowFamily.rows_used node.family node.net in
    let best = c.in-Some.best.now in
    let at : last_best c.args.self.now ≡ Some best = ap (λ (list : List BestWalk). slice_get list (length list - 1)) (sym c.deref.ensures.value) ∙ sym c.in-Some.ensures.value in
    let is = last_is node.net rows used node.bids node.node c.args.bid c.args.self.now best at c.requires.walks in
    stands_best node.net rows used node.bids node.node c.args.bid best is
    (subst (λ (ls : List Leg). IsStillFree (leaf_weights node.net rows used node.bids node.node c.args.bid [] (kind_at node.bids c.args.bid)) ls) c.legs.ensures (c.still_allows.ensures.free c.if-still_allows.true))
    (subst (λ (ls : List Leg). 0 < length ls) c.legs.ensures (c.still_allows.ensures.some c.if-still_allows.true)) b there

pub still_allows-requires-clause-bid : goal.still_allows-requires-clause-bid
still_allows-requires-clause-bid g c = c.requires.bid

pub still_allows-requires-clause-latest : goal.still_allows-requires-clause-latest
still_allows-requires-clause-latest g c = c.requires.latest

pub last_if_best_at-requires-clause-bid : goal.last_if_best_at-requires-clause-bid
last_if_best_at-requires-clause-bid g c = c.requires.bid

pub last_if_best_at-requires-clause-walks : goal.last_if_best_at-requires-clause-walks
last_if_best_at-requires-clause-walks g c = c.requires.walks

pub returns-clause-best : goal.returns-clause-best
returns-clause-best g c = c.last_if_best_at.ensures.best

pub returns-clause-size : goal.returns-clause-size
returns-clause-size g c = c.last_if_best_at.ensures.size

pub returns-clause-free : goal.returns-clause-free
returns-clause-free g c = c.last_if_best_at.ensures.free
