use Rattle.std.proofs.Common.{◌∙◌, ◌<◌, List, length, slice_get, sym, subst}
use Rattle.std.specs.Prelude.{All}
use Rattle.optra_walk.specs.declared.Leg.{Leg}
use Rattle.optra_walk.specs.Families.{IsUsable}
use Rattle.optra_node.specs.Nodes.{kind_at}
use Rattle.optra_checker.specs.BestOnWay.{IsBestWalk}
use Rattle.optra_checker.specs.Frees.{IsStillFree}
use Rattle.optra_open.specs.NodeWeights.{leaf_weights}
use Rattle.optra_checker.proofs.BestWalkLemmas.{best_usable, best_below, none_below, none_walk, missing_none, some_has}
use Rattle.optra_checker.proofs.best_walk.BestWalk.stays_best.Goals as goal

pub returns-then-is_missing-clause-best : goal.returns-then-is_missing-clause-best
returns-then-is_missing-clause-best g c t b at =
    let node = c.args.node.now in
    let rows = g.F.RowFamily.rows_of node.family node.net in
    let used = g.F.RowFamily.rows_used node.family node.net in
    let best = c.args.self.now in
    let is = some_has (λ b. IsBestWalk node.net rows used node.bids node.node c.args.bid b best) (slice_get node.bids c.args.bid) b at c.requires.best in
    none_below node.net rows used node.bids c.args.bid b node.node c.args.prices.now best is (missing_none best.worth (sym c.is_missing.ensures ∙ c.if-is_missing.true))

pub returns-then-is_missing-clause-free : goal.returns-then-is_missing-clause-free
returns-then-is_missing-clause-free g c t some =
    let node = c.args.node.now in
    let rows = g.F.RowFamily.rows_of node.family node.net in
    let used = g.F.RowFamily.rows_used node.family node.net in
    let best = c.args.self.now in
    absurd (none_walk node.net rows used node.bids node.node c.args.bid best (missing_none best.worth (sym c.is_missing.ensures ∙ c.if-is_missing.true)) some c.requires.best)

pub are_free_legs-requires-clause-usable : goal.are_free_legs-requires-clause-usable
are_free_legs-requires-clause-usable g c =
    let node = c.args.node.now in
    let rows = g.F.RowFamily.rows_of node.family node.net in
    let used = g.F.RowFamily.rows_used node.family node.net in
    subst (λ (ls : List Leg). All (IsUsable node.net (kind_at node.bids c.args.bid)) ls) (sym c.legs.ensures)
    (best_usable node.net rows used node.bids node.node c.args.bid c.args.self.now c.laws.ensures c.requires.best)

pub are_free_legs-requires-clause-bid : goal.are_free_legs-requires-clause-bid
are_free_legs-requires-clause-bid g c = c.requires.bid

pub are_free_legs-requires-clause-ascending : goal.are_free_legs-requires-clause-ascending
are_free_legs-requires-clause-ascending g c = c.requires.ascending

pub are_free_legs-requires-clause-proper : goal.are_free_legs-requires-clause-proper
are_free_legs-requires-clause-proper g c = c.requires.proper

pub returns-clause-best : goal.returns-clause-best
returns-clause-best g c t b at =
    let node = c.args.node.now in
    let rows = g.F.RowFamily.rows_of node.family node.net in
    let used = g.F.RowFamily.rows_used node.family node.net in
    let best = c.args.self.now in
    let w = leaf_weights node.net rows used node.bids node.node c.args.bid c.args.prices.now (kind_at node.bids c.args.bid) in
    let is = some_has (λ b. IsBestWalk node.net rows used node.bids node.node c.args.bid b best) (slice_get node.bids c.args.bid) b at c.requires.best in
    best_below node.net rows used node.bids c.args.bid b node.node c.args.prices.now best c.requires.proper is
    (subst (λ (ls : List Leg). IsStillFree w ls) c.legs.ensures (c.are_free_legs.ensures.free t)) (subst (λ (ls : List Leg). 0 < length ls) c.legs.ensures (c.are_free_legs.ensures.some t))

pub returns-clause-free : goal.returns-clause-free
returns-clause-free g c t some =
    let node = c.args.node.now in
    let rows = g.F.RowFamily.rows_of node.family node.net in
    let used = g.F.RowFamily.rows_used node.family node.net in
    let w = leaf_weights node.net rows used node.bids node.node c.args.bid c.args.prices.now (kind_at node.bids c.args.bid) in
    subst (λ (ls : List Leg). IsStillFree w ls) c.legs.ensures (c.are_free_legs.ensures.free t)
