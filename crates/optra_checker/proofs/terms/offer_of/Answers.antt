use Rattle.std.proofs.Common.{◌∙◌, sym, subst, rules}
use Rattle.std.specs.Prelude.{FitsSigned}
use Rattle.std.specs.Int.{w128}
use Rattle.std.proofs.lemmas.Int.{to_z-of_z}
use Rattle.optra_network.specs.Net.{IsProper}
use Rattle.optra_node.specs.Duals.{IsGreatest, IsOffer}
use Rattle.optra_rests.specs.Weights.{IsWorthSize}
use Rattle.optra_checker.proofs.LeafLemmas.{best_yes, best_no, size_above}
use Rattle.optra_checker.proofs.terms.offer_of.Goals as goal

pub returns-then-has_yes-clause-best : goal.returns-then-has_yes-clause-best
returns-then-has_yes-clause-best g c b at =
    let node = c.args.node.now in
    let rows = g.F.RowFamily.rows_of node.family node.net in
    let used = g.F.RowFamily.rows_used node.family node.net in
    let proper : IsProper node.net = c.laws.ensures in
    best_yes g.F.Row.Ord.cmp node.net proper rows used (λ kind leg usable. g.met.F.RowFamily.lists_rows node.family node.net kind leg usable) node.bids node.node c.args.prices.now c.args.bid b at c.args.best (c.requires.best b at)
    (sym c.has_yes.ensures ∙ c.if-has_yes.true)

pub returns-else-has_yes-clause-best : goal.returns-else-has_yes-clause-best
returns-else-has_yes-clause-best g c b at =
    let node = c.args.node.now in
    let rows = g.F.RowFamily.rows_of node.family node.net in
    let used = g.F.RowFamily.rows_used node.family node.net in
    let proper : IsProper node.net = c.laws.ensures in
    let fits : FitsSigned w128 c.or_zero-least.result = search rules in
    subst (IsGreatest (IsOffer node.net rows node.bids node.node c.args.prices.now c.args.bid b)) (sym (to_z-of_z w128 c.or_zero-least.result fits))
    (best_no g.F.Row.Ord.cmp node.net proper rows used (λ kind leg usable. g.met.F.RowFamily.lists_rows node.family node.net kind leg usable) node.bids node.node c.args.prices.now c.args.bid b at c.args.best (c.requires.best b at)
    (sym c.has_yes.ensures ∙ c.if-has_yes.false) c.or_zero-least.result c.or_zero-least.ensures.least c.or_zero-least.ensures.most c.or_zero-least.ensures.reached)

pub returns-then-has_yes-clause-size : goal.returns-then-has_yes-clause-size
returns-then-has_yes-clause-size g c = c.requires.size

pub returns-else-has_yes-clause-size : goal.returns-else-has_yes-clause-size
returns-else-has_yes-clause-size g c =
    let fits : FitsSigned w128 c.or_zero-least.result = search rules in
    subst IsWorthSize (sym (to_z-of_z w128 c.or_zero-least.result fits)) (size_above c.args.best c.or_zero-least.result c.requires.size c.or_zero-least.ensures.reached)
