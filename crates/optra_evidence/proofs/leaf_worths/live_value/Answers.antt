use Rattle.std.proofs.Common.{◌≡◌, ◌∙◌, sym, ap, subst, rules}
use Rattle.std.specs.Prelude.{FitsSigned}
use Rattle.std.specs.Int.{w128}
use Rattle.std.proofs.lemmas.Int.{to_z-of_z}
use Rattle.optra_node.specs.Duals.{capacity_price}
use Rattle.optra_rests.specs.Sizes.{IsCapacityPrice}
use Rattle.optra_evidence.specs.Worths.{IsLiveValue, value_by}
use Rattle.optra_evidence.proofs.WorthLemmas.{live_value_is}
use Rattle.optra_evidence.proofs.leaf_worths.live_value.Goals as goal

pub returns : goal.returns
returns g c =
    let node = c.args.node.now in
    let rows = g.F.RowFamily.rows_of node.family node.net in
    let sum = c.term_sum-sum.result in
    let fits : FitsSigned w128 c.capacity_price.result = search rules in
    let is : c.value_by.result ≡ value_by (capacity_price rows c.args.prices.now) sum =
    c.value_by.ensures ∙ ap (λ capacity. value_by capacity sum) (to_z-of_z w128 c.capacity_price.result fits ∙ c.capacity_price.ensures.value) in
    subst (IsLiveValue node.net rows node.bids node.node c.args.prices.now) (sym is)
    (live_value_is node.net rows node.bids node.node c.args.prices.now sum c.term_sum-sum.ensures.terms (subst IsCapacityPrice c.capacity_price.ensures.value c.capacity_price.ensures.range) c.term_sum-sum.ensures.size)
