use Rattle.std.proofs.Common.{◌≡◌, ◌∙◌, sym, ap, subst, rules}
use Rattle.std.specs.Prelude.{FitsSigned}
use Rattle.std.specs.Int.{w128}
use Rattle.std.proofs.lemmas.Int.{to_z-of_z}
use Rattle.optra_node.specs.Duals.{capacity_price, whole_cents}
use Rattle.optra_node.specs.Certificates.{IsBoundOf}
use Rattle.optra_checker.specs.Leaves.{dual_by}
use Rattle.optra_checker.proofs.LeafLemmas.{dual_is}
use Rattle.optra_checker.proofs.terms.leaf_bound.Goals as goal

pub returns-clause-bound : goal.returns-clause-bound
returns-clause-bound g c =
    let node = c.args.node.now in
    let rows = g.F.RowFamily.rows_of node.family node.net in
    let sum = c.in_ok-sum.field-0 in
    let fits : FitsSigned w128 c.whole_cents.result = search rules in
    let fits_value : FitsSigned w128 c.dual_by-value.result = search rules in
    let fits_capacity : FitsSigned w128 c.capacity_price.result = search rules in
    let is : c.whole_cents.result ≡ whole_cents (dual_by (capacity_price rows c.args.prices.now) sum) =
    c.whole_cents.ensures ∙ ap whole_cents (to_z-of_z w128 c.dual_by-value.result fits_value ∙ c.dual_by-value.ensures ∙ ap (λ capacity. dual_by capacity sum) (to_z-of_z w128 c.capacity_price.result fits_capacity ∙ c.capacity_price.ensures.value)) in
    let P = IsBoundOf node.net rows node.bids node.node c.args.prices.now in
    subst P (sym (to_z-of_z w128 c.whole_cents.result fits ∙ is)) (dual_is node.net rows node.bids node.node c.args.prices.now sum c.in_ok-sum.ensures.terms)

pub capacity_price-requires : goal.capacity_price-requires
capacity_price-requires g c = c.requires.proper

pub term_sum-sum-requires-clause-ascending : goal.term_sum-sum-requires-clause-ascending
term_sum-sum-requires-clause-ascending g c = c.requires.ascending

pub term_sum-sum-requires-clause-proper : goal.term_sum-sum-requires-clause-proper
term_sum-sum-requires-clause-proper g c = c.requires.proper

pub term_sum-sum-requires-clause-walks : goal.term_sum-sum-requires-clause-walks
term_sum-sum-requires-clause-walks g c = c.requires.walks

pub term_sum-sum-requires-clause-instance : goal.term_sum-sum-requires-clause-instance
term_sum-sum-requires-clause-instance g c = c.requires.instance
