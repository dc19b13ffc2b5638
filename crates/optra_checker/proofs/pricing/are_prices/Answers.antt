use Rattle.std.proofs.Common.{◌∙◌, refl, sym, subst}
use Rattle.std.specs.Prelude.{All}
use Rattle.std.proofs.lemmas.List.{take_all}
use Rattle.std.proofs.lemmas.List.Elements.{All-more}
use Rattle.optra_node.specs.Duals.{IsPrice}
use Rattle.optra_open.proofs.AtLemmas.{no_true, not_both}
use Rattle.optra_checker.proofs.HereLemmas.{all_here}
use Rattle.optra_checker.proofs.pricing.are_prices.Goals as goal

pub returns-then-not-is_price : goal.returns-then-not-is_price
returns-then-not-is_price g c =
    let P = IsPrice (g.F.RowFamily.rows_of c.args.rows.now c.args.net.now) in
    let listed = c.as_slice-listed.ensures.value ∙ c.prices.view_is in (
      λ t. absurd (no_true t),
      λ all. absurd (not_both c.is_price.result c.if-not-is_price.true (c.is_price.ensures.1
          (all_here P c.as_slice-listed.result.now c.entries.entry-index c.entry-item.result c.entries-test.true c.entry-item.is (subst (All P) (sym listed) all)))),
    )

pub entries-preserved : goal.entries-preserved
entries-preserved g c =
    let P = IsPrice (g.F.RowFamily.rows_of c.args.rows.now c.args.net.now) in
    All-more P c.as_slice-listed.result.now c.entries.entry-index c.entry-item.result c.entries-test.true c.entries.invariant (subst P c.entry-item.is (c.is_price.ensures.0 c.if-not-is_price.false))

pub returns : goal.returns
returns g c =
    let P = IsPrice (g.F.RowFamily.rows_of c.args.rows.now c.args.net.now) in
    let listed = c.as_slice-listed.ensures.value ∙ c.prices.view_is in
    ((λ _. subst (All P) (take_all c.entries.entry-index c.as_slice-listed.result.now c.entries-test.false ∙ listed) c.entries.invariant), (λ _. refl))
