use Rattle.std.proofs.Common.{refl, subst, arith}
use Rattle.std.specs.Prelude.{All}
use Rattle.std.proofs.lemmas.List.{take_all}
use Rattle.std.proofs.lemmas.List.Elements.{All-more}
use Rattle.optra_node.specs.Certificates.{HasPrices}
use Rattle.optra_open.proofs.AtLemmas.{no_true, not_both}
use Rattle.optra_checker.proofs.HereLemmas.{all_here}
use Rattle.optra_checker.proofs.pricing.prices_hold.Goals as goal

pub items-preserved : goal.items-preserved
items-preserved g c =
    let P = HasPrices (g.F.RowFamily.rows_of c.args.rows.now c.args.net.now) in
    All-more P c.args.tree.now c.items.item-index c.item-item.result c.items-test.true c.items.invariant (subst P c.item-item.is (c.has_prices.ensures.0 c.if-not-has_prices.false))

pub returns : goal.returns
returns g c =
    let P = HasPrices (g.F.RowFamily.rows_of c.args.rows.now c.args.net.now) in
    ((λ _. subst (All P) (take_all c.items.item-index c.args.tree.now c.items-test.false) c.items.invariant), (λ _. refl))

pub items-init : goal.items-init
items-init g c k d l = absurd (omega (arith, l))

pub returns-then-not-has_prices : goal.returns-then-not-has_prices
returns-then-not-has_prices g c =
    let P = HasPrices (g.F.RowFamily.rows_of c.args.rows.now c.args.net.now) in (
      λ t. absurd (no_true t),
      λ all. absurd (not_both c.has_prices.result c.if-not-has_prices.true (c.has_prices.ensures.1 (all_here P c.args.tree.now c.items.item-index c.item-item.result c.items-test.true c.item-item.is all))),
    )
