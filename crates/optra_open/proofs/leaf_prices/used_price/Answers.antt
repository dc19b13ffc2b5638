use Rattle.std.proofs.Common.{◌∙◌, ℕ, ◌+◌, ◌*◌, ◌≤◌, length, refl, sym, ap, subst, arith, to_z, take, sum_by}
use Rattle.std.specs.Prelude.{ℤ, pos, ◌+ℤ◌, ◌*ℤ◌, ◌≤ℤ◌}
use Rattle.std.specs.Int.{w128}
use Rattle.optra_open.proofs.LeafPriceLemmas.{term_more, uses_more, priced_all, prices_small}
use Rattle.optra_open.proofs.LoadedLemmas.{no_more}
use Rattle.optra_rests.proofs.ProductLemmas.{row_price_same, product_is, more_least, more_most, more_fit, more_same}
use Rattle.optra_rests.specs.Sizes.{IsRowPrice}
use Rattle.optra_open.proofs.leaf_prices.used_price.Goals as goal

pub touched-requires : goal.touched-requires
touched-requires g c = c.requires.usable

pub price_at-price-requires-clause-ascending : goal.price_at-price-requires-clause-ascending
price_at-price-requires-clause-ascending g c = c.requires.ascending

pub leg_use-requires : goal.leg_use-requires
leg_use-requires g c = c.requires.usable

pub price_at-price-requires-clause-small : goal.price_at-price-requires-clause-small
price_at-price-requires-clause-small g c = prices_small (g.F.RowFamily.rows_of c.args.rows.now c.args.inst.net.now) c.args.prices.now c.requires.prices

pub times-total-requires : goal.times-total-requires
times-total-requires g c = subst IsRowPrice (sym (row_price_same c.price_at-price.result c.price_at-price.ensures.range)) c.price_at-price.ensures.range

pub overflow_add-total : goal.overflow_add-total
overflow_add-total g c =
    let f = c.args.rows.now in
    let net = c.args.inst.net.now in
    let rows = g.F.RowFamily.rows_of f net in
    let used = g.F.RowFamily.rows_used f net c.args.kind c.args.leg in
    let lists = g.met.F.RowFamily.lists_rows f net c.args.kind c.args.leg c.requires.usable in
    let inv = c.loop-k.invariant in
    let price = c.price_at-price.result in
    let n = c.leg_use.result in
    let before = sum_by (rows.uses c.args.kind c.args.leg) (take c.loop-k.k used) in
    let old = to_z w128 c.loop-k.total-bits in
    let total = to_z w128 c.loop-k.total-bits in
    let product = c.times-total.result in
    let range = c.price_at-price.ensures.range in
    let at = sym c.touched.ensures ∙ c.in-Some.is in
    let uses = uses_more rows (rows.uses c.args.kind c.args.leg) used c.loop-k.k c.in-Some.row at in
    let few : before + n ≤ 1208925819614629174706176 = omega (arith, uses.1, lists.total, c.leg_use.ensures) in
    more_fit price n before old total product range c.times-total.ensures refl inv.least inv.most few

pub loop-k-preserved : goal.loop-k-preserved
loop-k-preserved g c =
    let f = c.args.rows.now in
    let net = c.args.inst.net.now in
    let rows = g.F.RowFamily.rows_of f net in
    let used = g.F.RowFamily.rows_used f net c.args.kind c.args.leg in
    let lists = g.met.F.RowFamily.lists_rows f net c.args.kind c.args.leg c.requires.usable in
    let inv = c.loop-k.invariant in
    let price = c.price_at-price.result in
    let n = c.leg_use.result in
    let before = sum_by (rows.uses c.args.kind c.args.leg) (take c.loop-k.k used) in
    let old = to_z w128 c.loop-k.total-bits in
    let total = to_z w128 c.loop-k.total-bits in
    let product = c.times-total.result in
    let range = c.price_at-price.ensures.range in
    let at = sym c.touched.ensures ∙ c.in-Some.is in
    let uses = uses_more rows (rows.uses c.args.kind c.args.leg) used c.loop-k.k c.in-Some.row at in
    let few : before + n ≤ 1208925819614629174706176 = omega (arith, uses.1, lists.total, c.leg_use.ensures) in
    let same = more_same price n before old total product range c.times-total.ensures refl inv.least inv.most few in
    let least = more_least price n before old total product range c.times-total.ensures refl inv.least inv.most few in
    let most = more_most price n before old total product range c.times-total.ensures refl inv.least inv.most few in
    let term = product_is price n before old total product range c.times-total.ensures refl inv.least inv.most few ∙ (λ i. c.price_at-price.ensures.value i *ℤ pos (c.leg_use.ensures i)) in
    let more = term_more rows g.F.Row.Ord.cmp c.args.prices.now c.args.kind c.args.leg used c.loop-k.k c.in-Some.row at in
    let uses_all = uses.0 ∙ ap (λ (k : ℕ). before + k) (sym c.leg_use.ensures) in
    record {
      value = same ∙ (λ i. inv.value i +ℤ term i) ∙ sym more;
      least = subst (λ (z : ℤ). pos 0 ≤ℤ z) (sym same) least;
      most = subst (λ (z : ℤ). z ≤ℤ pos (2000000000000 * sum_by (rows.uses c.args.kind c.args.leg) (take (c.loop-k.k + 1) used))) (sym same)
          (subst (λ (k : ℕ). (total +ℤ product) ≤ℤ pos (2000000000000 * k)) (sym uses_all) most);
    }

pub returns-in_default-clause-value : goal.returns-in_default-clause-value
returns-in_default-clause-value g c =
    let f = c.args.rows.now in
    let net = c.args.inst.net.now in
    let rows = g.F.RowFamily.rows_of f net in
    let used = g.F.RowFamily.rows_used f net c.args.kind c.args.leg in
    let lists = g.met.F.RowFamily.lists_rows f net c.args.kind c.args.leg c.requires.usable in
    let inv = c.loop-k.invariant in
    let past : length used ≤ c.loop-k.k = no_more used c.loop-k.k (λ row at. let is = c.in_default.is in let e = c.touched.ensures in cc) in
    (priced_all rows g.F.Row.Ord.cmp c.args.prices.now c.args.kind c.args.leg used c.loop-k.k (to_z w128 c.loop-k.total-bits) (to_z w128 c.loop-k.total-bits) past lists.total refl inv.value inv.least inv.most).0 ∙ c.prices_by_used_rows.ensures c.args.prices.now c.args.kind c.args.leg c.requires.usable

pub returns-in_default-clause-range : goal.returns-in_default-clause-range
returns-in_default-clause-range g c =
    let f = c.args.rows.now in
    let net = c.args.inst.net.now in
    let rows = g.F.RowFamily.rows_of f net in
    let used = g.F.RowFamily.rows_used f net c.args.kind c.args.leg in
    let lists = g.met.F.RowFamily.lists_rows f net c.args.kind c.args.leg c.requires.usable in
    let inv = c.loop-k.invariant in
    let past : length used ≤ c.loop-k.k = no_more used c.loop-k.k (λ row at. let is = c.in_default.is in let e = c.touched.ensures in cc) in
    (priced_all rows g.F.Row.Ord.cmp c.args.prices.now c.args.kind c.args.leg used c.loop-k.k (to_z w128 c.loop-k.total-bits) (to_z w128 c.loop-k.total-bits) past lists.total refl inv.value inv.least inv.most).1

pub returns-clause-value : goal.returns-clause-value
returns-clause-value g c =
    let f = c.args.rows.now in
    let net = c.args.inst.net.now in
    let rows = g.F.RowFamily.rows_of f net in
    let used = g.F.RowFamily.rows_used f net c.args.kind c.args.leg in
    let lists = g.met.F.RowFamily.lists_rows f net c.args.kind c.args.leg c.requires.usable in
    let inv = c.loop-k.invariant in
    let past : length used ≤ c.loop-k.k = (let few = lists.few in let over = c.loop-k-test.false in omega (arith, few, over)) in
    (priced_all rows g.F.Row.Ord.cmp c.args.prices.now c.args.kind c.args.leg used c.loop-k.k (to_z w128 c.loop-k.total-bits) (to_z w128 c.loop-k.total-bits) past lists.total refl inv.value inv.least inv.most).0 ∙ c.prices_by_used_rows.ensures c.args.prices.now c.args.kind c.args.leg c.requires.usable

pub returns-clause-range : goal.returns-clause-range
returns-clause-range g c =
    let f = c.args.rows.now in
    let net = c.args.inst.net.now in
    let rows = g.F.RowFamily.rows_of f net in
    let used = g.F.RowFamily.rows_used f net c.args.kind c.args.leg in
    let lists = g.met.F.RowFamily.lists_rows f net c.args.kind c.args.leg c.requires.usable in
    let inv = c.loop-k.invariant in
    let past : length used ≤ c.loop-k.k = (let few = lists.few in let over = c.loop-k-test.false in omega (arith, few, over)) in
    (priced_all rows g.F.Row.Ord.cmp c.args.prices.now c.args.kind c.args.leg used c.loop-k.k (to_z w128 c.loop-k.total-bits) (to_z w128 c.loop-k.total-bits) past lists.total refl inv.value inv.least inv.most).1
