use Rattle.std.proofs.Common.{◌∙◌, ◌+◌, ◌*◌, ◌≤◌, refl, sym, ap, subst, arith, to_z}
use Rattle.std.specs.Prelude.{ℤ, pos, ◌+ℤ◌, ◌*ℤ◌, ◌≤ℤ◌}
use Rattle.std.specs.Int.{w128}
use Rattle.std.proofs.lemmas.Int.{ints}
use Rattle.std.proofs.lemmas.List.{take_all}
use Rattle.optra_node.specs.Duals.{IsPrice, capacity_price}
use Rattle.optra_rests.specs.Sizes.{IsRowPrice}
use Rattle.optra_open.proofs.LeafPriceLemmas.{capacity_more}
use Rattle.optra_rests.proofs.ProductLemmas.{row_price_same, product_is, more_least, more_most, more_fit, more_same}
use Rattle.optra_open.proofs.leaf_prices.capacity_price.Goals as goal

pub times-total-requires : goal.times-total-requires
times-total-requires g c =
    let rows = g.F.RowFamily.rows_of c.args.rows.now c.args.inst.net.now in
    let e = c.entry-item.result in
    let price = subst (IsPrice rows) (sym c.entry-item.is) (c.requires c.entries.entry-index e c.entries-test.true) in
    let range : IsRowPrice e.1 = (let low = price.least in omega (arith, ints), price.most) in
    subst IsRowPrice (sym (row_price_same e.1 range)) range

pub overflow_add-total : goal.overflow_add-total
overflow_add-total g c =
    let f = c.args.rows.now in
    let net = c.args.inst.net.now in
    let rows = g.F.RowFamily.rows_of f net in
    let e = c.entry-item.result in
    let price = subst (IsPrice rows) (sym c.entry-item.is) (c.requires c.entries.entry-index e c.entries-test.true) in
    let range : IsRowPrice e.1 = (let low = price.least in omega (arith, ints), price.most) in
    let capacity = g.met.F.RowFamily.capacity_fits f net e.0 c.args.inst.proper price.is_row in
    let one = c.cap.ensures in
    let inv = c.entries.invariant in
    let total = to_z w128 c.entries.total-bits in
    let n = c.cap.result in
    let before = 65535 * c.entries.entry-index in
    let most : total ≤ℤ pos (2000000000000 * before) = (let so_most = inv.most in omega (arith, ints)) in
    let few : before + n ≤ 1208925819614629174706176 = omega (arith, capacity, one) in
    more_fit e.1 n before total total c.times-total.result range c.times-total.ensures refl inv.least most few

pub entries-preserved : goal.entries-preserved
entries-preserved g c =
    let f = c.args.rows.now in
    let net = c.args.inst.net.now in
    let rows = g.F.RowFamily.rows_of f net in
    let e = c.entry-item.result in
    let price = subst (IsPrice rows) (sym c.entry-item.is) (c.requires c.entries.entry-index e c.entries-test.true) in
    let range : IsRowPrice e.1 = (let low = price.least in omega (arith, ints), price.most) in
    let capacity = g.met.F.RowFamily.capacity_fits f net e.0 c.args.inst.proper price.is_row in
    let one = c.cap.ensures in
    let inv = c.entries.invariant in
    let total = to_z w128 c.entries.total-bits in
    let n = c.cap.result in
    let before = 65535 * c.entries.entry-index in
    let most : total ≤ℤ pos (2000000000000 * before) = (let so_most = inv.most in omega (arith, ints)) in
    let few : before + n ≤ 1208925819614629174706176 = omega (arith, capacity, one) in
    let same = more_same e.1 n before total total c.times-total.result range c.times-total.ensures refl inv.least most few in
    let least = more_least e.1 n before total total c.times-total.result range c.times-total.ensures refl inv.least most few in
    let over = more_most e.1 n before total total c.times-total.result range c.times-total.ensures refl inv.least most few in
    let term = product_is e.1 n before total total c.times-total.result range c.times-total.ensures refl inv.least most few ∙ ap (λ n. e.1 *ℤ pos n) one in
    let more = capacity_more rows c.args.prices.now c.entries.entry-index e c.entries-test.true c.entry-item.is in
    record {
      value = same ∙ (λ i. inv.value i +ℤ term i) ∙ sym more;
      least = subst (λ (z : ℤ). pos 0 ≤ℤ z) (sym same) least;
      most = subst (λ (z : ℤ). z ≤ℤ pos (131070000000000000 * (c.entries.entry-index + 1))) (sym same) (omega (arith, ints, over, capacity, one));
    }

pub returns-clause-value : goal.returns-clause-value
returns-clause-value g c =
    let rows = g.F.RowFamily.rows_of c.args.rows.now c.args.inst.net.now in
    c.entries.invariant.value ∙ ap (capacity_price rows) (take_all c.entries.entry-index c.args.prices.now c.entries-test.false)
