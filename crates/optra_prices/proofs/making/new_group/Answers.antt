use Rattle.std.proofs.Common.{◌≡◌, ◌-◌, ◌≤◌, length, sym, subst, arith}
use Rattle.optra_prices.specs.Tables.{AreTouches, uses_in_all}
use Rattle.optra_prices.proofs.GroupLemmas.{touches_use, group_added}
use Rattle.optra_prices.proofs.making.new_group.Goals as goal

pub returns : goal.returns
returns g c =
    let f = c.args.rows.now in
    let net = c.args.net.now in
    let uses = (g.F.RowFamily.rows_of f net).uses c.args.kind c.args.leg in
    let used = g.F.RowFamily.rows_used f net c.args.kind c.args.leg in
    let lists = g.met.F.RowFamily.lists_rows f net c.args.kind c.args.leg c.requires.usable in
    let is = c.in_ok-push_touches.ensures in
    let adds = is.touches in
    let starts = c.args.groups.now.starts.items in
    let small : uses_in_all adds.more ≤ 8192 = let t = touches_use c.push_touches.new.named.items uses adds.more used adds.are in let l = lists.total in omega arith in
    let len : c.len.result ≡ length c.push_touches.new.touches = grind (arith, c.len.ensures) in
    let count : c.len-number.result ≡ length starts = c.len-number.ensures in
    let place : c.len-number.result - 1 ≡ length starts - 1 = omega arith in
    let added = group_added starts c.args.groups.now.touches adds.more c.push.new.self.items c.push_touches.new.touches c.len.result (c.len-number.result - 1) c.requires.groups small adds.is c.in_ok-push.ensures len place in
    record {
      rows_are = is.rows;
      extends = is.extends;
      groups_are = added.groups;
      keeps = added.keeps;
      within = added.within;
      touches = subst (λ touches. AreTouches c.push_touches.new.named.items uses touches used) (sym added.is) adds.are;
    }
