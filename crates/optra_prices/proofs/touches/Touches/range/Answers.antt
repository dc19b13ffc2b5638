use Rattle.std.proofs.Common.{◌≡◌, ◌∙◌, List, length, ap, arith}
use Rattle.std.specs.List.{slice_range}
use Rattle.optra_prices.specs.declared.touch.Touch.{Touch}
use Rattle.optra_prices.proofs.NarrowTouchLemmas.{range_lent}
use Rattle.optra_prices.proofs.touches.Touches.range.Goals as goal

pub returns : goal.returns
returns c =
    let i = c.self.inside in
    let long : c.len-count.result ≡ length i.narrow.items = grind arith in
    range_lent i.narrow.items c.deref.result.now i.wide.items c.deref-2.result.now c.len-count.result c.args.start c.args.end c.min.result c.min-2.result c.saturating_sub.result c.saturating_sub-2.result
    long c.deref.ensures.value c.deref-2.ensures.value c.min.ensures c.min-2.ensures c.saturating_sub.ensures c.saturating_sub-2.ensures c.requires.ordered
    ∙ ap (λ (ts : List Touch). slice_range ts c.args.start c.args.end) c.self.view_is
