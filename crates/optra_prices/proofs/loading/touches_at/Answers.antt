use Rattle.std.proofs.Common.{sym, ◌∙◌, arith}
use Rattle.optra_prices.proofs.UseLemmas.{none_past}
use Rattle.optra_prices.proofs.loading.touches_at.Goals as goal

pub returns-else-g-saturating_sub : goal.returns-else-g-saturating_sub
returns-else-g-saturating_sub c = c.range.ensures ∙ sym (none_past c.args.groups.now c.args.g (let t = c.if-g-saturating_sub.false in let l = c.len.ensures in let s = c.saturating_sub.ensures in omega arith))
