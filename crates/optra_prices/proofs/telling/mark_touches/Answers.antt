use Rattle.std.proofs.Common.{◌+◌, ◌<◌, [], length, take, refl, subst, rules}
use Rattle.std.proofs.lemmas.List.Sums.{sum_by_more}
use Rattle.optra_prices.specs.Columns.{IsColumns}
use Rattle.optra_prices.specs.NarrowTouches.{no_touch}
use Rattle.optra_prices.specs.Tellings.{MarksUsed}
use Rattle.optra_prices.specs.Uses.{touch_use, touch_uses}
use Rattle.optra_prices.specs.declared.numbering.Groups.{Groups}
use Rattle.optra_prices.specs.declared.touch.Touch.{Touch}
use Rattle.optra_prices.proofs.TellingLemmas.{used_none, used_on, touch_marks}
use Rattle.optra_prices.proofs.telling.mark_touches.Goals as goal

pub loop-k-init : goal.loop-k-init
loop-k-init c = record { columns = c.requires; marks = used_none (touch_uses []) c.args.columns.now (λ n. refl) }

pub loop-k-preserved : goal.loop-k-preserved
loop-k-preserved c =
    let touches = c.args.touches.now in
    let k = c.loop-k.k in
    let within : k < length touches = search rules in
    let inv = c.loop-k.invariant in
    let old = c.args.columns.now in
    let mid = c.loop-k.columns in
    let new = c.mark_row.new.columns in
    let marked = c.in_ok-mark_row.ensures in
    let here = subst (λ (touch : Touch). MarksUsed (touch_use touch) mid new) c.at.ensures (touch_marks c.at.result old.groups mid new inv.columns marked.row) in
    record {
      columns = subst (λ (groups : Groups). IsColumns groups new) inv.columns.groups_are marked.columns;
      marks = used_on (touch_uses (take k touches)) _ (touch_uses (take (k + 1) touches)) old mid new inv.marks here (λ n. sum_by_more (λ (t : Touch). touch_use t n) touches k no_touch within);
    }
