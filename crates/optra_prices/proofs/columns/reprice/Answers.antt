use Rattle.std.proofs.Common.{◌<◌, ◌≤◌, ◌∙◌, length, get_or, refl, sym, ap, subst, arith}
use Rattle.std.proofs.lemmas.List.{get_or_read}
use Rattle.optra_prices.specs.Columns.{IsColumns}
use Rattle.optra_prices.specs.Tables.{AreGroupPrices}
use Rattle.optra_prices.specs.declared.numbering.Groups.{Groups}
use Rattle.optra_prices.proofs.ColumnLemmas.{told_first, told_more, told_all}
use Rattle.optra_prices.proofs.columns.reprice.Goals as goal

pub loop-k-init : goal.loop-k-init
loop-k-init c = record { columns = c.requires.columns; running = refl; due = refl; each = told_first c.args.prices.now.items c.args.columns.now c.requires.columns c.requires.due }

pub loop-k-preserved : goal.loop-k-preserved
loop-k-preserved c =
    let old = c.args.columns.now in
    let now = c.loop-k.columns in
    let new = c.reprice_group.new.columns in
    let inv = c.loop-k.invariant in
    let k = c.loop-k.k in
    let count = ap (λ v. length v.items) inv.due in
    let l : k < length old.due.items = omega (arith, c.len-k-end.ensures, old.due.ok.0) in
    let here = get_or_read now.due.items k c.index-g.result.now (omega arith) c.index-g.ensures 0 ∙ ap (λ v. get_or v.items k 0) inv.due in
    let repriced = c.reprice_group.ensures.repriced in
    record {
      columns = subst (λ (groups : Groups). IsColumns groups new) inv.columns.groups_are c.reprice_group.ensures.columns;
      running = repriced.running_is ∙ inv.running;
      due = repriced.due_is ∙ inv.due;
      each = λ g. told_more c.args.prices.now.items old now new k c.index-g.result.now inv.columns.groups_are here repriced g (inv.each g);
    }

pub returns-clause-prices : goal.returns-clause-prices
returns-clause-prices c =
    let old = c.args.columns.now in
    let now = c.loop-k.columns in
    let inv = c.loop-k.invariant in
    let past : length old.due.items ≤ c.loop-k.k = omega (arith, c.len-k-end.ensures, old.due.ok.0) in
    subst (λ (groups : Groups). AreGroupPrices c.args.prices.now.items groups.starts.items groups.touches now.grouped.items) (sym inv.columns.groups_are) (λ g l. (told_all c.args.prices.now.items old now c.loop-k.k g past (inv.each g)).0 l)

pub returns-clause-marks : goal.returns-clause-marks
returns-clause-marks c =
    let old = c.args.columns.now in
    let past : length old.due.items ≤ c.loop-k.k = omega (arith, c.len-k-end.ensures, old.due.ok.0) in
    λ g. (told_all c.args.prices.now.items old c.loop-k.columns c.loop-k.k g past (c.loop-k.invariant.each g)).1

pub reprice_group-requires-clause-running : goal.reprice_group-requires-clause-running
reprice_group-requires-clause-running c =
    let old = c.args.columns.now in
    let now = c.loop-k.columns in
    let inv = c.loop-k.invariant in
    subst (λ (groups : Groups). AreGroupPrices c.args.prices.now.items groups.starts.items groups.touches now.running.items) (sym inv.columns.groups_are)
    (subst (λ v. AreGroupPrices c.args.prices.now.items old.groups.starts.items old.groups.touches v.items) (sym inv.running) c.requires.due.running)

pub returns-clause-running : goal.returns-clause-running
returns-clause-running c =
    let old = c.args.columns.now in
    let now = c.loop-k.columns in
    let inv = c.loop-k.invariant in
    subst (λ (groups : Groups). AreGroupPrices c.args.prices.now.items groups.starts.items groups.touches now.running.items) (sym inv.columns.groups_are)
    (subst (λ v. AreGroupPrices c.args.prices.now.items old.groups.starts.items old.groups.touches v.items) (sym inv.running) c.requires.due.running)
