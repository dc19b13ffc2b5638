use Rattle.std.proofs.Common.{◌≤◌, ℕ, List, false, length, replicate, get_or, sym, ◌∙◌, subst, arith}
use Rattle.std.proofs.lemmas.List.{length-replicate}
use Rattle.optra_prices.specs.Holders.{AreToldTo, TellsGroup}
use Rattle.optra_prices.specs.declared.columns.Mark.{Mark}
use Rattle.optra_prices.proofs.HolderLemmas.{TellsBelow, told_still, all_told, tells_none, tells_more, tells_all}
use Rattle.optra_prices.proofs.holders.tell_fallen.Goals as goal

pub loop-g-init : goal.loop-g-init
loop-g-init c =
    let none = replicate (length c.args.tables.now) false in
    record {
      told = λ number l. absurd (omega arith);
      below = subst (TellsBelow 0 c.args.columns.now.marks.items c.args.columns.now.due.items c.args.holders.now none) (sym c.in_ok-tell_none.ensures) (tells_none c.args.columns.now.marks.items c.args.columns.now.due.items c.args.holders.now none);
    }

pub told_up_to-first-requires : goal.told_up_to-first-requires
told_up_to-first-requires c = subst (AreToldTo c.loop-g.first) (sym c.deref.ensures.value) c.loop-g.invariant.told

pub loop-g-preserved : goal.loop-g-preserved
loop-g-preserved c =
    let columns = c.args.columns.now in
    let marks = columns.marks.items in
    let n = c.loop-g.g-index in
    let tells =
    subst (λ (due : List ℕ). TellsGroup marks c.args.holders.now (get_or due n 0) c.loop-g.fallen.items c.tell_group.new.fallen.items) c.deref-g-items.ensures.value
    (subst (λ (ms : List Mark). TellsGroup ms c.args.holders.now (get_or c.deref-g-items.result.now n 0) c.loop-g.fallen.items c.tell_group.new.fallen.items) c.deref-in-loop-g.ensures.value c.tell_group.ensures)
    in
    let told = subst (AreToldTo c.told_up_to-first.result) c.deref.ensures.value c.told_up_to-first.ensures in
    record {
      told = told_still c.told_up_to-first.result c.loop-g.fallen.items c.tell_group.new.fallen.items tells.keeps told;
      below = tells_more n marks columns.due.items c.args.holders.now (replicate (length c.args.tables.now) false) c.loop-g.fallen.items c.tell_group.new.fallen.items c.loop-g.invariant.below tells;
    }

pub returns-then-first-tables : goal.returns-then-first-tables
returns-then-first-tables c =
    let told = subst (AreToldTo c.told_up_to-first.result) c.deref.ensures.value c.told_up_to-first.ensures in
    let count = c.loop-g.invariant.below.keeps.count ∙ length-replicate (length c.args.tables.now) false in
    let past : length c.args.tables.now ≤ c.told_up_to-first.result = let t = c.if-first-tables.true in omega arith in
    all_told c.args.columns.now.marks.items c.args.tables.now c.told_up_to-first.result c.loop-g.fallen.items count past told

pub returns : goal.returns
returns c =
    let columns = c.args.columns.now in
    let past : length columns.due.items ≤ c.loop-g.g-index = omega arith in
    tells_all c.loop-g.g-index columns.marks.items columns.due.items c.args.tables.now c.args.holders.now (replicate (length c.args.tables.now) false) c.loop-g.fallen.items past (length-replicate (length c.args.tables.now) false)
    c.requires.columns.listed c.requires.holders c.loop-g.invariant.below
