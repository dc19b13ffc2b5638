use Rattle.std.proofs.Common.{◌∙◌, ◌+◌, ℕ, List, length, get_or, take, sym, ap, subst, arith}
use Rattle.std.proofs.lemmas.List.{take_all, length-set}
use Rattle.optra_prices.specs.declared.columns.Mark.{Mark}
use Rattle.optra_prices.specs.declared.columns.Mark.TheVariants.{Still}
use Rattle.optra_prices.proofs.ColumnLemmas.{IsStillOrLeft, still_next}
use Rattle.optra_prices.proofs.columns.still_groups.Goals as goal

pub loop-g-preserved : goal.loop-g-preserved
loop-g-preserved c =
    let groups = c.args.groups.now in
    let i = c.loop-g.g-index in
    let now = c.loop-g.marks.items in
    let g = get_or groups i 0 in
    record {
      count = ap length c.still_group.ensures ∙ length-set now g Still ∙ c.loop-g.invariant.count;
      still = λ h. subst (λ (marks : List Mark). IsStillOrLeft c.args.marks.now.items (take (i + 1) groups) marks h) (sym c.still_group.ensures) (still_next c.args.marks.now.items now groups i 0 h c.loop-g-test.true (c.loop-g.invariant.still h));
    }

pub returns-clause-still : goal.returns-clause-still
returns-clause-still c =
    let groups = c.args.groups.now in
    let all = take_all c.loop-g.g-index groups (omega arith) in
    λ g. subst (λ (gone : List ℕ). IsStillOrLeft c.args.marks.now.items gone c.loop-g.marks.items g) all (c.loop-g.invariant.still g)
