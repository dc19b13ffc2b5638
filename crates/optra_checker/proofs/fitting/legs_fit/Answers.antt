use Rattle.std.proofs.Common.{◌+◌, map, sym, ◌∙◌, ap, refl, arith, false}
use Rattle.std.proofs.lemmas.List.{take_all}
use Rattle.optra_walk.specs.declared.Action.TheVariants.{Pass}
use Rattle.optra_walk.specs.declared.Leg.{Leg}
use Rattle.optra_walk.specs.Families.{load_of, total_of}
use Rattle.optra_open.proofs.AtLemmas.{no_true, not_both}
use Rattle.optra_checker.proofs.FitLemmas.{within_below, within_same, legs_below, legs_more}
use Rattle.optra_checker.proofs.fitting.legs_fit.Goals as goal

abbrev any_leg : Leg
any_leg = record { track = record { 0 = 0 }; depart = 0; from_halt = false; action = Pass }

pub returns-then-not-branch-clause-within : goal.returns-then-not-branch-clause-within
returns-then-not-branch-clause-within g c =
    let rows = g.F.RowFamily.rows_of c.args.rows.now c.args.net.now in
    let total = total_of g.F.Row.Ord.cmp in
    let kind = c.args.kind in
    let legs = c.args.legs.now in (
      λ t. absurd (no_true t),
      λ within. absurd (not_both c.in_ok-leg_fits.field-0 c.if-not-branch.true (c.in_ok-leg_fits.ensures.within.1
          (within_below rows (total c.leg_fits.new.totals.sums) (λ q. total c.args.totals.now.sums q + load_of rows q (map (λ (leg : Leg). (kind, leg)) legs))
          (λ q. let a = c.in_ok-leg_fits.ensures.added q in let b = c.legs.invariant.added q in let l = legs_below rows kind q legs c.legs.leg-index any_leg c.legs-test.true in omega arith) within))),
    )

pub legs-preserved : goal.legs-preserved
legs-preserved g c =
    let rows = g.F.RowFamily.rows_of c.args.rows.now c.args.net.now in
    record {
      added = λ q. let a = c.in_ok-leg_fits.ensures.added q in let b = c.legs.invariant.added q in let m = legs_more rows c.args.kind q c.args.legs.now c.legs.leg-index any_leg c.legs-test.true in omega (arith, a, b, m);
      within = c.in_ok-leg_fits.ensures.within.0 c.if-not-branch.false;
    }

pub returns-clause-within : goal.returns-clause-within
returns-clause-within g c =
    let rows = g.F.RowFamily.rows_of c.args.rows.now c.args.net.now in
    let total = total_of g.F.Row.Ord.cmp in
    let kind = c.args.kind in
    let legs = c.args.legs.now in
    let all = take_all c.legs.leg-index legs c.legs-test.false in (
      λ _. within_same rows (λ q. total c.args.totals.now.sums q + load_of rows q (map (λ (leg : Leg). (kind, leg)) legs)) (total c.legs.totals.sums)
          (λ q. sym (c.legs.invariant.added q ∙ ap (λ ls. total c.args.totals.now.sums q + load_of rows q (map (λ (leg : Leg). (kind, leg)) ls)) all)) c.legs.invariant.within,
      λ _. refl,
    )

pub leg_fits-requires-clause-usable : goal.leg_fits-requires-clause-usable
leg_fits-requires-clause-usable g c = c.requires.usable c.legs.leg-index any_leg c.legs-test.true

pub leg_fits-requires-clause-within : goal.leg_fits-requires-clause-within
leg_fits-requires-clause-within g c = c.legs.invariant.within

pub returns-then-not-branch-clause-added : goal.returns-then-not-branch-clause-added
returns-then-not-branch-clause-added g c t = absurd (no_true t)
