use Rattle.std.proofs.Common.{List, get_or, sym, subst, arith, rules, ℤ, pos}
use Rattle.std.specs.Prelude.{FitsSigned, neg_ℤ}
use Rattle.std.specs.Int.{w64}
use Rattle.std.proofs.lemmas.Int.{ints, to_z-of_z}
use Rattle.optra_bid.specs.Specs.{IsBetween}
use Rattle.optra_prices.specs.ArcTerms.{ArcTerm}
use Rattle.optra_prices.specs.Standings.{IsMost}
use Rattle.optra_prices.specs.Tables.{no_arc}
use Rattle.optra_prices.specs.declared.narrow_arc.NarrowArc.{NarrowArc}
use Rattle.optra_prices.proofs.MakingLemmas.{between_thousandths, covers_all}
use Rattle.optra_prices.proofs.NarrowArcLemmas.{value_narrow}
use Rattle.optra_prices.proofs.tables.most_of.Goals as goal

abbrev no_narrow : NarrowArc
no_narrow = record { mark = 0; cents = pos 0 }

pub loop-k-init : goal.loop-k-init
loop-k-init c =
    let narrow = c.arcs.inside.narrow.now in
    let most = c.thousandths-most.result in
    let fits : FitsSigned w64 most = search rules in
    let same = sym (to_z-of_z w64 most fits) in
    let is = c.thousandths-most.ensures in
    let range : IsMost most = subst IsMost (sym is) (omega (arith, ints), omega (arith, ints)) in
    record {
      range = subst IsMost same range;
      values = λ j l. subst (λ (z : ℤ). IsBetween (neg_ℤ z) z (get_or c.args.arcs.now j no_arc).value) same
          (subst (λ (arcs : List ArcTerm). IsBetween (neg_ℤ most) most (get_or arcs j no_arc).value) c.arcs.view_is
          (subst (λ (z : ℤ). IsBetween (neg_ℤ most) most z) (sym (value_narrow narrow c.arcs.inside.wide.now j no_narrow l))
          (between_thousandths (get_or narrow j no_narrow).cents most c.most_cents.result (c.most_cents.ensures j no_narrow l) is)));
    }

pub returns : goal.returns
returns c = covers_all _ c.args.arcs.now c.loop-k.invariant.range (λ k l. c.loop-k.invariant.values k (omega arith))
