use Rattle.std.proofs.Common.{◌≡◌, ◌≢◌, sym, ◌∙◌, subst, arith}
use Rattle.std.proofs.lemmas.Bool.{ne_eqb, false≢true}
use Rattle.optra_prices.specs.NarrowArcs.{AreAllowed, closed_in}
use Rattle.optra_prices.proofs.NarrowArcLemmas.{allowed_both, allowed_narrow, allowed_wide, none_closed, open_none}
use Rattle.optra_prices.proofs.arc_slice.ArcSlice.are_open.Goals as goal

pub returns-then-self-eq0 : goal.returns-then-self-eq0
returns-then-self-eq0 c =
    let narrow = c.self.inside.narrow.now in
    let wide = c.self.inside.wide.now in
    let same = c.self.view_is in
    let none : closed_in narrow ≡ 0 = omega (arith, c.self.invariant.closed_is, c.if-self-eq0.true) in (
      λ yes. subst AreAllowed same (allowed_both narrow wide (none_closed narrow none) (c.are_allowed.ensures.0 yes)),
      λ all. c.are_allowed.ensures.1 (allowed_wide narrow wide (subst AreAllowed (sym same) all)),
    )

pub returns-else-self-eq0 : goal.returns-else-self-eq0
returns-else-self-eq0 c =
    let narrow = c.self.inside.narrow.now in
    let wide = c.self.inside.wide.now in
    let same = c.self.view_is in
    let some : c.self.inside.closed ≢ 0 = omega (arith, c.if-self-eq0.false) in (
      λ yes. absurd (false≢true (sym (ne_eqb c.self.inside.closed 0 some) ∙ yes)),
      λ all. absurd (let none = open_none narrow (allowed_narrow narrow wide (subst AreAllowed (sym same) all)) in omega (arith, c.self.invariant.closed_is, none, some)),
    )
