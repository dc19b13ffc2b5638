use Rattle.std.proofs.Common.{[], sym, subst, arith}
use Rattle.std.specs.Prelude.{All}
use Rattle.optra_prices.specs.Standings.{IsTermSize}
use Rattle.optra_prices.specs.Terms.{Setting, setting}
use Rattle.optra_prices.specs.declared.numbering.Standing.{Standing}
use Rattle.optra_prices.proofs.CourseLemmas.{zero_is_valued}
use Rattle.optra_prices.proofs.StandLemmas.{terms_small}
use Rattle.optra_prices.proofs.TableLemmas.{tables_sound}
use Rattle.optra_prices.proofs.courses.zero_value.Goals as goal

pub dual_value-requires-clause-small : goal.dual_value-requires-clause-small
dual_value-requires-clause-small g c =
    let net = c.args.inst.net.now in
    let f = c.args.rows.now in
    let s : Setting g.row.F-Row.Denot = setting net (g.F.RowFamily.rows_of f net) (g.F.RowFamily.rows_used f net) c.args.inst.bids.now c.args.node.now in
    let kept = c.args.kept.now in
    let is = c.requires.course.is in
    let sound = tables_sound s kept.numbering.rows.items kept.columns.groups kept.tables.items is.tables in
    subst (All (λ (x : Standing). IsTermSize x.term)) (sym c.deref.ensures.value) (terms_small kept.tables.items [] kept.zero.items sound (λ k d l. absurd (omega arith)) is.zero)

pub returns-clause-valuation : goal.returns-clause-valuation
returns-clause-valuation g c =
    let net = c.args.inst.net.now in
    let f = c.args.rows.now in
    let s : Setting g.row.F-Row.Denot = setting net (g.F.RowFamily.rows_of f net) (g.F.RowFamily.rows_used f net) c.args.inst.bids.now c.args.node.now in
    zero_is_valued g.F.Row.Ord.cmp s c.args.kept.now c.args.inst.proper c.tests_tell_allowed.ensures c.prices_by_used_rows.ensures c.requires.course.is
