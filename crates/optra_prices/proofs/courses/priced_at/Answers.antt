use Rattle.std.proofs.Common.{List, length, sym, ap, ◌∙◌, subst, arith, rules, to_z, of_z}
use Rattle.std.specs.Prelude.{All, ℤ, pos, ◌≤ℤ◌, FitsSigned}
use Rattle.std.specs.Int.{w128}
use Rattle.std.proofs.lemmas.Int.{ints, to_z-of_z}
use Rattle.optra_prices.specs.Standings.{IsTermSize, valuation_of}
use Rattle.optra_prices.specs.Terms.{Setting, setting}
use Rattle.optra_prices.specs.declared.numbering.BidTable.{BidTable}
use Rattle.optra_prices.specs.declared.numbering.Standing.{Standing}
use Rattle.optra_prices.proofs.CourseLemmas.{capacity_is}
use Rattle.optra_prices.proofs.LevelLemmas.{capacity_range}
use Rattle.optra_prices.proofs.StandLemmas.{terms_small}
use Rattle.optra_prices.proofs.TableLemmas.{tables_sound}
use Rattle.optra_prices.proofs.courses.priced_at.Goals as goal

pub assemble-requires-clause-capacity : goal.assemble-requires-clause-capacity
assemble-requires-clause-capacity g c =
    let levels = c.args.kept.now.levels in
    let is = c.requires.priced.course.is.levels in
    let range = capacity_range levels.prices.items levels.loads.capacities (length levels.prices.items) is.range is.small in
    let a = is.capacity_is in
    let b = range.0 in
    let d = range.1 in
    let n = levels.listed.ok in
    let m = is.mark_count in
    let low : pos 0 ≤ℤ levels.capacity = omega (arith, ints) in
    let high : levels.capacity ≤ℤ pos 2417851639229258349412352000000000000 = omega (arith, ints) in
    let fits : FitsSigned w128 levels.capacity = search rules in
    simp (to_z-of_z w128 levels.capacity fits) (low, high)

pub assemble-requires-clause-small : goal.assemble-requires-clause-small
assemble-requires-clause-small g c =
    let net = c.args.inst.net.now in
    let f = c.args.rows.now in
    let s : Setting g.row.F-Row.Denot = setting net (g.F.RowFamily.rows_of f net) (g.F.RowFamily.rows_used f net) c.args.inst.bids.now c.args.node.now in
    let kept = c.args.kept.now in
    let is = c.requires.priced.course.is in
    let sound = tables_sound s kept.numbering.rows.items kept.columns.groups kept.tables.items is.tables in
    subst (All (λ (x : Standing). IsTermSize x.term)) (sym c.deref-2.ensures.value) (terms_small kept.tables.items kept.columns.grouped.items kept.standings.items sound is.columns.range is.stand)

pub returns-clause-dual : goal.returns-clause-dual
returns-clause-dual g c =
    let net = c.args.inst.net.now in
    let f = c.args.rows.now in
    let s : Setting g.row.F-Row.Denot = setting net (g.F.RowFamily.rows_of f net) (g.F.RowFamily.rows_used f net) c.args.inst.bids.now c.args.node.now in
    let kept = c.args.kept.now in
    let is = c.requires.priced.course.is in
    let whole : FitsSigned w128 kept.levels.capacity = search rules in
    let capacity = to_z-of_z w128 kept.levels.capacity whole ∙ is.levels.capacity_is ∙ capacity_is g.F.Row.Ord.cmp g.met.F.Row.Ord.total g.met.F.Row.CodedRow.tells_apart s kept is.numbering.ordered is in
    c.in_ok-dual.ensures ∙ ap (λ (ts : List BidTable). valuation_of (to_z w128 (of_z w128 kept.levels.capacity)) ts c.deref-2.result.now) c.deref.ensures.value
    ∙ ap (λ (ss : List Standing). valuation_of (to_z w128 (of_z w128 kept.levels.capacity)) kept.tables.items ss) c.deref-2.ensures.value
    ∙ ap (λ (z : ℤ). valuation_of z kept.tables.items kept.standings.items) capacity
