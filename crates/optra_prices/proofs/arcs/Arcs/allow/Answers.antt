use Rattle.std.proofs.Common.{◌≡◌, ◌<◌, ◌∙◌, length, sym, ap, subst, arith, set, get_or, List, rules}
use Rattle.std.specs.Prelude.{ℤ, pos, ◌*ℤ◌}
use Rattle.optra_prices.specs.ArcTerms.{ArcTerm}
use Rattle.optra_prices.specs.NarrowArcs.{term_of, with_mark}
use Rattle.optra_prices.specs.Tables.{no_arc}
use Rattle.optra_prices.proofs.NarrowArcLemmas.{closed_most, marks_narrow, marks_wide, same_arc, within_wide}
use Rattle.optra_prices.proofs.arcs.Arcs.allow.Goals as goal

pub returns-then-k-count : goal.returns-then-k-count
returns-then-k-count c =
    let i = c.self.inside in
    let arc = c.index.result.now in
    let cents : c.new.result.cents ≡ arc.cents = search rules in
    let marked = same_arc (term_of c.new.result) (with_mark (term_of arc) c.args.allowed) (ap (λ (z : ℤ). pos 1000 *ℤ z) cents) (c.new.ensures.group ∙ c.group.ensures) c.new.ensures.allowed in
    marks_narrow i.narrow.items i.wide.items c.args.k c.args.allowed arc c.new.result (let l = c.if-k-count.true in let e = c.len-count.ensures in omega arith) c.index.ensures marked
    ∙ ap (λ (xs : List ArcTerm). set xs c.args.k (with_mark (get_or xs c.args.k no_arc) c.args.allowed)) c.self.view_is

pub returns-else-k-count : goal.returns-else-k-count
returns-else-k-count c =
    let i = c.self.inside in
    let arc = c.index_mut-else-k-count.result.now in
    let long : length i.narrow.items ≡ c.len-count.result = grind arith in
    let within = within_wide i.narrow.items i.wide.items c.len-count.result c.args.k long c.if-k-count.false (subst (λ (xs : List ArcTerm). c.args.k < length xs) (sym c.self.view_is) c.requires) in
    marks_wide i.narrow.items i.wide.items c.len-count.result c.args.k c.args.allowed arc c.allow.new.self long c.if-k-count.false within c.index_mut-else-k-count.ensures.value c.allow.ensures
    ∙ ap (λ (xs : List ArcTerm). set xs c.args.k (with_mark (get_or xs c.args.k no_arc) c.args.allowed)) c.self.view_is

pub closed_after-self-inside-requires-clause-few : goal.closed_after-self-inside-requires-clause-few
closed_after-self-inside-requires-clause-few c =
    let i = c.self.inside in
    let is = c.self.invariant.closed_is in
    let most = closed_most i.narrow.items in
    omega (arith, i.narrow.ok.0)
