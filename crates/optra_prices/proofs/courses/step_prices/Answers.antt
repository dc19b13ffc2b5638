use Rattle.std.proofs.Common.{◌≡◌, ℕ, List, length, sym, ap, ◌∙◌, subst, arith, rules, to_z, of_z}
use Rattle.std.specs.Prelude.{pos, ◌≤ℤ◌, FitsSigned}
use Rattle.std.specs.Int.{w64}
use Rattle.std.proofs.lemmas.Int.{ints, to_z-of_z}
use Rattle.optra_prices.specs.Steps.{step_length}
use Rattle.optra_prices.specs.Terms.{Setting, setting}
use Rattle.optra_prices.specs.Uses.{AreCounted, AreUses, lists_of, lists_in}
use Rattle.optra_prices.proofs.CourseLemmas.{counted_on}
use Rattle.optra_prices.specs.Columns.{PricesAllButDue}
use Rattle.optra_prices.proofs.RunningLemmas.{none_due}
use Rattle.optra_prices.proofs.StepCourseLemmas.{step_made}
use Rattle.optra_prices.proofs.courses.step_prices.Goals as goal

pub count_uses-requires-clause-counted : goal.count_uses-requires-clause-counted
count_uses-requires-clause-counted g c =
    let kept = c.args.kept.now in
    subst (λ (count : ℕ). AreCounted kept.columns.groups count (lists_in kept.counted.items) kept.levels.loads.uses) (sym c.requires.course.is.stand.count_is ∙ ap length (sym c.deref.ensures.value)) c.requires.course.is.counted

pub returns-clause-moved : goal.returns-clause-moved
returns-clause-moved g c =
    let net = c.args.inst.net.now in
    let f = c.args.rows.now in
    let s : Setting g.row.F-Row.Denot = setting net (g.F.RowFamily.rows_of f net) (g.F.RowFamily.rows_used f net) c.args.inst.bids.now c.args.node.now in
    let kept = c.args.kept.now in
    let is = c.requires.course.is in
    let used = c.count_uses.new.levels in
    let counted = c.count_uses.new.counted in
    let counts = c.in_ok-count_uses.ensures in
    let moves = c.in_ok-move_prices.ensures in
    let counted_is = subst (λ (count : ℕ). AreCounted kept.columns.groups count (lists_in counted.items) used.loads.uses) (ap length c.deref.ensures.value ∙ c.requires.course.is.stand.count_is) counts.counted in
    record {
      is = counted_on g.F.Row.Ord.cmp s kept c.move_prices.new.columns moves.columns c.move_prices.new.levels counted is moves.levels (subst (λ (us : List ℕ). AreCounted kept.columns.groups (length kept.tables.items) (lists_in counted.items) us) (sym moves.rest.uses) counted_is)
          (moves.prices.count ∙ ap (λ v. length v.items) counts.prices.prices) (moves.rest.capacities ∙ counts.prices.capacities) moves.grouped;
      due = moves.due;
    }

pub returns-clause-step : goal.returns-clause-step
returns-clause-step g c =
    let net = c.args.inst.net.now in
    let f = c.args.rows.now in
    let rows = g.F.RowFamily.rows_of f net in
    let proper = c.args.inst.proper in
    let s : Setting g.row.F-Row.Denot = setting net rows (g.F.RowFamily.rows_used f net) c.args.inst.bids.now c.args.node.now in
    let kept = c.args.kept.now in
    let used = c.count_uses.new.levels in
    let counts = c.in_ok-count_uses.ensures in
    let moves = c.in_ok-move_prices.ensures in
    let uses : AreUses kept.columns.groups (lists_of kept.standings.items) used.loads.uses = subst (λ (lists : List (List ℕ)). AreUses kept.columns.groups lists used.loads.uses) (counts.lists ∙ ap lists_of c.deref.ensures.value) counts.counted.uses_are in
    let fits : FitsSigned w64 c.step_length-by.result = search rules in
    let by = to_z w64 (of_z w64 c.step_length-by.result) in
    let is : by ≡ step_length c.args.inst.bids.now c.args.k = to_z-of_z w64 c.step_length-by.result fits ∙ c.step_length-by.ensures.value in
    let low : pos 1 ≤ℤ by = let a = c.step_length-by.ensures.range.0 in omega (arith, ints) in
    step_made g.F.Row.Ord.cmp g.met.F.Row.Ord.total g.met.F.Row.CodedRow.tells_apart s proper (λ kind leg usable. g.met.F.RowFamily.lists_rows f net kind leg usable) kept c.requires.course.is c.requires.course.is.numbering.ordered c.args.k by is low
    used c.move_prices.new.levels counts.prices.prices counts.prices.capacities counts.levels.use_count uses moves.levels.range moves.prices

pub move_prices-requires-clause-due : goal.move_prices-requires-clause-due
move_prices-requires-clause-due g c =
    let kept = c.args.kept.now in
    let course = c.requires.course in
    subst (λ v. PricesAllButDue v.items kept.columns) (sym c.in_ok-count_uses.ensures.prices.prices) (none_due kept.levels.prices.items kept.columns course.still course.running course.grouped)
