use Rattle.std.proofs.Common.{ℕ, List, length, refl, sym, ap, ◌∙◌, subst}
use Rattle.std.proofs.lemmas.Result.{IfOk-weaker}
use Rattle.optra_prices.specs.Columns.{AreRunning}
use Rattle.optra_prices.specs.Courses.{replies_at}
use Rattle.optra_prices.specs.Overfull.{AreOverfilled, ListsAbove}
use Rattle.optra_prices.specs.Tables.{AreGroupPrices}
use Rattle.optra_prices.specs.Terms.{Setting, setting}
use Rattle.optra_prices.specs.Uses.{AreCounted, AreUses, lists_of, lists_in}
use Rattle.optra_prices.proofs.CourseLemmas.{counted_on}
use Rattle.optra_prices.proofs.PathLemmas.{ok_anyway}
use Rattle.optra_prices.proofs.StepCourseLemmas.{overfilled}
use Rattle.optra_prices.proofs.overfull.overfull_rows.Goals as goal

pub count_uses-requires-clause-counted : goal.count_uses-requires-clause-counted
count_uses-requires-clause-counted g c =
    let kept = c.args.kept.now in
    subst (λ (count : ℕ). AreCounted kept.columns.groups count (lists_in kept.counted.items) kept.levels.loads.uses) (sym c.requires.is.stand.count_is ∙ ap length (sym c.deref.ensures.value)) c.requires.is.counted

pub returns-clause-kept : goal.returns-clause-kept
returns-clause-kept g c =
    let net = c.args.inst.net.now in
    let f = c.args.rows.now in
    let s : Setting g.row.F-Row.Denot = setting net (g.F.RowFamily.rows_of f net) (g.F.RowFamily.rows_used f net) c.args.inst.bids.now c.args.node.now in
    let kept = c.args.kept.now in
    let is = c.requires.is in
    let used = c.count_uses.new.levels in
    let counted = c.count_uses.new.counted in
    let counts = c.in_ok-count_uses.ensures in
    let counted_is = subst (λ (count : ℕ). AreCounted kept.columns.groups count (lists_in counted.items) used.loads.uses) (ap length c.deref.ensures.value ∙ c.requires.is.stand.count_is) counts.counted in
    ok_anyway c.rows_above.result (record {
      is = counted_on g.F.Row.Ord.cmp s kept kept.columns is.columns used counted is counts.levels counted_is (ap (λ v. length v.items) counts.prices.prices) counts.prices.capacities refl;
      still = c.requires.still;
      running = subst (λ prices. AreRunning prices.items kept.columns) (sym counts.prices.prices) c.requires.running;
      grouped = subst (λ prices. AreGroupPrices prices.items kept.columns.groups.starts.items kept.columns.groups.touches kept.columns.grouped.items) (sym counts.prices.prices) c.requires.grouped;
    })

pub returns-clause-rows : goal.returns-clause-rows
returns-clause-rows g c =
    let net = c.args.inst.net.now in
    let f = c.args.rows.now in
    let rows = g.F.RowFamily.rows_of f net in
    let proper = c.args.inst.proper in
    let s : Setting g.row.F-Row.Denot = setting net rows (g.F.RowFamily.rows_used f net) c.args.inst.bids.now c.args.node.now in
    let kept = c.args.kept.now in
    let used = c.count_uses.new.levels in
    let counts = c.in_ok-count_uses.ensures in
    let uses : AreUses kept.columns.groups (lists_of kept.standings.items) used.loads.uses = subst (λ (lists : List (List ℕ)). AreUses kept.columns.groups lists used.loads.uses) (counts.lists ∙ ap lists_of c.deref.ensures.value) counts.counted.uses_are in
    IfOk-weaker c.rows_above.result (λ listed. ListsAbove c.rows.result.now.items used listed.items) (λ listed. AreOverfilled rows c.args.inst.bids.now (replies_at kept) listed.items)
    (λ listed above. overfilled g.F.Row.Ord.cmp g.met.F.Row.Ord.total g.met.F.Row.CodedRow.tells_apart s proper (λ kind leg usable. g.met.F.RowFamily.lists_rows f net kind leg usable) kept c.requires.is used
    counts.prices.prices counts.prices.capacities counts.levels.use_count uses listed.items (subst (λ (numbered : List g.row.F-Row.Denot). ListsAbove numbered used listed.items) c.rows.ensures above))
    c.rows_above.ensures
