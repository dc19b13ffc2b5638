use Rattle.std.proofs.Common.{ℕ, List, length, take, sym, ap, ◌∙◌, subst, arith}
use Rattle.std.specs.Prelude.{All}
use Rattle.optra_node.specs.declared.Decision.{Decision}
use Rattle.optra_node.specs.Nodes.{IsFormedDecision}
use Rattle.optra_prices.specs.Courses.{HaveCapacities}
use Rattle.optra_prices.specs.Listings.{AddsZeros}
use Rattle.optra_prices.specs.Rooms.{IsDecided}
use Rattle.optra_prices.specs.Terms.{Setting, setting}
use Rattle.optra_prices.specs.Tables.{group_at}
use Rattle.optra_prices.specs.Uses.{lists_in}
use Rattle.optra_prices.proofs.AdmitLemmas.{extends_longer, capacities_before, prices_read}
use Rattle.optra_prices.proofs.AllowLemmas.{tables_kept}
use Rattle.optra_prices.proofs.UseLemmas.{none_counted}
use Rattle.optra_prices.proofs.courses.admit.Goals as goal

pub widen-requires-clause-few : goal.widen-requires-clause-few
widen-requires-clause-few g c =
    let kept = c.args.kept.now in
    let l = extends_longer kept.numbering.rows.items c.number_more.new.numbering.rows.items c.in_ok-number_more.ensures.extends in
    let n = c.requires.course.is.price_count in
    let e = ap length c.rows.ensures in
    let same = ap (λ v. length v.items) c.forget_paths.ensures.prices.prices in
    omega arith

pub widen-requires-clause-capacities : goal.widen-requires-clause-capacities
widen-requires-clause-capacities g c =
    let kept = c.args.kept.now in
    let forgot = c.forget_paths.new.levels in
    let keeps = c.forget_paths.ensures.prices in
    let rows = g.F.RowFamily.rows_of c.args.rows.now c.args.inst.net.now in
    let numbered = c.number_more.new.numbering.rows.items in
    let before = capacities_before rows kept.numbering.rows.items numbered (length kept.levels.prices.items) kept.levels.loads.capacities c.requires.course.is.price_count c.in_ok-number_more.ensures.extends c.requires.course.is.capacities in
    subst (λ (rs : List g.row.F-Row.Denot). HaveCapacities rows (take (length forgot.prices.items) rs) forgot.loads.capacities) (sym c.rows.ensures)
    (subst (λ v. HaveCapacities rows (take (length v.items) numbered) forgot.loads.capacities) (sym keeps.prices) (subst (λ (cs : List ℕ). HaveCapacities rows (take (length kept.levels.prices.items) numbered) cs) (sym keeps.capacities) before))

pub returns-clause-course : goal.returns-clause-course
returns-clause-course g c =
    let net = c.args.inst.net.now in
    let f = c.args.rows.now in
    let rows = g.F.RowFamily.rows_of f net in
    let s : Setting g.row.F-Row.Denot = setting net rows (g.F.RowFamily.rows_used f net) c.args.inst.bids.now c.args.node.now in
    let kept = c.args.kept.now in
    let numbering = c.number_more.new.numbering in
    let course = c.requires.course in
    let is = course.is in
    let more = c.in_ok-number_more.ensures in
    let wide = c.in_ok-widen.ensures in
    record {
      is = record {
        numbering = more.numbering;
        rows = more.rows;
        capacities = subst (λ (rs : List g.row.F-Row.Denot). HaveCapacities rows rs c.widen.new.levels.loads.capacities) c.rows.ensures wide.capacities;
        price_count = wide.count ∙ ap length c.rows.ensures;
        levels = wide.levels;
        counted = none_counted kept.columns.groups (length kept.tables.items) (lists_in c.forget_paths.new.counted.items) c.widen.new.levels.loads.uses (c.forget_paths.ensures.count ∙ is.counted.count_is) c.forget_paths.ensures.empty wide.unused;
        columns = is.columns;
        tables = tables_kept s (length s.bids) kept.numbering.rows.items numbering.rows.items kept.columns.groups kept.tables.items more.extends is.tables;
        stand = is.stand;
        zero = is.zero;
        holders = is.holders;
        decided = subst (λ (ds : List Decision). IsDecided net rows c.args.inst.bids.now numbering.rows.items ds c.tell_anew.new.decided) is.decided.decisions_are c.in_ok-tell_anew.ensures;
      };
      still = course.still;
      running = λ h l. course.running h l ∙ sym (prices_read kept.levels.prices.items c.widen.new.levels.prices.items (subst (λ v. AddsZeros v.items c.widen.new.levels.prices.items) c.forget_paths.ensures.prices.prices wide.prices) (group_at kept.columns.groups.starts.items kept.columns.groups.touches h));
      grouped = λ h l. course.grouped h l ∙ sym (prices_read kept.levels.prices.items c.widen.new.levels.prices.items (subst (λ v. AddsZeros v.items c.widen.new.levels.prices.items) c.forget_paths.ensures.prices.prices wide.prices) (group_at kept.columns.groups.starts.items kept.columns.groups.touches h));
    }

pub tell_anew-requires-clause-decisions : goal.tell_anew-requires-clause-decisions
tell_anew-requires-clause-decisions g c =
    let decided = c.requires.course.is.decided in
    subst (All (IsFormedDecision c.args.inst.net.now (length c.args.inst.bids.now))) (sym decided.decisions_are) decided.formed
