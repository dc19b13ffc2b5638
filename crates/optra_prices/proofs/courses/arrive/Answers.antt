use Rattle.std.proofs.Common.{List, Bool, length, sym, ap, ◌∙◌, subst, arith, rules, to_z, of_z}
use Rattle.std.specs.Prelude.{All, ℤ, pos, ◌≤ℤ◌, FitsSigned}
use Rattle.std.specs.Int.{w64, w128}
use Rattle.std.proofs.lemmas.Int.{ints, to_z-of_z}
use Rattle.optra_prices.specs.Holders.{AreHolders, TellsFallen}
use Rattle.optra_prices.specs.Standings.{AllStand, AreTables, IsSound, IsTermSize, value_of}
use Rattle.optra_prices.specs.Tables.{AreGroupPrices, AreUpTo}
use Rattle.optra_prices.specs.Terms.{Setting, setting}
use Rattle.optra_prices.specs.Uses.{AreCounted, lists_in}
use Rattle.optra_prices.specs.declared.columns.Mark.{Mark}
use Rattle.optra_prices.specs.declared.numbering.BidTable.{BidTable}
use Rattle.optra_prices.specs.declared.numbering.Standing.{Standing}
use Rattle.optra_prices.proofs.CourseLemmas.{course_priced, own_columns}
use Rattle.optra_prices.proofs.LevelLemmas.{capacity_range}
use Rattle.optra_prices.proofs.NarrowLemmas.{columns_up}
use Rattle.optra_prices.proofs.RunningLemmas.{mid_running}
use Rattle.optra_prices.proofs.StandLemmas.{terms_small}
use Rattle.optra_prices.proofs.TableLemmas.{tables_sound}
use Rattle.optra_prices.proofs.courses.arrive.Goals as goal

pub tell_fallen-requires-clause-columns : goal.tell_fallen-requires-clause-columns
tell_fallen-requires-clause-columns g c = own_columns c.args.kept.now.columns.groups c.reprice.new.columns c.reprice.ensures.columns

pub tell_fallen-requires-clause-holders : goal.tell_fallen-requires-clause-holders
tell_fallen-requires-clause-holders g c = subst (λ (ts : List BidTable). AreHolders ts c.args.kept.now.holders) (sym c.deref.ensures.value) c.requires.moved.is.holders

pub settle-requires-clause-fallen : goal.settle-requires-clause-fallen
settle-requires-clause-fallen g c =
    let marks = c.reprice.new.columns.marks.items in
    let fallen = c.tell_fallen.new.fallen.items in
    let tables = c.args.kept.now.tables.items in
    let told : TellsFallen marks tables fallen = subst (λ (ts : List BidTable). TellsFallen marks ts fallen) c.deref.ensures.value c.in_ok-tell_fallen.ensures in
    subst (λ (ts : List BidTable). TellsFallen c.deref-4.result.now ts c.deref-5.result.now) (sym c.deref-2.ensures.value)
    (subst (λ (ms : List Mark). TellsFallen ms tables c.deref-5.result.now) (sym c.deref-4.ensures.value) (subst (λ (bs : List Bool). TellsFallen marks tables bs) (sym c.deref-5.ensures.value) told))

pub settle-requires-clause-sound : goal.settle-requires-clause-sound
settle-requires-clause-sound g c =
    let net = c.args.inst.net.now in
    let f = c.args.rows.now in
    let s : Setting g.row.F-Row.Denot = setting net (g.F.RowFamily.rows_of f net) (g.F.RowFamily.rows_used f net) c.args.inst.bids.now c.args.node.now in
    let kept = c.args.kept.now in
    subst (All IsSound) (sym c.deref-2.ensures.value) (tables_sound s kept.numbering.rows.items kept.columns.groups kept.tables.items c.requires.moved.is.tables)

pub dual_value-kept-requires-clause-capacity : goal.dual_value-kept-requires-clause-capacity
dual_value-kept-requires-clause-capacity g c =
    let levels = c.args.kept.now.levels in
    let is = c.requires.moved.is.levels in
    let range = capacity_range levels.prices.items levels.loads.capacities (length levels.prices.items) is.range is.small in
    let a = is.capacity_is in
    let b = range.0 in
    let d = range.1 in
    let n = levels.listed.ok in
    let m = is.mark_count in
    let low : pos 0 ≤ℤ levels.capacity = omega (arith, ints) in
    let high : levels.capacity ≤ℤ pos 2417851639229258349412352000000000000 = omega (arith, ints) in
    let fits : FitsSigned w128 levels.capacity = search rules in
    simp (to_z-of_z w128 levels.capacity fits) (low, high)

pub dual_value-kept-requires-clause-small : goal.dual_value-kept-requires-clause-small
dual_value-kept-requires-clause-small g c =
    let net = c.args.inst.net.now in
    let f = c.args.rows.now in
    let s : Setting g.row.F-Row.Denot = setting net (g.F.RowFamily.rows_of f net) (g.F.RowFamily.rows_used f net) c.args.inst.bids.now c.args.node.now in
    let kept = c.args.kept.now in
    let tables = kept.tables.items in
    let grouped = c.reprice.new.columns.grouped.items in
    let standings = c.settle.new.standings.items in
    let sound = tables_sound s kept.numbering.rows.items kept.columns.groups tables c.requires.moved.is.tables in
    let stand : AllStand tables grouped standings =
    subst (λ (ts : List BidTable). AllStand ts grouped standings) c.deref-2.ensures.value (subst (λ (ps : List ℤ). AllStand c.deref-2.result.now ps standings) c.deref-3.ensures.value c.in_ok-settle.ensures)
    in
    subst (All (λ (x : Standing). IsTermSize x.term)) (sym c.deref-6.ensures.value) (terms_small tables grouped standings sound c.reprice.ensures.columns.range stand)

pub returns-clause-priced : goal.returns-clause-priced
returns-clause-priced g c =
    let net = c.args.inst.net.now in
    let f = c.args.rows.now in
    let cmp = g.F.Row.Ord.cmp in
    let s : Setting g.row.F-Row.Denot = setting net (g.F.RowFamily.rows_of f net) (g.F.RowFamily.rows_used f net) c.args.inst.bids.now c.args.node.now in
    let kept = c.args.kept.now in
    let tables = kept.tables.items in
    let prices = kept.levels.prices.items in
    let priced = c.reprice.new.columns in
    let columns = c.still.new.columns in
    let standings = c.settle.new.standings.items in
    let is = c.requires.moved.is in
    let stand : AllStand tables priced.grouped.items standings =
    subst (λ (ts : List BidTable). AllStand ts priced.grouped.items standings) c.deref-2.ensures.value (subst (λ (ps : List ℤ). AllStand c.deref-2.result.now ps standings) c.deref-3.ensures.value c.in_ok-settle.ensures)
    in
    let grouped : AreGroupPrices prices priced.groups.starts.items priced.groups.touches priced.grouped.items =
    c.reprice.ensures.prices
    in
    let same = c.still.ensures.columns.groups_are in
    let fits : FitsSigned w128 c.dual_value-kept.result = search rules in
    let whole : FitsSigned w128 kept.levels.capacity = search rules in
    course_priced cmp g.met.F.Row.Ord.total g.met.F.Row.CodedRow.tells_apart s _ is.numbering.ordered c.args.inst.proper c.tests_tell_allowed.ensures c.prices_by_used_rows.ensures
    (record {
      is = record {
        numbering = is.numbering;
        rows = is.rows;
        capacities = is.capacities;
        price_count = is.price_count;
        levels = is.levels;
        counted = subst (λ groups. AreCounted groups (length tables) (lists_in kept.counted.items) kept.levels.loads.uses) (sym (same ∙ c.reprice.ensures.columns.groups_are)) is.counted;
        columns = own_columns priced.groups columns c.still.ensures.columns;
        tables = subst (λ groups. AreTables s (length s.bids) kept.numbering.rows.items groups tables) (sym (same ∙ c.reprice.ensures.columns.groups_are)) is.tables;
        stand = subst (λ v. AllStand tables v.items standings) (sym c.still.ensures.same) stand;
        zero = is.zero;
        holders = is.holders;
        decided = is.decided;
      };
      still = c.still.ensures.still;
      running = mid_running prices priced columns same c.still.ensures.running c.reprice.ensures.running;
      grouped = subst (λ groups. AreGroupPrices prices groups.starts.items groups.touches columns.grouped.items) (sym same) (subst (λ v. AreGroupPrices prices priced.groups.starts.items priced.groups.touches v.items) (sym c.still.ensures.same) grouped);
    })
    (to_z-of_z w128 c.dual_value-kept.result fits ∙ c.dual_value-kept.ensures ∙ ap (λ (ss : List Standing). value_of (to_z w128 (of_z w128 kept.levels.capacity)) ss) c.deref-6.ensures.value ∙ ap (λ (z : ℤ). value_of z standings) (to_z-of_z w128 kept.levels.capacity whole))

pub settle-requires-clause-grouped : goal.settle-requires-clause-grouped
settle-requires-clause-grouped g c =
    let columns = c.reprice.new.columns in
    let fits : FitsSigned w64 columns.highest = search rules in
    subst (λ (most : ℤ). AreUpTo most c.deref-3.result.now) (sym (to_z-of_z w64 columns.highest fits)) (subst (AreUpTo columns.highest) (sym c.deref-3.ensures.value) (columns_up c.args.kept.now.columns.groups columns c.reprice.ensures.columns))
