use Rattle.std.proofs.Common.{◌≡◌, List, [], true, length, refl, sym, ap, ◌∙◌, subst}
use Rattle.std.specs.Prelude.{All, pos}
use Rattle.std.proofs.lemmas.List.{length-replicate}
use Rattle.optra_prices.specs.Courses.{HaveCapacities}
use Rattle.optra_prices.specs.Holders.{AreHolders}
use Rattle.optra_prices.specs.Standings.{IsSound, AllStand, AreCopies, AreTables}
use Rattle.optra_prices.specs.Tables.{AreGroupPrices}
use Rattle.optra_prices.specs.Terms.{Setting, setting}
use Rattle.optra_prices.specs.Uses.{AreEmpty, lists_in}
use Rattle.optra_prices.specs.declared.numbering.BidTable.{BidTable}
use Rattle.optra_prices.proofs.CourseLemmas.{own_columns}
use Rattle.optra_prices.proofs.KeepLemmas.{free_groups, free_listed}
use Rattle.optra_prices.proofs.StandLemmas.{copies_stand, stand_free}
use Rattle.optra_prices.proofs.TableLemmas.{tables_sound}
use Rattle.optra_prices.proofs.UseLemmas.{none_counted, empty_all}
use Rattle.optra_prices.proofs.keeping.keep_arcs.Goals as goal

pub decided_root-requires-clause-count : goal.decided_root-requires-clause-count
decided_root-requires-clause-count g c =
    let free = c.in_ok-levels.ensures in
    free.levels.use_count ∙ ap length free.prices ∙ length-replicate (length c.rows.result.now.items) (pos 0) ∙ ap length c.rows.ensures

pub decided_root-requires-clause-capacities : goal.decided_root-requires-clause-capacities
decided_root-requires-clause-capacities g c =
    let rows = g.F.RowFamily.rows_of c.args.rows.now c.args.inst.net.now in
    subst (λ (rs : List g.row.F-Row.Denot). HaveCapacities rows rs c.in_ok-levels.levels.loads.capacities) c.rows.ensures c.in_ok-levels.ensures.capacities

pub decided_root-requires-clause-tables : goal.decided_root-requires-clause-tables
decided_root-requires-clause-tables g c = c.in_ok-made.ensures.tables

pub first_known-requires-clause-sound : goal.first_known-requires-clause-sound
first_known-requires-clause-sound g c =
    let net = c.args.inst.net.now in
    let f = c.args.rows.now in
    let s : Setting g.row.F-Row.Denot = setting net (g.F.RowFamily.rows_of f net) (g.F.RowFamily.rows_used f net) c.args.inst.bids.now [] in
    let making = c.in_ok-made.made in
    subst (All IsSound) (sym c.deref.ensures.value) (tables_sound s making.numbering.rows.items making.groups c.decided_root.new.tables.items c.in_ok-decided.ensures.tables)

pub returns : goal.returns
returns g c =
    let net = c.args.inst.net.now in
    let f = c.args.rows.now in
    let rows = g.F.RowFamily.rows_of f net in
    let s : Setting g.row.F-Row.Denot = setting net rows (g.F.RowFamily.rows_used f net) c.args.inst.bids.now [] in
    let making = c.in_ok-made.made in
    let numbered = making.numbering.rows.items in
    let is = c.in_ok-made.ensures in
    let tables = c.decided_root.new.tables.items in
    let tables_at : AreTables s (length s.bids) numbered making.groups tables = c.in_ok-decided.ensures.tables in
    let known = c.in_ok-known.known in
    let zero = known.zero.items in
    let copies = known.standings.items in
    let columns = c.in_ok-columns.columns in
    let made = c.in_ok-columns.ensures in
    let free = c.in_ok-levels.ensures in
    let levels = c.in_ok-levels.levels in
    let none = length c.rows.result.now.items in
    let stand : AllStand tables [] zero = subst (λ (ts : List BidTable). AllStand ts [] zero) c.deref.ensures.value c.in_ok-known.ensures.zero in
    let same : AreCopies zero copies = c.in_ok-known.ensures.standings in
    let groups = made.columns.groups_are in
    let uncounted = c.in_ok-known.ensures.counted in
    let counted_count : length (lists_in known.counted.items) ≡ length tables = ap length uncounted ∙ length-replicate (length c.deref.result.now) [] ∙ ap length c.deref.ensures.value in
    let counted_empty = subst AreEmpty (sym uncounted) (empty_all _) in
    let prices : AreGroupPrices [] columns.groups.starts.items columns.groups.touches columns.running.items = subst (λ gs. AreGroupPrices [] gs.starts.items gs.touches columns.running.items) (sym groups) made.running in
    let searched : AreGroupPrices [] columns.groups.starts.items columns.groups.touches columns.grouped.items = subst (λ gs. AreGroupPrices [] gs.starts.items gs.touches columns.grouped.items) (sym groups) made.zero in (
      [],
      record {
        is = record {
          numbering = is.numbering;
          rows = is.rows_are;
          capacities = subst (λ (rs : List g.row.F-Row.Denot). HaveCapacities rows rs levels.loads.capacities) c.rows.ensures free.capacities;
          price_count = ap length free.prices ∙ length-replicate none (pos 0) ∙ ap length c.rows.ensures;
          levels = free.levels;
          counted = none_counted columns.groups (length tables) (lists_in known.counted.items) levels.loads.uses counted_count counted_empty free.unused;
          columns = own_columns making.groups columns made.columns;
          tables = subst (λ gs. AreTables s (length s.bids) numbered gs tables) (sym groups) tables_at;
          stand = stand_free tables columns.grouped.items copies (free_groups columns.groups.starts.items columns.groups.touches columns.grouped.items made.columns.count searched) (copies_stand tables [] zero copies same stand);
          zero = stand;
          holders = subst (λ (ts : List BidTable). AreHolders ts known.holders) c.deref.ensures.value c.in_ok-known.ensures.holders;
          decided = c.in_ok-decided.ensures.decided;
        };
        still = made.still;
        running = λ h l. prices h l ∙ sym (free_listed levels.prices.items [] refl (none, free.prices) columns.groups h);
        grouped = λ h l. searched h l ∙ sym (free_listed levels.prices.items [] refl (none, free.prices) columns.groups h);
      },
    )

pub first_levels-requires : goal.first_levels-requires
first_levels-requires g c =
    let rows = g.F.RowFamily.rows_of c.args.rows.now c.args.inst.net.now in
    subst (All (λ (row : g.row.F-Row.Denot). rows.is_row row ≡ true)) (sym c.rows.ensures) c.in_ok-made.ensures.rows_are
