use Rattle.std.proofs.Common.{ℕ, List, [], length, take, drop, refl, sym, ap, ◌∙◌, subst, rules, ℤ, arith}
use Rattle.std.specs.Prelude.{All, FitsSigned}
use Rattle.std.specs.Int.{w64}
use Rattle.std.proofs.lemmas.Int.{to_z-of_z}
use Rattle.std.proofs.lemmas.List.Elements.{All-drop}
use Rattle.std.proofs.lemmas.Result.{on_ok_weaker}
use Rattle.optra_network.specs.declared.TypeId.{TypeId}
use Rattle.optra_walk.specs.declared.Leg.{Leg}
use Rattle.optra_walk.specs.Families.{IsUsable}
use Rattle.optra_node.specs.declared.Decision.{Decision}
use Rattle.optra_node.specs.Nodes.{IsFormedDecision}
use Rattle.optra_node.specs.Nodes.{InstanceNode, instance_node}
use Rattle.optra_prices.specs.Allowing.{AreAtUnlessTold}
use Rattle.optra_prices.specs.Claims.{AreClaims}
use Rattle.optra_prices.specs.Rooms.{IsDecided}
use Rattle.optra_prices.specs.Standings.{IsSound, AllStand, AreTables}
use Rattle.optra_prices.specs.Tables.{AreUpTo}
use Rattle.optra_prices.specs.Terms.{Setting, setting}
use Rattle.optra_prices.specs.Uses.{AreCounted, lists_in}
use Rattle.optra_prices.specs.declared.numbering.BidTable.{BidTable}
use Rattle.optra_prices.proofs.DecidedLemmas.{own_course}
use Rattle.optra_prices.proofs.HolderLemmas.{holders_brought}
use Rattle.optra_prices.proofs.NarrowLemmas.{columns_up, free_up}
use Rattle.optra_prices.proofs.StayLemmas.{others_stay}
use Rattle.optra_prices.proofs.TableLemmas.{tables_sound, tables_hold}
use Rattle.optra_prices.proofs.TellingLemmas.{rest_is}
use Rattle.optra_prices.proofs.keeping.bring_to.Goals as goal

pub claims_of-requires-clause-decisions : goal.claims_of-requires-clause-decisions
claims_of-requires-clause-decisions g c =
    let k = c.shared_count-count.result in
    let formed = IsFormedDecision c.args.inst.net.now (length c.args.inst.bids.now) in
    let node = c.args.node.now in
    subst (All formed) (sym (rest_is c.decisions_of-2.result.now node k c.decisions_of-2.ensures)) (All-drop formed k node c.requires.node.formed)

pub tell_moved-requires-clause-claims : goal.tell_moved-requires-clause-claims
tell_moved-requires-clause-claims g c =
    let rows = g.F.RowFamily.rows_of c.args.rows.now c.args.inst.net.now in
    let bids = c.args.inst.bids.now in
    let numbered = c.args.kept.now.numbering.rows.items in
    let k = c.shared_count-count.result in
    let node = c.args.node.now in
    let entered = rest_is c.decisions_of-2.result.now node k c.decisions_of-2.ensures in
    subst (AreClaims rows bids numbered (drop k node)) (sym c.deref-2.ensures.value)
    (subst (λ (ds : List Decision). AreClaims rows bids numbered ds c.in_ok-claims.claims.items) entered c.in_ok-claims.ensures)

pub move_room-requires-clause-claims : goal.move_room-requires-clause-claims
move_room-requires-clause-claims g c =
    let rows = g.F.RowFamily.rows_of c.args.rows.now c.args.inst.net.now in
    let bids = c.args.inst.bids.now in
    let k = c.shared_count-count.result in
    let node = c.args.node.now in
    let claims = c.in_ok-claims.claims.items in
    let entered = rest_is c.decisions_of-2.result.now node k c.decisions_of-2.ensures in
    subst (λ numbering. AreClaims rows bids numbering.rows.items (drop k node) claims) (sym c.in_ok-tell_moved.ensures.numbering)
    (subst (λ (ds : List Decision). AreClaims rows bids c.args.kept.now.numbering.rows.items ds claims) entered c.in_ok-claims.ensures)

pub tell_moved-requires-clause-course : goal.tell_moved-requires-clause-course
tell_moved-requires-clause-course g c =
    let net = c.args.inst.net.now in
    let f = c.args.rows.now in
    own_course g.F.Row.Ord.cmp net (g.F.RowFamily.rows_of f net) (g.F.RowFamily.rows_used f net) c.args.inst.bids.now c.requires.kept.0 c.args.kept.now c.requires.kept.1

pub move_room-requires-clause-decided : goal.move_room-requires-clause-decided
move_room-requires-clause-decided g c =
    let net = c.args.inst.net.now in
    let f = c.args.rows.now in
    let own = own_course g.F.Row.Ord.cmp net (g.F.RowFamily.rows_of f net) (g.F.RowFamily.rows_used f net) c.args.inst.bids.now c.args.kept.now.decided.decisions.items c.tell_moved.new.kept c.in_ok-tell_moved.ensures.course in
    own.is.decided

pub move_room-requires-clause-old : goal.move_room-requires-clause-old
move_room-requires-clause-old g c =
    let same = ap length c.in_ok-tell_moved.ensures.course.is.decided.decisions_are in
    let held = ap length c.deref.ensures.value in
    let l = c.shared_count-count.ensures.old in
    omega arith

pub move_room-requires-clause-new : goal.move_room-requires-clause-new
move_room-requires-clause-new g c =
    let same = ap length c.decisions_of.ensures in
    let l = c.shared_count-count.ensures.new in
    omega arith

pub move_room-requires-clause-shared : goal.move_room-requires-clause-shared
move_room-requires-clause-shared g c =
    let k = c.shared_count-count.result in
    ap (take k) (c.in_ok-tell_moved.ensures.course.is.decided.decisions_are ∙ sym c.deref.ensures.value) ∙ c.shared_count-count.ensures.shared ∙ ap (take k) c.decisions_of.ensures

pub allow_told-requires-clause-own_is : goal.allow_told-requires-clause-own_is
allow_told-requires-clause-own_is g c =
    let net = c.args.inst.net.now in
    let node_is = ap (λ (x : InstanceNode g.row.F.Denot). x.node) c.in_ok-own.ensures in
    c.in_ok-own.ensures ∙ ap (λ (ds : List Decision). instance_node c.args.rows.now net c.args.inst.bids.now ds) (sym node_is)

pub allow_told-requires-clause-decided : goal.allow_told-requires-clause-decided
allow_told-requires-clause-decided g c =
    let net = c.args.inst.net.now in
    let rows = g.F.RowFamily.rows_of c.args.rows.now net in
    let node_is = ap (λ (x : InstanceNode g.row.F.Denot). x.node) c.in_ok-own.ensures in
    let numbered = c.tell_moved.new.kept.numbering.rows.items in
    subst (λ (ds : List Decision). IsDecided net rows c.args.inst.bids.now numbered ds c.move_room.new.decided) (sym node_is) c.in_ok-move_room.ensures

pub allow_told-requires-clause-tables : goal.allow_told-requires-clause-tables
allow_told-requires-clause-tables g c =
    let net = c.args.inst.net.now in
    let f = c.args.rows.now in
    let kept = c.tell_moved.new.kept in
    tables_hold net (g.F.RowFamily.rows_of f net) (g.F.RowFamily.rows_used f net) c.args.inst.bids.now c.args.kept.now.decided.decisions.items (length c.args.inst.bids.now) kept.numbering.rows.items kept.columns.groups kept.tables.items c.in_ok-tell_moved.ensures.course.is.tables

pub allow_told-requires-clause-told : goal.allow_told-requires-clause-told
allow_told-requires-clause-told g c = c.in_ok-tell_moved.ensures.left.count

pub allow_told-requires-clause-others : goal.allow_told-requires-clause-others
allow_told-requires-clause-others g c =
    let net = c.args.inst.net.now in
    let f = c.args.rows.now in
    let rows = g.F.RowFamily.rows_of f net in
    let used = g.F.RowFamily.rows_used f net in
    let bids = c.args.inst.bids.now in
    let node = c.args.node.now in
    let k = c.shared_count-count.result in
    let before = c.args.kept.now.decided.decisions.items in
    let kept = c.tell_moved.new.kept in
    let numbered = kept.numbering.rows.items in
    let groups = kept.columns.groups in
    let proper = c.args.inst.proper in
    let lists = λ (kind : TypeId) (leg : Leg) (usable : IsUsable net kind leg). g.met.F.RowFamily.lists_rows f net kind leg usable in
    let moved = c.in_ok-tell_moved.ensures in
    let shared = ap (take k) (sym c.deref.ensures.value) ∙ c.shared_count-count.ensures.shared ∙ ap (take k) c.decisions_of.ensures in
    let node_is = ap (λ (x : InstanceNode g.row.F.Denot). x.node) c.in_ok-own.ensures in
    subst (λ (ds : List Decision). AreAtUnlessTold (setting net rows used bids ds) numbered groups kept.fallen.items kept.tables.items) (sym node_is)
    (others_stay g.F.Row.Ord.cmp net proper rows used lists bids before node k shared numbered groups kept refl refl moved.course.is.tables moved.left moved.entered)

pub renew_all-requires-clause-sound : goal.renew_all-requires-clause-sound
renew_all-requires-clause-sound g c =
    let net = c.args.inst.net.now in
    let f = c.args.rows.now in
    let kept = c.tell_moved.new.kept in
    let s : Setting g.row.F-Row.Denot = setting net (g.F.RowFamily.rows_of f net) (g.F.RowFamily.rows_used f net) c.args.inst.bids.now c.in_ok-own.own.node in
    subst (All IsSound) (sym c.deref-3.ensures.value) (tables_sound s kept.numbering.rows.items kept.columns.groups c.allow_told.new.tables.items c.in_ok-allow_told.ensures.tables)

pub renew_all-requires-2-clause-sound : goal.renew_all-requires-2-clause-sound
renew_all-requires-2-clause-sound g c =
    let net = c.args.inst.net.now in
    let f = c.args.rows.now in
    let kept = c.tell_moved.new.kept in
    let s : Setting g.row.F-Row.Denot = setting net (g.F.RowFamily.rows_of f net) (g.F.RowFamily.rows_used f net) c.args.inst.bids.now c.in_ok-own.own.node in
    subst (All IsSound) (sym c.deref-5.ensures.value) (tables_sound s kept.numbering.rows.items kept.columns.groups c.allow_told.new.tables.items c.in_ok-allow_told.ensures.tables)

pub renew_all-requires-clause-grouped : goal.renew_all-requires-clause-grouped
renew_all-requires-clause-grouped g c = free_up

pub renew_all-requires-2-clause-grouped : goal.renew_all-requires-2-clause-grouped
renew_all-requires-2-clause-grouped g c =
    let columns = c.tell_moved.new.kept.columns in
    let fits : FitsSigned w64 columns.highest = search rules in
    subst (λ (most : ℤ). AreUpTo most c.deref-6.result.now) (sym (to_z-of_z w64 columns.highest fits)) (subst (AreUpTo columns.highest) (sym c.deref-6.ensures.value) (columns_up columns.groups columns c.in_ok-tell_moved.ensures.course.is.columns))

pub returns : goal.returns
returns g c =
    let net = c.args.inst.net.now in
    let f = c.args.rows.now in
    let rows = g.F.RowFamily.rows_of f net in
    let used = g.F.RowFamily.rows_used f net in
    let bids = c.args.inst.bids.now in
    let kept = c.tell_moved.new.kept in
    let numbered = kept.numbering.rows.items in
    let course = c.in_ok-tell_moved.ensures.course in
    let is = course.is in
    let told = c.in_ok-allow_told.ensures in
    let node_is = ap (λ (x : InstanceNode g.row.F.Denot). x.node) c.in_ok-own.ensures in
    let tables = c.allow_told.new.tables.items in
    let zero : AllStand tables [] c.renew_all.new.standings.items = subst (λ (ts : List BidTable). AllStand ts [] c.renew_all.new.standings.items) c.deref-3.ensures.value c.in_ok-renew_all.ensures in
    let prices = kept.columns.grouped.items in
    let standings = c.renew_all-2.new.standings.items in
    on_ok_weaker c.renew_all-2.result
    (λ stands. record {
      is = record {
        numbering = is.numbering;
        rows = is.rows;
        capacities = is.capacities;
        price_count = is.price_count;
        levels = is.levels;
        counted = subst (λ (count : ℕ). AreCounted kept.columns.groups count (lists_in kept.counted.items) kept.levels.loads.uses) (sym told.brought.count_is) is.counted;
        columns = is.columns;
        tables = subst (λ (ds : List Decision). AreTables (setting net rows used bids ds) (length bids) numbered kept.columns.groups tables) node_is told.tables;
        stand = subst (λ (ts : List BidTable). AllStand ts prices standings) c.deref-5.ensures.value (subst (λ (ps : List ℤ). AllStand c.deref-5.result.now ps standings) c.deref-6.ensures.value stands);
        zero = zero;
        holders = holders_brought c.allow_told.new.told.items kept.tables.items tables kept.holders told.brought is.holders;
        decided = subst (λ (ds : List Decision). IsDecided net rows bids numbered ds c.allow_told.new.decided) node_is told.decided;
      };
      still = course.still;
      running = course.running;
      grouped = course.grouped;
    })
    c.renew_all-2.ensures
