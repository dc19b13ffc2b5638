-- The best of the allowed walks is the first worthiest where each of its legs has room, and else the search finds it.
use Rattle.std.proofs.Common.{◌≡◌, ℕ, ◌<◌, List, Option, None, Some, length, refl, sym, ap, ◌∙◌, subst, arith}
use Rattle.std.proofs.lemmas.Result.{IfOk-weaker}
use Rattle.optra_walk.specs.declared.Leg.{Leg}
use Rattle.optra_graph.specs.Timed.{IsRoute, walk_of}
use Rattle.optra_prices.specs.Arcs.{path_reply}
use Rattle.optra_prices.specs.Parts.{IsRoomIn, IsTableGraph}
use Rattle.optra_prices.proofs.ListLemmas.{some_at}
use Rattle.optra_repair.specs.Placings.{IsBestAllowed, IsWorthiest}
use Rattle.optra_repair.proofs.GivenLemmas.{none_allowed, none_placeable, best_worthiest, put_given}
use Rattle.optra_repair.proofs.WorthLemmas.{reply_some, found_none, found_some}
use Rattle.optra_repair.proofs.placing.place.Goals as goal

pub returns-then-is_no_path-clause-given : goal.returns-then-is_no_path-clause-given
returns-then-is_no_path-clause-given g c bid total placed at within room totals =
    let net = c.args.inst.net.now in
    let rows = g.F.RowFamily.rows_of c.args.rows.now net in
    let bids = c.args.inst.bids.now in
    let n = c.args.number in
    let tables = c.args.kept.now.tables.items in
    let count = c.requires.kept.is.tables.count_is in
    let l : n < length tables = omega (arith, count, c.requires.number) in
    let table = some_at tables n l in
    let t = table.0.graph.now in
    let none = c.is_no_path.ensures.none c.if-is_no_path.true in
    let best = subst (λ (path : List ℕ). IsBestAllowed net rows bids c.args.node.now n bid (path_reply t path)) none (c.best_allowed-best.ensures.best bid t at (table.0, table.1, refl)) in
    none_allowed net rows bids c.args.node.now n bid placed best

pub returns-then-has_room_for_path-clause-given : goal.returns-then-has_room_for_path-clause-given
returns-then-has_room_for_path-clause-given g c =
    let net = c.args.inst.net.now in
    let f = c.args.rows.now in
    let rows = g.F.RowFamily.rows_of f net in
    let bids = c.args.inst.bids.now in
    let node = c.args.node.now in
    let n = c.args.number in
    let proper = c.args.inst.proper in
    let tables = c.args.kept.now.tables.items in
    let count = c.requires.kept.is.tables.count_is in
    let l : n < length tables = omega (arith, count, c.requires.number) in
    let table = some_at tables n l in
    let t = table.0.graph.now in
    let there : IsTableGraph c.args.kept.now n t = (table.0, table.1, refl) in
    let path = c.best_allowed-best.result.now in
    IfOk-weaker c.put.result _ _
    (λ given put bid total placed at within room totals.
    let best = subst (λ (walk : Option (List Leg)). IsBestAllowed net rows bids node n bid walk) (reply_some t path (c.is_no_path.ensures.some c.if-is_no_path.false)) (c.best_allowed-best.ensures.best bid t at there) in
    let each = (c.has_room_for_path.ensures bid t total at there room).0 c.if-has_room_for_path.true in
    let worthiest = best_worthiest net rows bids node n bid placed total within totals proper (λ leg usable. (g.met.F.RowFamily.lists_rows f net bid.path.kind leg usable).are_rows) (walk_of t path) best each in
    put_given net rows bids node n bid placed total within totals _ (walk_of t path) given worthiest (put bid t total at there within room))
    c.put.ensures.put

pub returns-then-not-branch-clause-given : goal.returns-then-not-branch-clause-given
returns-then-not-branch-clause-given g c bid total placed at within room totals =
    let net = c.args.inst.net.now in
    let rows = g.F.RowFamily.rows_of c.args.rows.now net in
    let bids = c.args.inst.bids.now in
    let n = c.args.number in
    let tables = c.args.kept.now.tables.items in
    let count = c.requires.kept.is.tables.count_is in
    let l : n < length tables = omega (arith, count, c.requires.number) in
    let table = some_at tables n l in
    let t = table.0.graph.now in
    let none = subst (λ (walk : Option (List Leg)). IsWorthiest net rows bids c.args.node.now placed n bid walk) (found_none t _ c.in_ok-worthiest.field-0 c.if-not-branch.true)
    (c.in_ok-worthiest.ensures.worthiest bid t total placed at (table.0, table.1, refl) room within totals) in
    none_placeable net rows bids c.args.node.now n bid placed none

pub put-requires-2-clause-route : goal.put-requires-2-clause-route
put-requires-2-clause-route g c t there = subst (IsRoute t) (sym c.path-path.ensures) (c.in_ok-worthiest.ensures.route t c.if-not-branch.false there)

pub returns-clause-given : goal.returns-clause-given
returns-clause-given g c =
    let net = c.args.inst.net.now in
    let rows = g.F.RowFamily.rows_of c.args.rows.now net in
    let bids = c.args.inst.bids.now in
    let node = c.args.node.now in
    let n = c.args.number in
    let tables = c.args.kept.now.tables.items in
    let count = c.requires.kept.is.tables.count_is in
    let l : n < length tables = omega (arith, count, c.requires.number) in
    let table = some_at tables n l in
    let t = table.0.graph.now in
    let there : IsTableGraph c.args.kept.now n t = (table.0, table.1, refl) in
    let path = c.path-path.result.now in
    IfOk-weaker c.put-2.result _ _
    (λ given put bid total placed at within room totals.
    let found = c.in_ok-worthiest.ensures.worthiest bid t total placed at there room within totals in
    let worthiest = subst (λ (walk : Option (List Leg)). IsWorthiest net rows bids node placed n bid walk) (found_some t _ c.in_ok-worthiest.field-0 c.if-not-branch.false ∙ ap (λ (arcs : List ℕ). Some (walk_of t arcs)) (sym c.path-path.ensures)) found in
    put_given net rows bids node n bid placed total within totals _ (walk_of t path) given worthiest
    (put bid t total at there within (subst (IsRoomIn rows c.args.kept.now total) (sym c.in_ok-worthiest.ensures.room) room)))
    c.put-2.ensures.put

pub returns-clause-room : goal.returns-clause-room
returns-clause-room g c =
    let rows = g.F.RowFamily.rows_of c.args.rows.now c.args.inst.net.now in
    IfOk-weaker c.put-2.result _ _
    (λ given put bid total at within room. put bid total at within (subst (IsRoomIn rows c.args.kept.now total) (sym c.in_ok-worthiest.ensures.room) room))
    c.put-2.ensures.room
