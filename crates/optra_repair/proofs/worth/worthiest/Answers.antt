-- The walk that the search finds is the first worthiest one.
use Rattle.std.proofs.Common.{List, length, ap, ◌∙◌, subst}
use Rattle.std.proofs.lemmas.Result.{IfOk-weaker}
use Rattle.optra_prices.specs.declared.parts.ArcPart.{ArcPart}
use Rattle.optra_prices.proofs.ListLemmas.{some_at}
use Rattle.optra_prices.proofs.PartLemmas.{parts_range}
use Rattle.optra_graph.specs.Timed.{Timed, IsRoute}
use Rattle.optra_repair.specs.Parts.{IsWorthPath, walk_found}
use Rattle.optra_repair.specs.Placings.{IsWorthiest}
use Rattle.optra_repair.proofs.PlaceLemmas.{worth_worthiest}
use Rattle.optra_repair.proofs.WorthLemmas.{found_walk, found_route, one_graph}
use Rattle.optra_repair.proofs.worth.worthiest.Goals as goal

pub worth_path-requires-clause-count : goal.worth_path-requires-clause-count
worth_path-requires-clause-count g c =
    let bid = some_at c.args.inst.bids.now c.args.number c.requires.number in
    let room = c.requires.room in
    let parts = c.in_ok-tell_parts.ensures bid.0 c.graph_of-graph.result.now room.0 bid.1 c.graph_of-graph.ensures.table room.1 in
    ap length c.deref.ensures.value ∙ parts.count

pub worth_path-requires-clause-range : goal.worth_path-requires-clause-range
worth_path-requires-clause-range g c =
    let net = c.args.inst.net.now in
    let bid = some_at c.args.inst.bids.now c.args.number c.requires.number in
    let graph = c.graph_of-graph.result.now in
    let room = c.requires.room in
    let parts = c.in_ok-tell_parts.ensures bid.0 graph room.0 bid.1 c.graph_of-graph.ensures.table room.1 in
    rw c.deref.ensures.value (parts_range net (g.F.RowFamily.rows_of c.args.rows.now net) c.args.inst.bids.now c.args.node.now room.0 c.args.number bid.0 graph _ c.tell_parts.new.parts.items parts)

pub returns-clause-worthiest : goal.returns-clause-worthiest
returns-clause-worthiest g c =
    let net = c.args.inst.net.now in
    let f = c.args.rows.now in
    let rows = g.F.RowFamily.rows_of f net in
    let proper = c.args.inst.proper in
    let graph = c.graph_of-graph.result.now in
    let path = c.worth_path.new.buffers in
    IfOk-weaker c.worth_path.result _ _
    (λ found is bid t total placed at there room within totals.
    let same = one_graph c.args.kept.now c.args.number graph t c.graph_of-graph.ensures.table there in
    subst (λ (t : Timed). IsWorthiest net rows c.args.inst.bids.now c.args.node.now placed c.args.number bid (walk_found t found path)) same
    (worth_worthiest net proper rows c.args.inst.bids.now c.tests_tell_allowed.ensures c.args.node.now c.args.number bid graph (c.graph_of-graph.ensures.graph bid at) total c.tell_parts.new.parts.items
    (c.in_ok-tell_parts.ensures bid graph total at c.graph_of-graph.ensures.table room) (λ leg usable. (g.met.F.RowFamily.lists_rows f net bid.path.kind leg usable).are_rows) within placed totals (walk_found graph found path)
    (found_walk graph c.tell_parts.new.parts.items found path (subst (λ (parts : List ArcPart). IsWorthPath graph parts found path) c.deref.ensures.value is))))
    c.worth_path.ensures

pub returns-clause-route : goal.returns-clause-route
returns-clause-route g c =
    let graph = c.graph_of-graph.result.now in
    let path = c.worth_path.new.buffers in
    IfOk-weaker c.worth_path.result _ _
    (λ found is t yes_found there.
    subst (λ (t : Timed). IsRoute t path) (one_graph c.args.kept.now c.args.number graph t c.graph_of-graph.ensures.table there) (found_route graph c.deref.result.now found path yes_found is))
    c.worth_path.ensures
