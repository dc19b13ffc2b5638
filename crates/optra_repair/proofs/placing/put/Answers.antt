-- The walk is given where its path was put.
use Rattle.std.proofs.Common.{◌≡◌, true, false, refl, sym, ap, ◌∙◌, subst}
use Rattle.optra_graph.specs.Timed.{Timed, walk_of}
use Rattle.optra_repair.proofs.RoomLemmas.{put_none, put_some, room_none, room_some}
use Rattle.optra_repair.proofs.WorthLemmas.{one_graph}
use Rattle.optra_repair.proofs.placing.put.Goals as goal

pub put_path-requires-clause-route : goal.put_path-requires-clause-route
put_path-requires-clause-route g c = λ t there some. c.requires.route t there

pub walk_of-requires : goal.walk_of-requires
walk_of-requires g c = c.requires.route c.graph_of-graph.result.now c.graph_of-graph.ensures.table

pub returns-then-not-branch-clause-put : goal.returns-then-not-branch-clause-put
returns-then-not-branch-clause-put g c bid t total at there within room =
    put_none (g.F.RowFamily.rows_of c.args.rows.now c.args.inst.net.now) c.args.kept.now bid.path.kind (walk_of t c.args.path.now) total c.put_path.new.room c.in_ok-put_path.field-0 c.if-not-branch.true
    (c.in_ok-put_path.ensures bid t total at there within room)

pub returns-then-not-branch-clause-room : goal.returns-then-not-branch-clause-room
returns-then-not-branch-clause-room g c bid total at within room =
    let graph = c.graph_of-graph.result.now in
    room_none (g.F.RowFamily.rows_of c.args.rows.now c.args.inst.net.now) c.args.kept.now bid.path.kind (walk_of graph c.args.path.now) total c.put_path.new.room c.in_ok-put_path.field-0 c.if-not-branch.true
    (c.in_ok-put_path.ensures bid graph total at c.graph_of-graph.ensures.table within room)

pub returns-clause-put : goal.returns-clause-put
returns-clause-put g c bid t total at there within room =
    let graph = c.graph_of-graph.result.now in
    let path = c.args.path.now in
    let same = one_graph c.args.kept.now c.args.number graph t c.graph_of-graph.ensures.table there in
    put_some (g.F.RowFamily.rows_of c.args.rows.now c.args.inst.net.now) c.args.kept.now bid.path.kind (walk_of t path) total c.put_path.new.room c.in_ok-put_path.field-0 c.in_ok-walk.walk c.if-not-branch.false
    (c.in_ok-walk.ensures ∙ ap (λ (u : Timed). walk_of u path) same) (c.in_ok-put_path.ensures bid t total at there within room)

pub returns-clause-room : goal.returns-clause-room
returns-clause-room g c bid total at within room =
    let graph = c.graph_of-graph.result.now in
    room_some (g.F.RowFamily.rows_of c.args.rows.now c.args.inst.net.now) c.args.kept.now bid.path.kind (walk_of graph c.args.path.now) total c.put_path.new.room c.in_ok-put_path.field-0 c.in_ok-walk.walk c.if-not-branch.false
    c.in_ok-walk.ensures (c.in_ok-put_path.ensures bid graph total at c.graph_of-graph.ensures.table within room)
