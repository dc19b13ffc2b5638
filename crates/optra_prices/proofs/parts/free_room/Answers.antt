use Rattle.optra_node.specs.Nodes.{yes_load}
use Rattle.optra_prices.proofs.PartLemmas.{free_is}
use Rattle.optra_prices.proofs.parts.free_room.Goals as goal

pub returns : goal.returns
returns g c =
    let rows = g.F.RowFamily.rows_of c.args.rows.now c.args.inst.net.now in
    let kept = c.args.kept.now in
    let course = c.requires.1 in
    free_is rows kept.numbering.rows.items (yes_load rows c.args.inst.bids.now c.requires.0) kept.decided.room c.in_ok-room.room course.is.decided.room_is c.in_ok-room.ensures
