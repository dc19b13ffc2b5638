use Rattle.optra_walk.proofs.RaiseLemmas.{lowered_all}
use Rattle.optra_walk.proofs.totals.Totals.take_leg.Goals as goal

pub returns : goal.returns
returns g c =
    let l = g.met.F.RowFamily.lists_rows c.args.rows.now c.args.net.now c.args.kind c.args.leg c.requires.usable in
    lowered_all g.F.Row.Ord.cmp g.met.F.Row.Ord.total g.met.F.Row.CodedRow.tells_apart _ l.ascending _ _ l.used _ 8192 l.few c.take_first.ensures
