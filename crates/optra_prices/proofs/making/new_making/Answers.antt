-- No row has a number, and no leg has entered.
use Rattle.optra_prices.proofs.MakingLemmas.{making_none}
use Rattle.optra_prices.proofs.making.new_making.Goals as goal

pub returns : goal.returns
returns g c =
    let net = c.args.net.now in
    let f = c.args.rows.now in
    making_none net (g.F.RowFamily.rows_of f net) (g.F.RowFamily.rows_used f net) _ c.new.ensures c.in_ok-with_capacity.ensures.items c.in_ok-empty_groups.ensures
