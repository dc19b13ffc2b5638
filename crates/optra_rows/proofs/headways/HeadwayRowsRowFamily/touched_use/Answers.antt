-- A row that is used is used once.
use Rattle.std.proofs.Common.{arith}
use Rattle.optra_rows.specs.TouchedLemmas.{headway_rows_listed, use_one}
use Rattle.optra_rows.proofs.headways.HeadwayRowsRowFamily.touched_use.Goals as goal

pub returns : goal.returns
returns c =
    let net = c.args._net.now in
    let leg = c.args._leg in
    let u = c.requires.usable in
    let lists = headway_rows_listed net leg.track c.args._kind leg.depart u.proper u.may_use u.depart in
    let some = (lists.used c.args._row).1 c.requires.used in
    let once = use_one net leg.track c.args._kind leg.depart u.proper u.may_use u.depart c.args._row in
    omega (arith, some, once)
