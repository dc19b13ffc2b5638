use Rattle.std.proofs.Common.{arith}
use Rattle.optra_walk.specs.Families.{IsUsable}
use Rattle.optra_node.proofs.RowLemmas.{uses_few}
use Rattle.optra_node.proofs.loads.uses_at.Goals as goal

pub returns-clause-few : goal.returns-clause-few
returns-clause-few g c =
    let net = c.args.inst.net.now in
    let f = c.args.rows.now in
    let kind = c.kind_at-kind.result in
    let leg = c.args.leg in
    let usable : IsUsable net kind leg = record {
      proper = c.args.inst.proper;
      may_use = c.may_use.ensures.0 c.if-not-may_use.false;
      depart = c.requires.formed.depart;
      dwell = c.requires.formed.dwell;
    } in
    let lists = g.met.F.RowFamily.lists_rows f net kind leg usable in
    let few = uses_few g.F.Row.Ord.cmp (g.F.RowFamily.rows_of f net).is_row ((g.F.RowFamily.rows_of f net).uses kind leg) (g.F.RowFamily.rows_used f net kind leg) lists c.args.row in
    let e = c.leg_use.ensures in
    omega (arith, few, e)
