use Rattle.std.proofs.Common.{arith}
use Rattle.optra_rows.proofs.joining.BothRowFamily.used_count.Goals as goal

pub overflow_add-result : goal.overflow_add-result
overflow_add-result g c =
    let proper = c.requires.proper in
    let few = c.args.self.now.few in
    let p = (g.met.A.RowFamily.uses_few c.args.self.now.first c.args.net.now c.args.kind c.args.leg c.requires).few in
    let q = (g.met.B.RowFamily.uses_few c.args.self.now.second c.args.net.now c.args.kind c.args.leg c.requires).few in
    let a = c.used_count.ensures in
    let b = c.used_count-2.ensures in
    omega (arith, few, p, q, a, b)
