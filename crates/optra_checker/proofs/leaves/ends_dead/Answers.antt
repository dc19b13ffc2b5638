use Rattle.std.proofs.Common.{◌↔◌, sym, subst}
use Rattle.std.specs.Prelude.{IsTrue, IfOk}
use Rattle.optra_node.specs.declared.Item.{Item}
use Rattle.optra_node.specs.Certificates.{EndsDead}
use Rattle.optra_checker.proofs.leaves.ends_dead.Goals as goal

pub returns-in-NoWalk : goal.returns-in-NoWalk
returns-in-NoWalk g c =
    let node = c.args.node.now in
    subst (λ (item : Item g.row.F-Row.Denot). IfOk c.is_stuck.result (λ dead. IsTrue dead ↔ EndsDead node.net (g.F.RowFamily.rows_of node.family node.net) node.bids node.node item)) (sym c.in-NoWalk.is) c.is_stuck.ensures
