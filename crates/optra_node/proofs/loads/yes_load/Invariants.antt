use Rattle.std.proofs.Common.{◌≡◌, ◌≤◌, ◌*◌, take}
use Rattle.optra_node.specs.Nodes.{yes_load}
use Rattle.optra_node.proofs.loads.yes_load.Given as goal

abbrev pub invariant-loop-d : goal.invariant-loop-d
invariant-loop-d g l = record {
  so_far : l.total ≡ yes_load (g.F.RowFamily.rows_of l.rows l.inst.net.now) l.inst.bids.now (take l.d-index l.decisions) l.row;
  few : l.total ≤ 8192 * l.d-index;
}
