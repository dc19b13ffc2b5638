-- The fields so far, with the cells that are left, are all fields.
use Rattle.std.proofs.Common.{◌≡◌, ◌++◌, drop}
use Rattle.optra_cert.proofs.certificate_writer.add_cells.Given as goal

abbrev pub invariant-cells : goal.invariant-cells
invariant-cells l = l.fields ++ drop l.cell-index l.cells ≡ l.fn.fields ++ l.cells
