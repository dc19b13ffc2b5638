-- The stations so far have their columns.
use Rattle.optra_graph.specs.Columns.{AreColumnsTo}
use Rattle.optra_graph.specs.Deadlines.{AreDeadlines, AreStopping, end_of}
use Rattle.optra_graph.proofs.columns.Columns.new.Given as goal

abbrev pub invariant-loop-station : goal.invariant-loop-station
invariant-loop-station l = record {
  deadlines : AreDeadlines l.net l.bid.path (end_of l.bid.path) l.columns.deadlines.items;
  stopping : AreStopping l.net l.bid.path l.columns.stopping.items;
  listed : AreColumnsTo l.bid.path.depart.from l.station l.columns;
}
