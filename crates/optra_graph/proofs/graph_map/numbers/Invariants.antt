-- The numbers of the stops that are left come behind those so far.
use Rattle.std.proofs.Common.{◌≡◌, ◌+◌, ◌*◌, ◌++◌, drop}
use Rattle.arrayvec.specs.ArrayVec.{array_vec_len}
use Rattle.optra_graph.specs.Keys.{own_numbers, stops_numbers}
use Rattle.optra_graph.proofs.graph_map.numbers.Given as goal

abbrev pub invariant-loop-stop : goal.invariant-loop-stop
invariant-loop-stop l = record {
  numbers : l.numbers.items ++ stops_numbers (drop l.stop-index l.bid.path.stops) ≡ own_numbers l.bid.path ++ stops_numbers l.bid.path.stops;
  count : array_vec_len l.numbers ≡ 10 + 5 * l.stop-index;
}
