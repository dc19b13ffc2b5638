-- What contracts see of a time-expanded graph.
use Rattle.optra_graph.specs.Timed.{Timed}
use Rattle.optra_graph.specs.declared.timegraphs.TimeGraph.TheInside.{Inside}

abbrev pub timed_of : Inside → Timed
timed_of a = record { dag = a.dag; minutes = a.minutes.items; legs = a.legs }
