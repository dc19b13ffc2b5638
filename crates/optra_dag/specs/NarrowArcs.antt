-- How arcs are kept in few bytes: most graphs have fewer than 65,536 nodes.
use Rattle.std.specs.Prelude.{List, ◌++◌, map}
use Rattle.optra_dag.specs.declared.Arc.{Arc}
use Rattle.optra_dag.specs.declared.narrow_arc.NarrowArc.{NarrowArc}

-- the arc that a narrow one stands for
abbrev pub arc_of : NarrowArc → Arc
arc_of arc = record { from = arc.from; to = arc.to }

-- the narrow arcs and then the others
abbrev pub arcs_of : List NarrowArc → List Arc → List Arc
arcs_of narrow wide = map arc_of narrow ++ wide
