-- The places of the table's rows are listed.
use Rattle.std.proofs.Common.{arith, ◌≡◌, ◌-◌, length, subst, ℕ}
use Rattle.optra_graph.specs.Places.{places_of}
use Rattle.optra_graph.specs.StepTables.{AreListed}
use Rattle.optra_graph.proofs.TableLemmas.{listing}
use Rattle.optra_graph.proofs.building.make_graph.Goals as goal

pub number-requires-clause-listed : goal.number-requires-clause-listed
number-requires-clause-listed c =
    let n = c.trim-arcs.ensures.flags.len in
    let z : places_of c.make_layout-layout.result ≡ length c.trim-arcs.new.flags.items - 1 = omega (arith, n) in
    let all = listing c.args.net.now c.args.bid.now.path c.make_layout-layout.result (places_of c.make_layout-layout.result) c.trim-arcs.new.flags.items c.reach.new.table c.trim-arcs.ensures.steps in
    rw (c.deref.ensures.value, c.deref-2.ensures.value) (subst (λ (e : ℕ). AreListed c.trim-arcs.new.flags.items e c.reach.new.table.places.items) z all)
