-- The parts are those of a graph of the bid.
use Rattle.std.proofs.Common.{arith, refl, ◌≡◌, ◌∙◌, ◌+◌, ap, subst, get_or, set, replicate, true, false, List, ℕ, Bool}
use Rattle.optra_dag.specs.Paths.{Graph}
use Rattle.optra_graph.specs.Arcs.{Emits}
use Rattle.optra_graph.specs.Nodes.{node_of, states_of}
use Rattle.optra_graph.specs.Places.{places_of}
use Rattle.optra_graph.specs.Timed.{IsGraphOf}
use Rattle.optra_graph.proofs.EmitLemmas.{starts_from, starts_few}
use Rattle.optra_graph.proofs.GraphLemmas.{graph_of_timed}
use Rattle.optra_graph.proofs.NodeLemmas.{kept_few}
use Rattle.optra_graph.proofs.NumberLemmas.{end_number}
use Rattle.optra_graph.proofs.TimedLemmas.{timed_is}
use Rattle.optra_graph.proofs.building.emit.Goals as goal

pub overflow_add-end : goal.overflow_add-end
overflow_add-end c =
    let v = c.places.ensures.value in
    let s = c.places.ensures.small in
    let k = c.requires.kept.len in
    let n = end_number c.args.kept.flags.now c.args.kept.numbers.now c.places.result (omega (arith, v, k)) c.args.kept.numbered in
    omega (arith, n, s, kept_few c.args.kept.flags.now c.places.result)

pub add_legs-requires-clause-starts : goal.add_legs-requires-clause-starts
add_legs-requires-clause-starts c = rw c.reserve.ensures (starts_from c.args.bid.now.path c.args.layout c.args.kept.flags.now (c.args.layout.first + c.args.layout.minutes) c.add_starts.new.dag.arcs c.add_starts.new.minutes.items c.in_ok-add_starts.ensures.starts)

pub add_legs-requires-clause-few : goal.add_legs-requires-clause-few
add_legs-requires-clause-few c =
    let f = starts_few c.args.bid.now.path c.args.layout c.args.kept.flags.now (c.args.layout.first + c.args.layout.minutes) c.add_starts.new.dag.arcs c.add_starts.new.minutes.items c.requires.setting.laid.first refl c.in_ok-add_starts.ensures.starts in
    let m = c.requires.setting.small.minutes in
    rw c.reserve.ensures (omega (arith, f, m))

-- the whole graph
is_graph : (c : goal.After-arcs-arcs) → IsGraphOf c.args.net.now c.args.bid.now.path (record { dag = c.add_legs.new.dag; minutes = c.add_starts.new.minutes.items; legs = c.add_legs.new.legs })
is_graph c =
    let v = c.places.ensures.value in
    let k = c.requires.kept.len in
    let n : get_or c.args.kept.numbers.now c.places.result 0 ≡ node_of c.args.kept.flags.now (places_of c.args.layout) = end_number c.args.kept.flags.now c.args.kept.numbers.now c.places.result (omega (arith, v, k)) c.args.kept.numbered ∙ ap (node_of c.args.kept.flags.now) v in
    let made = subst (λ (g : Graph). Emits c.args.net.now c.args.bid.now.path c.args.layout c.args.kept.flags.now (places_of c.args.layout) g.arcs c.add_legs.new.dag.arcs c.add_legs.new.legs) c.reserve.ensures c.in_ok-add_legs.ensures.arcs in
    let ends : c.add_legs.new.dag.ends ≡ set (replicate (node_of c.args.kept.flags.now (places_of c.args.layout) + 1) false) (node_of c.args.kept.flags.now (places_of c.args.layout)) true =
    c.in_ok-add_legs.ensures.ends ∙ ap (λ (g : Graph). g.ends) c.reserve.ensures ∙ c.in_ok-add_starts.ensures.ends ∙ c.set_end.ensures.ends
    ∙ ap (λ (es : List Bool). set es (get_or c.args.kept.numbers.now c.places.result 0) true) c.in_ok-dag.ensures.1
    ∙ ap (λ (e : ℕ). set (replicate (e + 1) false) e true) n in
    graph_of_timed c.args.net.now c.args.bid.now.path _ (states_of c.args.layout (places_of c.args.layout) c.args.kept.flags.now)
    (timed_is c.args.net.now c.args.bid.now.path c.args.layout c.requires.setting c.args.kept.flags.now c.requires.kept c.add_starts.new.dag.arcs c.add_legs.new.dag.arcs c.add_starts.new.minutes.items c.add_legs.new.legs (c.args.layout.first + c.args.layout.minutes) refl
    c.in_ok-add_starts.ensures.starts made c.add_legs.new.dag.ends ends c.arcs-arcs.ensures.forward)

pub invariant_of-result : goal.invariant_of-result
invariant_of-result c = let g = is_graph c in g.laid_out

pub returns : goal.returns
returns c = is_graph c
