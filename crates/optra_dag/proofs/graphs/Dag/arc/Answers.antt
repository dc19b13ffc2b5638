-- One more arc.
use Rattle.optra_dag.proofs.GraphLemmas.{forward_more, starts_more}
use Rattle.optra_dag.proofs.graphs.Dag.arc.Goals as goal

pub invariant_of-self-in_default : goal.invariant_of-self-in_default
invariant_of-self-in_default c =
    let i = c.self.inside in
    let sorted = rw (← c.self.view_is) at c.requires.sorted in
    let node = rw (← c.self.view_is) at c.requires.node in
    let room = rw (← c.self.view_is) at c.requires.room in
    record {
      forward = rw c.in_default.ensures.ok (forward_more _ _ c.args.from c.args.to c.self.invariant.forward c.requires.forward node sorted room);
      started = rw (c.in_default.ensures.ok, c.in_ok-start_up_to.ensures.ok, c.len-number.ensures)
          (starts_more _ _ c.args.from c.args.to c.self.invariant.forward c.requires.forward node sorted room i.starts.items c.self.invariant.started);
      late = c.self.invariant.late;
    }
