use Rattle.std.proofs.Common.{◌+◌, take, rules, subst, sym, Vec, Global}
use Rattle.std.proofs.lemmas.Option.{slice_get_within, get_or_from_slice_get}
use Rattle.optra_network.specs.Tables.{HoldsPairs, IsPair, found_times}
use Rattle.optra_network.specs.declared.Times.{Times}
use Rattle.optra_network.proofs.TableLemmas.{running_row}
use Rattle.optra_network.proofs.dense.running_table.Goals as goal
use Rattle.optra_network.proofs.dense.running_table.Goals.{in-Some, in_default}

pub loop-i-preserved : goal.loop-i-preserved
loop-i-preserved c =
    elim c.match-get_index.branch [
      | in-Some w ↦
          let rows = c.args.rows.now.entries in
          let key = w.in-Some.field-0-0.now in
          let times = w.in-Some.field-0-1.now in
          let at = sym w.in-Some.ensures.entry in
          let placed : IsPair c.args.tracks key =
          subst (λ row. IsPair c.args.tracks row.0) (get_or_from_slice_get rows c.loop-i.i (key, times) (key, times) at) (c.requires.of_pairs c.loop-i.i (key, times) (slice_get_within rows c.loop-i.i (key, times) at)) in
          subst (λ (table : Vec Times Global). HoldsPairs (found_times (take (c.loop-i.i + 1) rows)) c.args.tracks table.items) (sym w.table-is)
          (running_row rows c.loop-i.i key.0 key.1 c.args.tracks times c.loop-i.table.items c.loop-i.invariant at w.in-Some.ensures.value placed.0 placed.1)
      | in_default w ↦ absurd (search rules)
    ]
