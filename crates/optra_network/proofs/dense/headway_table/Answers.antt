use Rattle.std.proofs.Common.{◌+◌, ℕ, take, rules, subst, sym, Vec, Global}
use Rattle.std.proofs.lemmas.Option.{slice_get_within, get_or_from_slice_get}
use Rattle.optra_network.specs.Tables.{HoldsTriples, IsTriple, found_headway}
use Rattle.optra_network.proofs.TableLemmas.{headway_row}
use Rattle.optra_network.proofs.dense.headway_table.Goals as goal
use Rattle.optra_network.proofs.dense.headway_table.Goals.{in-Some, in_default}

pub loop-i-preserved : goal.loop-i-preserved
loop-i-preserved c =
    elim c.match-get_index.branch [
      | in-Some w ↦
          let rows = c.args.rows.now.entries in
          let key = w.in-Some.field-0-0.now in
          let minutes = w.in-Some.field-0-1.now in
          let at = sym w.in-Some.ensures.entry in
          let placed : IsTriple c.args.tracks key =
          subst (λ row. IsTriple c.args.tracks row.0) (get_or_from_slice_get rows c.loop-i.i (key, minutes) (key, minutes) at) (c.requires.of_triples c.loop-i.i (key, minutes) (slice_get_within rows c.loop-i.i (key, minutes) at)) in
          subst (λ (table : Vec ℕ Global). HoldsTriples (found_headway (take (c.loop-i.i + 1) rows)) c.args.tracks table.items) (sym w.table-is)
          (headway_row rows c.loop-i.i key.0 key.1 key.2 c.args.tracks minutes c.loop-i.table.items c.loop-i.invariant at w.in-Some.ensures.value placed.0 placed.1 placed.2)
      | in_default w ↦ absurd (search rules)
    ]
