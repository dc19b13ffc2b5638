-- One more row.
use Rattle.std.proofs.Common.{arith, ◌-◌, ◌∙◌, ap, length, length-set, refl}
use Rattle.std.specs.Prelude.{slice_index}
use Rattle.optra_graph.specs.Nodes.{node_of}
use Rattle.optra_graph.proofs.NodeLemmas.{kept_few}
use Rattle.optra_graph.proofs.NumberLemmas.{next_start, before_start, next_yes, next_no, row_more, rows_all}
use Rattle.optra_graph.proofs.RowLemmas.{row_here}
use Rattle.optra_graph.proofs.numbering.fill.Goals as goal
use Rattle.optra_graph.proofs.numbering.fill.Goals.{then-flags-place, else-flags-place}

pub loop-row-init : goal.loop-row-init
loop-row-init c = record {
  len = c.requires.room;
  next = next_start c.args.flags.now (length c.args.flags.now - 1) c.args.places.now c.requires.listed;
  each = before_start c.args.flags.now (length c.args.flags.now - 1) c.args.places.now c.requires.listed c.args.numbers.now;
}

pub overflow_add-next : goal.overflow_add-next
overflow_add-next c =
    let row = c.loop-row-test.true in
    let w = c.requires.listed.within c.loop-row.row row in
    let here = row_here (length c.args.flags.now - 1) c.args.flags.now c.args.places.now c.requires.listed c.loop-row.row row in
    let n = c.loop-row.invariant.next ∙ ap (node_of c.args.flags.now) here in
    let few = c.requires.few in
    omega (arith, n, w, few, kept_few c.args.flags.now (slice_index c.args.places.now c.loop-row.row))

pub loop-row-preserved : goal.loop-row-preserved
loop-row-preserved c =
    let row = c.loop-row-test.true in
    let i = c.loop-row.invariant in
    let w = c.requires.listed.within c.loop-row.row row in
    let n = i.len in
    record {
      len = omega (arith, n, length-set c.loop-row.numbers (slice_index c.args.places.now c.loop-row.row) c.loop-row.next);
      next = elim c.if-flags-place.branch [
        | then-flags-place w ↦ w.next-is ∙ next_yes c.args.flags.now (length c.args.flags.now - 1) c.args.places.now c.requires.listed c.loop-row.row (slice_index c.args.places.now c.loop-row.row) c.loop-row.next row refl w.if-flags-place.true i.next
        | else-flags-place w ↦ w.next-is ∙ next_no c.args.flags.now (length c.args.flags.now - 1) c.args.places.now c.requires.listed c.loop-row.row (slice_index c.args.places.now c.loop-row.row) c.loop-row.next row refl w.if-flags-place.false i.next
      ];
      each = row_more c.args.flags.now (length c.args.flags.now - 1) c.args.places.now c.requires.listed c.loop-row.numbers c.loop-row.row (slice_index c.args.places.now c.loop-row.row) c.loop-row.next row refl (omega (arith, w, n)) i.next i.each;
    }

pub returns : goal.returns
returns c = rows_all c.args.flags.now (length c.args.flags.now - 1) c.args.places.now c.requires.listed c.loop-row.numbers c.loop-row.row (length c.args.flags.now - 1) c.loop-row.next (omega (arith, c.loop-row-test.false)) c.loop-row.invariant.len c.requires.some refl refl c.loop-row.invariant.next c.loop-row.invariant.each
