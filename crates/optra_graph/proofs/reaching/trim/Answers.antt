-- One more row.
use Rattle.std.proofs.Common.{arith, ◌≡◌, ◌+◌, ◌-◌, ◌<◌, ◌∙◌, sym, subst, ℕ}
use Rattle.optra_graph.specs.Flags.{IsTrimmedTo}
use Rattle.optra_graph.specs.Places.{places_of}
use Rattle.optra_graph.specs.StepTables.{place_or, rows_of}
use Rattle.optra_graph.proofs.ReachLemmas.{trimmed_start, trimmed_to, trimmed_more, kept_all, steps_within}
use Rattle.optra_graph.proofs.TableLemmas.{steps_of, table_fewer, place_end, place_here, place_next, gap_first, gap_next}
use Rattle.optra_graph.proofs.reaching.trim.Goals as goal

pub loop-left-init : goal.loop-left-init
loop-left-init c = record {
  few = omega arith;
  trimmed = subst (λ (p : ℕ). IsTrimmedTo c.args.net.now c.args.bid.now.path c.args.layout p c.args.flags.now.items c.args.flags.now.items)
      (sym (place_end c.args.net.now c.args.bid.now.path c.args.layout (places_of c.args.layout) c.args.flags.now.items c.args.table.now c.requires.steps c.rows-left.result (omega arith)))
      (trimmed_start c.args.net.now c.args.bid.now.path c.args.layout c.requires.setting c.args.flags.now.items);
}

pub of-requires : goal.of-requires
of-requires c = let few = c.loop-left.invariant.few in c.requires.steps.ranges (c.loop-left.left - 1) (omega (arith, few, c.loop-left-test.true))

pub settle-requires-clause-place : goal.settle-requires-clause-place
settle-requires-clause-place c =
    let few = c.loop-left.invariant.few in
    let n = c.loop-left.invariant.trimmed.len in
    let m = c.requires.reached.len in
    let l = c.requires.steps.within (c.loop-left.left - 1) (omega (arith, few, c.loop-left-test.true)) in
    omega (arith, n, m, l, c.place.ensures)

pub settle-requires-clause-steps : goal.settle-requires-clause-steps
settle-requires-clause-steps c =
    let few = c.loop-left.invariant.few in
    let n = c.loop-left.invariant.trimmed.len in
    let m = c.requires.reached.len in
    let row : c.loop-left.left - 1 < rows_of c.args.table.now = omega (arith, few, c.loop-left-test.true) in
    let w = c.requires.steps.within (c.loop-left.left - 1) row in
    let l : c.place.result < places_of c.args.layout = omega (arith, w, c.place.ensures) in
    let all = steps_of c.args.net.now c.args.bid.now.path c.args.layout (places_of c.args.layout) c.args.flags.now.items c.args.table.now c.requires.steps (c.loop-left.left - 1) c.place.result c.of.result.now row c.place.ensures c.of.ensures in
    steps_within c.args.net.now c.args.bid.now.path c.args.layout c.requires.setting c.place.result c.loop-left.flags.items c.of.result.now l (n ∙ m) all

pub loop-left-preserved : goal.loop-left-preserved
loop-left-preserved c =
    let few = c.loop-left.invariant.few in
    let n = c.loop-left.invariant.trimmed.len in
    let m = c.requires.reached.len in
    let row : c.loop-left.left - 1 < rows_of c.args.table.now = omega (arith, few, c.loop-left-test.true) in
    let w = c.requires.steps.within (c.loop-left.left - 1) row in
    let l : c.place.result < places_of c.args.layout = omega (arith, w, c.place.ensures) in
    let all = steps_of c.args.net.now c.args.bid.now.path c.args.layout (places_of c.args.layout) c.args.flags.now.items c.args.table.now c.requires.steps (c.loop-left.left - 1) c.place.result c.of.result.now row c.place.ensures c.of.ensures in
    let e : c.loop-left.left - 1 + 1 ≡ c.loop-left.left = omega (arith, c.loop-left-test.true) in
    let next = place_next c.args.net.now c.args.bid.now.path c.args.layout (places_of c.args.layout) c.args.flags.now.items c.args.table.now c.requires.steps (c.loop-left.left - 1) row in
    let none = gap_next c.args.net.now c.args.bid.now.path c.args.layout (places_of c.args.layout) c.args.flags.now.items c.args.table.now c.requires.steps (c.loop-left.left - 1) row in
    let here = place_here c.args.net.now c.args.bid.now.path c.args.layout (places_of c.args.layout) c.args.flags.now.items c.args.table.now c.requires.steps (c.loop-left.left - 1) row in
    let after = trimmed_to c.args.net.now c.args.bid.now.path c.args.layout c.requires.setting (c.place.result + 1) (place_or c.args.table.now (c.loop-left.left - 1 + 1) (places_of c.args.layout)) c.args.flags.now.items c.loop-left.flags.items
    (rw c.place.ensures next) (rw c.place.ensures none) (rw e c.loop-left.invariant.trimmed) in
    record {
      few = omega (arith, few);
      trimmed = subst (λ (p : ℕ). IsTrimmedTo c.args.net.now c.args.bid.now.path c.args.layout p c.args.flags.now.items c.settle.new.flags.items) (c.place.ensures ∙ sym here)
          (trimmed_more c.args.net.now c.args.bid.now.path c.args.layout c.requires.setting c.place.result c.of.result.now c.args.flags.now.items c.loop-left.flags.items c.settle.new.flags.items c.settle.result l (omega (arith, n, m, l)) all
          c.settle.ensures.count c.settle.ensures.flags after);
    }

pub returns-clause-flags : goal.returns-clause-flags
returns-clause-flags c =
    let z : c.loop-left.left ≡ 0 = omega (arith, c.loop-left-test.false) in
    let none = gap_first c.args.net.now c.args.bid.now.path c.args.layout (places_of c.args.layout) c.args.flags.now.items c.args.table.now c.requires.steps in
    kept_all c.args.net.now c.args.bid.now.path c.args.layout c.requires.setting c.args.flags.now.items c.loop-left.flags.items c.requires.reached
    (trimmed_to c.args.net.now c.args.bid.now.path c.args.layout c.requires.setting 0 (place_or c.args.table.now 0 (places_of c.args.layout)) c.args.flags.now.items c.loop-left.flags.items (omega arith) none (rw z at c.loop-left.invariant.trimmed))

pub returns-clause-steps : goal.returns-clause-steps
returns-clause-steps c = table_fewer c.args.net.now c.args.bid.now.path c.args.layout (places_of c.args.layout) c.args.flags.now.items c.loop-left.flags.items c.args.table.now c.loop-left.invariant.trimmed.only c.requires.steps
