use Rattle.std.proofs.Common.{◌≡◌, List, ℕ, ◌+◌, ◌∷◌, [], ◌++◌, length, get_or, take, map, sym, ◌∙◌, ap, arith}
use Rattle.std.specs.List.{fold}
use Rattle.std.proofs.lemmas.List.{take_more}
use Rattle.std.proofs.lemmas.List.Sums.{fold_push}
use Rattle.optra_outside.specs.Disk.{Range}
use Rattle.optra_outside.specs.MemoryDisk.{EndsBy, range_of, filled}
use Rattle.optra_outside.specs.declared.memory_disk.Span.{Span}
use Rattle.optra_outside.proofs.Kept.{map_push}
use Rattle.optra_outside.proofs.Filled.{at_index, same_length}
use Rattle.optra_outside.proofs.memory_disk.fill_all.Goals as goal

pub fill-requires : goal.fill-requires
fill-requires c =
    omega (arith, c.loop-span.invariant.long, at_index (length c.args.bytes.now.items) c.args.written.now c.loop-span.span-index (record { at = 0; count = 0 }) c.requires c.loop-span-test.true)

pub loop-span-preserved : goal.loop-span-preserved
loop-span-preserved c =
    let spans = c.args.written.now in
    let i = c.loop-span.span-index in
    let none : Span = record { at = 0; count = 0 } in
    let span : Span = get_or spans i none in
    let before = c.args.bytes.now.items in
    let ends : EndsBy (length c.loop-span.bytes.items) (range_of span) =
    omega (arith, c.loop-span.invariant.long, at_index (length c.args.bytes.now.items) c.args.written.now c.loop-span.span-index (record { at = 0; count = 0 }) c.requires c.loop-span-test.true) in
    let one_more : map range_of (take (i + 1) spans) ≡ map range_of (take i spans) ++ range_of span ∷ [] =
    ap (λ (l : List Span). map range_of l) (take_more spans i none c.loop-span-test.true) ∙ map_push (take i spans) span in
    record {
      so_far = c.fill.ensures.bytes ∙ ap (λ (b : List ℕ). filled c.args.byte b (range_of span)) c.loop-span.invariant.so_far
          ∙ sym (fold_push (filled c.args.byte) before (map range_of (take i spans)) (range_of span))
          ∙ ap (λ (l : List Range). fold (filled c.args.byte) before l) (sym one_more);
      long = ap length c.fill.ensures.bytes ∙ same_length c.args.byte c.loop-span.bytes.items (range_of span) ends ∙ c.loop-span.invariant.long;
      capacity = c.fill.ensures.capacity ∙ c.loop-span.invariant.capacity;
    }
