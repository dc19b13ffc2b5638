use Rattle.std.proofs.Common.{◌≡◌, ◌+◌, ◌<◌, [], ℕ, length, map, get_or, Vec, Global, sym, ap, ◌∙◌, subst, arith}
use Rattle.std.proofs.lemmas.List.{get_or-map, length-map, map-set}
use Rattle.std.specs.List.Sorted.{IsPermutation}
use Rattle.optra_network.specs.declared.Crosser.{Crosser}
use Rattle.optra_network.proofs.CrosserLemmas.{IsSortedTo, sorted_more}
use Rattle.optra_network.proofs.building.crossers.sort_each.Goals as goal

pub loop-place-preserved : goal.loop-place-preserved
loop-place-preserved c =
    let items = λ (list : Vec Crosser Global). list.items in
    let old = map items c.args.lists.now.items in
    let lists = c.loop-place.lists.items in
    let n = c.loop-place.place in
    let len = c.loop-place.invariant.len in
    let long = length-map lists items in
    let was = length-map c.args.lists.now.items items in
    let below : n < length lists = omega arith in
    let before : c.index_mut.result.now.items ≡ get_or (map items lists) n [] =
    ap items c.index_mut.ensures.value ∙ sym (get_or-map items lists n c.index_mut.result.now [] below) in
    subst (λ xs. IsSortedTo old xs (n + 1)) (sym (map-set items lists n c.sort_unstable.new.self))
    (sorted_more old (map items lists) n c.sort_unstable.new.self.items c.loop-place.invariant (omega arith)
    (subst (λ xs. IsPermutation xs c.sort_unstable.new.self.items) before c.sort_unstable.ensures.permutation) c.sort_unstable.ensures.sorted)
