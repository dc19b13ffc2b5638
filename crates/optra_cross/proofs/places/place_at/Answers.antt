use Rattle.std.proofs.Common.{arith, ap}
use Rattle.std.proofs.lemmas.List.{get_or_default}
use Rattle.optra_network.specs.declared.Crosser.{Crosser}
use Rattle.optra_cross.proofs.SearchLemmas.{cut_next, part_few, place_in_group, total_next}
use Rattle.optra_cross.proofs.places.place_at.Goals as goal

abbrev any_crosser : Crosser
any_crosser = record { track = record { 0 = 0 }; kind = record { 0 = 0 }; before = 0; after = 0 }

pub total-count-requires-clause-few : goal.total-count-requires-clause-few
total-count-requires-clause-few c = part_few c.args.time c.args.crossers.now c.tracks.start c.group_end-end.result 4000 c.requires.few

pub search-requires-clause-few : goal.search-requires-clause-few
search-requires-clause-few c = part_few c.args.time c.args.crossers.now c.tracks.start c.group_end-end.result 4000 c.requires.few

pub returns-then-left-count : goal.returns-then-left-count
returns-then-left-count c =
    let next = cut_next c.args.crossers.now c.tracks.start c.group_end-end.result c.requires.order c.tracks.invariant.cut c.group_end-end.ensures in
    place_in_group c.args.time c.args.crossers.now c.requires.each c.tracks.start c.group_end-end.result _ c.tracks.invariant.cut next c.group_end-end.ensures
    (λ d. ap (λ (x : Crosser). x.track.0) (get_or_default c.args.crossers.now c.tracks.start d any_crosser (let some = c.group_end-end.ensures.some in let within = c.group_end-end.ensures.within in omega arith))) c.args.k c.tracks.left c.search.result c.tracks.invariant.left c.search.ensures.inside c.search.ensures.place

pub tracks-preserved : goal.tracks-preserved
tracks-preserved c =
    let some = c.group_end-end.ensures.some in
    let sum = total_next c.args.time c.args.crossers.now c.requires.each c.tracks.start c.group_end-end.result (omega arith) in
    let left = c.tracks.invariant.left in
    let count = c.total-count.ensures in
    let more = c.if-left-count.false in
    record {
      cut = cut_next c.args.crossers.now c.tracks.start c.group_end-end.result c.requires.order c.tracks.invariant.cut c.group_end-end.ensures;
      left = omega arith;
    }
