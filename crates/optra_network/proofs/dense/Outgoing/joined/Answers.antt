use Rattle.std.proofs.Common.{map, arith, length, ◌<◌, Vec, Global}
use Rattle.std.proofs.lemmas.List.{length-map}
use Rattle.optra_network.specs.declared.TrackId.{TrackId}
use Rattle.optra_network.proofs.OutLemmas.{AreJoinedTo-more, list_at}
use Rattle.optra_network.proofs.dense.Outgoing.joined.Goals as goal

pub loop-list-preserved : goal.loop-list-preserved
loop-list-preserved c =
    let items = λ (list : Vec TrackId Global). list.items in
    let below : c.loop-list.list-index < length c.args.lists.now = omega arith in
    AreJoinedTo-more (map items c.args.lists.now) c.loop-list.list-index c.loop-list.tracks.items _ c.loop-list.starts.items _ c.len.result c.deref.result.now c.loop-list.invariant
    (omega (arith, length-map c.args.lists.now items))
    (list_at items c.args.lists.now c.loop-list.list-index c.list-item.result c.deref.result.now below c.list-item.is c.deref.ensures.value)
    (grind arith) c.in_ok-push.ensures.items
    c.in_ok-extend_from_slice.ensures.items
