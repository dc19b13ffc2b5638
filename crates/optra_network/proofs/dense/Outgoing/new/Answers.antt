use Rattle.std.proofs.Common.{map, subst, List, Vec, Global}
use Rattle.std.proofs.lemmas.Result.{IfOk-weaker}
use Rattle.optra_network.specs.Tables.{AreOut, AreJoined}
use Rattle.optra_network.specs.declared.TrackId.{TrackId}
use Rattle.optra_network.proofs.OutLemmas.{AreOut-from_joined}
use Rattle.optra_network.proofs.dense.Outgoing.new.Goals as goal

pub returns : goal.returns
returns c =
    let items = λ (list : Vec TrackId Global). list.items in
    IfOk-weaker c.joined.result (AreJoined (map items c.deref.result.now)) (AreOut c.args.tracks.now c.args.stations)
    (λ out j.
    AreOut-from_joined c.args.tracks.now c.args.stations (map items c.in_ok-lists.lists.items) out c.in_ok-lists.ensures
    (subst (λ (lists : List (Vec TrackId Global)). AreJoined (map items lists) out) c.deref.ensures.value j))
    c.joined.ensures
