use Rattle.std.proofs.Common.{map}
use Rattle.optra_network.proofs.OutLemmas.{AreJoinedTo}
use Rattle.optra_network.proofs.dense.Outgoing.joined.Given as goal

abbrev pub invariant-loop-list : goal.invariant-loop-list
invariant-loop-list l = AreJoinedTo (map (λ v. v.items) l.lists) l.list-index l.tracks.items l.starts.items
