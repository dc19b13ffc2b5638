use Rattle.std.proofs.Common.{rules}
use Rattle.optra_network.specs.BuilderParts.{net_of}
use Rattle.optra_network.proofs.NetLemmas.{built_with_track}
use Rattle.optra_network.proofs.building.Builder.track.Goals as goal

pub invariant_of-self-2 : goal.invariant_of-self-2
invariant_of-self-2 c =
    built_with_track (net_of c.self.inside) _ c.args.name.now _ (record { tail = record { 0 = c.in-Some-Some.tail }; head = record { 0 = c.in-Some-Some.head } }) c.self.invariant
    (search rules) (search rules) (search rules) c.requires (search rules) (search rules, search rules, search rules)
