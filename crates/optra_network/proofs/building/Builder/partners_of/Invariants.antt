use Rattle.std.proofs.Common.{◌≡◌, map}
use Rattle.optra_network.specs.Partners.{partner_at}
use Rattle.optra_network.proofs.PartnerLemmas.{places_below}
use Rattle.optra_network.proofs.building.Builder.partners_of.Given as goal

abbrev pub invariant-loop-place : goal.invariant-loop-place
invariant-loop-place l = l.partners.items ≡ map partner_at (places_below l.self l.track l.kind l.place)
