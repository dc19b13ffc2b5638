use Rattle.std.proofs.Common.{sym, subst}
use Rattle.optra_network.specs.Net.{IsBuilt}
use Rattle.optra_network.proofs.NetLemmas.{built_empty}
use Rattle.optra_network.proofs.building.Builder.new.Goals as goal

pub invariant_of-result : goal.invariant_of-result
invariant_of-result c =
    subst IsBuilt (λ i. record {
      stations = sym c.new.ensures i;
      track_names = sym c.new-2.ensures i;
      tracks = sym c.new-3.ensures.items i;
      types = sym c.new-4.ensures i;
      running = sym c.new-5.ensures.empty i;
      headways = sym c.new-6.ensures.empty i;
      crossings = sym c.new-7.ensures.empty i;
      limits = sym c.new-8.ensures.empty i;
    }) built_empty
