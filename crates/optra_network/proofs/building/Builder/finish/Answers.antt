use Rattle.std.proofs.Common.{sym, subst}
use Rattle.optra_network.specs.Net.{Net, HasAllHeadways, HasBothWays, IsWithinReach}
use Rattle.optra_network.specs.Tables.{AreTables}
use Rattle.optra_network.proofs.building.Builder.finish.Goals as goal

pub invariant_of-result : goal.invariant_of-result
invariant_of-result c = record {
  proper = record {
    built = c.self.invariant;
    complete = subst HasAllHeadways (sym c.self.view_is) c.in_ok-tables.ensures.complete;
    both_ways = subst HasBothWays (sym c.self.view_is) c.in_ok-tables.ensures.both_ways;
    within_reach = subst IsWithinReach (sym c.self.view_is) c.in_ok-tables.ensures.within_reach;
  };
  tables = subst (λ (n : Net). AreTables n c.in_ok-tables.tables) (sym c.self.view_is) c.in_ok-tables.ensures.tables;
}
