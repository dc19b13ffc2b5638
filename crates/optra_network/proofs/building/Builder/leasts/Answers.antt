use Rattle.optra_network.specs.Tables.{least_at}
use Rattle.optra_network.proofs.TableLemmas.{table_more}
use Rattle.optra_network.proofs.building.Builder.leasts.Goals as goal

pub loop-place-preserved : goal.loop-place-preserved
loop-place-preserved c = table_more (least_at c.args.self.now) c.loop-place.place _ _ _ c.loop-place.invariant c.least.ensures c.in_ok-push.ensures.items
