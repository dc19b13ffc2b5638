use Rattle.std.proofs.Common.{map, ap, ◌∙◌}
use Rattle.std.proofs.lemmas.List.{map_push}
use Rattle.optra_network.specs.Partners.{partners_at}
use Rattle.optra_network.proofs.TableLemmas.{table_more}
use Rattle.optra_network.proofs.building.Builder.partners.Goals as goal

pub loop-place-preserved : goal.loop-place-preserved
loop-place-preserved c =
    table_more (partners_at c.args.self.now) c.loop-place.place _ _ _ c.loop-place.invariant c.in_ok-list.ensures
    (ap (map (λ list. list.items)) c.in_ok-push.ensures.items ∙ map_push (λ list. list.items) c.loop-place.partners.items c.in_ok-list.list)
