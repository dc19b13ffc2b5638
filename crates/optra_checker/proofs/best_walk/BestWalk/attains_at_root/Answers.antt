use Rattle.std.proofs.Common.{List, sym, subst}
use Rattle.std.specs.Prelude.{All}
use Rattle.optra_network.specs.declared.TypeId.{TypeId}
use Rattle.optra_walk.specs.declared.Leg.{Leg}
use Rattle.optra_walk.specs.Families.{IsUsable}
use Rattle.optra_walk.proofs.UsableLemmas.{walk_usable}
use Rattle.optra_checker.proofs.best_walk.BestWalk.attains_at_root.Goals as goal

pub all_keep_off-requires-clause-usable : goal.all_keep_off-requires-clause-usable
all_keep_off-requires-clause-usable g c =
    let net = c.args.net.now in
    let legs = c.args.self.now.legs.items in
    subst (λ (ls : List Leg). All (IsUsable net c.kind_of.result) ls) (sym c.legs.ensures)
    (subst (λ (kind : TypeId). All (IsUsable net kind) legs) (sym c.kind_of.ensures) (walk_usable net c.laws.ensures c.args.bid.now legs (c.attains.ensures c.if-not-attains.false).walk))
