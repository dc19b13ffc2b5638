use Rattle.std.proofs.Common.{◌≡◌, ◌↔◌, sym, subst}
use Rattle.std.specs.declared.cmp.Ordering.{Ordering}
use Rattle.std.specs.declared.cmp.Ordering.TheVariants.{Equal}
use Rattle.optra_network.specs.Net.{Net}
use Rattle.optra_bid.specs.Specs.{Path}
use Rattle.optra_walk.specs.Walks.{IsWalk}
use Rattle.optra_walk.proofs.OrderLemmas.{walk_cmp_total, tie_is_same}
use Rattle.optra_walk.proofs.ordering.walk_order.Goals as goal

pub returns-clause-total : goal.returns-clause-total
returns-clause-total c = walk_cmp_total

pub returns-clause-same : goal.returns-clause-same
returns-clause-same c =
    λ (net : Net) (path : Path) (walk : IsWalk net path c.args.a.now) (other : IsWalk net path c.args.b.now).
    subst (λ (o : Ordering). (o ≡ Equal) ↔ (c.args.a.now ≡ c.args.b.now)) (sym c.compare_walks.ensures) (tie_is_same net path c.args.a.now c.args.b.now walk other)
