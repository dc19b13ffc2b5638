use Rattle.std.proofs.Common.{length, refl, sym, ap, subst, arith}
use Rattle.std.specs.Prelude.{IfSome}
use Rattle.optra_network.specs.declared.TypeId.{TypeId}
use Rattle.optra_checker.specs.Frees.{free_weights}
use Rattle.optra_rests.specs.Weights.{IsBestWorth, IsWorthSize}
use Rattle.optra_checker.proofs.frees.find_free.Goals as goal

pub search-worth-requires-clause-path : goal.search-worth-requires-clause-path
search-worth-requires-clause-path g c = c.requires

pub search-worth-requires-clause-weights : goal.search-worth-requires-clause-weights
search-worth-requires-clause-weights g c = record { net_is = refl; kind_is = c.kind_of.ensures }

pub returns-then-attains_at_root : goal.returns-then-attains_at_root
returns-then-attains_at_root g c =
    let net = c.args.net.now in
    let bid = c.args.bid.now in
    record {
      depth = refl;
      best = subst (λ (kind : TypeId). IsBestWorth (free_weights net kind) net bid c.in_ok-worth.worth) c.kind_of.ensures c.in_ok-worth.ensures.best;
      size = c.in_ok-worth.ensures.size;
      walk = λ some. c.attains_at_root.ensures.walk c.if-attains_at_root.true;
      fits = λ some. c.attains_at_root.ensures.fits c.if-attains_at_root.true;
    }

pub returns : goal.returns
returns g c =
    let net = c.args.net.now in
    let bid = c.args.bid.now in
    let worth = sym c.without_legs.ensures.worth in
    let none = ap length c.without_legs.ensures.legs in
    record {
      depth = c.without_legs.ensures.depth;
      best = subst (IsBestWorth (free_weights net bid.path.kind) net bid) worth (subst (λ (kind : TypeId). IsBestWorth (free_weights net kind) net bid c.in_ok-worth.worth) c.kind_of.ensures c.in_ok-worth.ensures.best);
      size = subst (λ w. IfSome w IsWorthSize) worth c.in_ok-worth.ensures.size;
      walk = λ some. absurd (omega (arith, some, none));
      fits = λ some. absurd (omega (arith, some, none));
    }
