use Rattle.std.proofs.Common.{IfSome, ap, sym, subst, ◌∙◌}
use Rattle.optra_network.specs.Net.{Net, IsFromTo}
use Rattle.optra_network.specs.Headways.{hmin_of}
use Rattle.optra_network.specs.NetworkParts.{net_of}
use Rattle.optra_network.proofs.ReadLemmas.{least_read, hmin_is, hmin_range}
use Rattle.optra_network.proofs.finished.Network.hmin.Goals as goal

pub returns-clause-minutes : goal.returns-clause-minutes
returns-clause-minutes c =
    c.above_zero.ensures
    ∙ hmin_is (net_of c.self.inside) c.self.invariant.proper c.args.track c.args.kind c.least.result
    (c.least.ensures ∙ least_read (net_of c.self.inside) c.self.invariant.proper.built c.self.inside.tables.leasts.items c.self.invariant.tables.leasts c.args.track.0 c.args.kind.0)
    ∙ ap (λ (n : Net). hmin_of n c.args.track c.args.kind) c.self.view_is

pub returns-clause-range : goal.returns-clause-range
returns-clause-range c =
    subst (λ o. IfSome o (IsFromTo 1 120)) (sym (returns-clause-minutes c))
    (subst (λ (n : Net). IfSome (hmin_of n c.args.track c.args.kind) (IsFromTo 1 120)) c.self.view_is (hmin_range (net_of c.self.inside) c.self.invariant.proper c.args.track c.args.kind))
